use Rattle.std.proofs.Common.{◌≡◌, ℕ, ◌+◌, ◌*◌, ◌^◌, ◌<◌, slice_index, ap, ◌∙◌, arith}
use Rattle.word_image.proofs.Common.{LocalRule, IsRule, node_count, window_count-le}
use Rattle.rule_classes.specs.Colourings.{IsColouring, old_value}
use Rattle.rule_classes.specs.Tables.{IsRow}
use Rattle.rule_classes.specs.declared.colourings.Colouring.{Colouring}
use Rattle.rule_classes.specs.declared.colourings.Row.{Row}
use Rattle.rule_classes.proofs.laws.Readings.{old_value-below, entry-read, window-below}
use Rattle.rule_classes.proofs.colourings.Colouring.read.Goals as goal

-- what the row has at a letter is the value of a window
value_at : {r : LocalRule} {c : Colouring} {row : Row} (u a : ℕ) {i : ℕ} → IsRule r → IsColouring r.states c → u < node_count r → IsRow r c u row
    → a < r.states → i ≡ a
    → (row.start + slice_index c.letters i * row.step ≡ old_value r c (u * r.states + a)) × (old_value r c (u * r.states + a) < r.states ^ r.width)
value_at {r} {c} {row} u a rule colouring node is letter same =
    (ap (λ j. row.start + slice_index c.letters j * row.step) same ∙ is.values a letter, old_value-below r c (u * r.states + a) colouring (window-below rule u a node letter))

pub window-old-requires : goal.window-old-requires
window-old-requires c = grind (arith, value_at, window_count-le)

pub at-given-requires : goal.at-given-requires
at-given-requires c = grind (arith, value_at)

pub returns-clause-old : goal.returns-clause-old
returns-clause-old c u node row = c.window-old.ensures ∙ (value_at u c.args.letter c.requires.rule c.requires.colouring node row c.requires.letter c.from.ensures).0

pub returns-clause-colour : goal.returns-clause-colour
returns-clause-colour c u node row =
    let r = c.args.rule.now in
    let old = c.from-2.ensures ∙ returns-clause-old c u node row in
    ap (slice_index c.args.self.now.colours) (c.from-3.ensures ∙ c.at-given.ensures.entry ∙ ap (slice_index r.table) old)
    ∙ entry-read r c.args.self.now (u * r.states + c.args.letter) c.requires.colouring (window-below c.requires.rule u c.args.letter node c.requires.letter)
