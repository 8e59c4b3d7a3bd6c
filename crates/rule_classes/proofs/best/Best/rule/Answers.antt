use Rattle.std.proofs.Common.{◌≡◌, ℕ, ◌^◌, List, take, pos, IfOk, refl, sym, ap₂, subst, ◌∙◌}
use Rattle.word_image.proofs.Common.{LocalRule, IsRule, padded, rule_from_parts}
use Rattle.word_image.proofs.Storage.{take-in_row}
use Rattle.rule_classes.specs.Colourings.{IsColouring, in_colours}
use Rattle.rule_classes.specs.declared.colourings.Colouring.{Colouring}
use Rattle.rule_classes.proofs.laws.Colourings.{IsRule-in_colours}
use Rattle.rule_classes.proofs.best.Best.rule.Goals as goal

-- parts that are those of the recoloured rule make that rule
parts : {r : LocalRule} (c : Colouring) (k m size : ℕ) (entries : List ℕ) → IsRule r → IsColouring r.states c → k ≡ r.states → m ≡ r.width
    → size ≡ r.states ^ r.width → entries ≡ padded (in_colours r c).table
    → record { states = k; width = m; offset = pos 0; table = take size entries } ≡ in_colours r c
parts {r} c k m size entries rule colouring states width long same =
    rule_from_parts states width refl
    (ap₂ (λ (n : ℕ) (xs : List ℕ). take n xs) long same ∙ take-in_row 256 (r.states ^ r.width) (in_colours r c).table (IsRule-in_colours c rule colouring).entries)

pub unwrap-requires : goal.unwrap-requires
unwrap-requires c =
    let rule = c.k.ensures.rule in
    let same = parts c.args.self.now.colouring c.k.result c.m.result c.from-size.result c.args.self.now.entries rule c.requires.colouring c.k.ensures.states c.m.ensures.width (c.from-size.ensures ∙ c.size.ensures.size) c.requires.entries in
    c.new.ensures.accepted.1 (subst IsRule (sym same) (IsRule-in_colours c.args.self.now.colouring rule c.requires.colouring))

pub returns : goal.returns
returns c =
    let same = parts c.args.self.now.colouring c.k.result c.m.result c.from-size.result c.args.self.now.entries c.k.ensures.rule c.requires.colouring c.k.ensures.states c.m.ensures.width (c.from-size.ensures ∙ c.size.ensures.size) c.requires.entries in
    subst (λ x. IfOk x (λ g. g ≡ record { states = c.k.result; width = c.m.result; offset = pos 0; table = take c.from-size.result c.args.self.now.entries })) c.unwrap.ensures c.new.ensures.rule ∙ same
