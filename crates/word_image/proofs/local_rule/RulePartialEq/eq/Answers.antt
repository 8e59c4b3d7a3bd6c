use Rattle.std.proofs.Common.{◌≡◌, ◌^◌, ℕ, List, take, sym, ap, ap₂, ◌∙◌, arith}
use Rattle.std.proofs.lemmas.Slice.Eq.{slice_eq-Decides}
use Rattle.word_image.proofs.Common.{Decides-eqb, same_from_decides}
use Rattle.word_image.specs.LocalRules.{LocalRule}
use Rattle.word_image.specs.SameRules.{same_rule}
use Rattle.word_image.specs.Storage.{padded, in_row-take}
use Rattle.word_image.proofs.laws.SameRules.{rule_from_parts, Decides-same_rule}
use Rattle.word_image.proofs.local_rule.RulePartialEq.eq.Goals as goal

pub returns-then-self-other-3-clause-same : goal.returns-then-self-other-3-clause-same
returns-then-self-other-3-clause-same c =
    let a = c.self.inside in
    let b = c.other.inside in
    let states : a.k ≡ b.k = grind arith in
    let width : a.m ≡ b.m = grind arith in
    let whole = slice_eq-Decides Decides-eqb a.entries b.entries c.eq.result c.eq.ensures in
    let kept = λ (n : ℕ) (entries : List ℕ). take n entries in (
      λ yes. sym c.self.view_is ∙ rule_from_parts states width (grind arith) (ap₂ kept (ap₂ (λ (k m : ℕ). k ^ m) states width) (whole.0 yes)) ∙ c.other.view_is,
      λ same.
          let table = ap (λ (r : LocalRule). padded r.table) (c.self.view_is ∙ same ∙ sym c.other.view_is) in
          whole.1 (sym (in_row-take 256 _ a.entries c.self.invariant.0.entries c.self.invariant.1) ∙ table ∙ in_row-take 256 _ b.entries c.other.invariant.0.entries c.other.invariant.1),
    )

pub returns-then-self-other-3-clause-parts : goal.returns-then-self-other-3-clause-parts
returns-then-self-other-3-clause-parts c =
    same_from_decides c.eq.result (same_rule c.args.self.now c.args.other.now) (returns-then-self-other-3-clause-same c) (Decides-same_rule c.args.self.now c.args.other.now)
