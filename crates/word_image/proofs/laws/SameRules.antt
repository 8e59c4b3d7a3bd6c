-- Two rules are one exactly where their parts are equal.
use Rattle.std.proofs.Common.{◌≡◌, Decides, arith}
use Rattle.std.proofs.lemmas.Slice.Eq.{slice_eq-Decides}
use Rattle.word_image.specs.LocalRules.{LocalRule}
use Rattle.word_image.specs.SameRules.{same_rule}

-- rules with equal parts are one
pub rule_from_parts : {r s : LocalRule} → r.states ≡ s.states → r.width ≡ s.width → r.offset ≡ s.offset → r.table ≡ s.table → r ≡ s
rule_from_parts states width offset table = grind arith

-- the test of two rules tells whether they are one
pub Decides-same_rule : (r s : LocalRule) → Decides (same_rule r s) (r ≡ s)
Decides-same_rule r s = grind (arith, slice_eq-Decides)
