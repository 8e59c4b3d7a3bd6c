-- What the C library returns to a call for the verdicts on a rule.
use Rattle.std.specs.Prelude.{◌≡◌, ℕ, false, Option, Some, None}
use Rattle.word_image.specs.declared.local_rule.RuleFault.{RuleFault}
use Rattle.word_image.specs.declared.local_rule.RuleFault.TheVariants.{States, Width, Nodes, Offset, Length, Letter}
use Rattle.rule_verdicts.specs.declared.truths.Truths.{Truths}
use Rattle.c_structs.specs.declared.table_verdicts.RuleVerdicts.{RuleVerdicts}

-- the code of a fault, or 0 if there is no fault
abbrev pub fault_code : Option RuleFault → ℕ
fault_code None = 0
fault_code (Some States) = 1
fault_code (Some Width) = 2
fault_code (Some Nodes) = 3
fault_code (Some Offset) = 4
fault_code (Some Length) = 5
fault_code (Some (Letter place)) = 6

-- the verdicts in the struct v
abbrev pub truths_in : RuleVerdicts → Truths
truths_in v = record { surjective = v.surjective; injective = v.injective; right = v.right; left = v.left; conserving = v.conserving }

-- the struct says nothing about a rule: all its verdicts are false
pub record AreNone (v : RuleVerdicts) : Type 0 where
  pub surjective : v.surjective ≡ false
  pub injective : v.injective ≡ false
  pub right : v.right ≡ false
  pub left : v.left ≡ false
  pub is_open : v.is_open ≡ false
  pub conserving : v.conserving ≡ false
