-- The verdicts on six properties of a rule whose letters weigh their own values, each yes or no, and all these
-- verdicts as one byte.
use Rattle.std.specs.Prelude.{ℕ, ◌+◌, ◌*◌, ◌&&◌}
use Rattle.std.specs.Int.{from_bool}
use Rattle.word_image.specs.LocalRules.{LocalRule}
use Rattle.word_image.specs.Weights.{own_weights}
use Rattle.cert_conditions.specs.declared.verdicts.Verdicts.{Verdicts}
use Rattle.cert_conditions.specs.Accepted.{AreTrue}
use Rattle.rule_verdicts.specs.declared.truths.Truths.{Truths}

-- the verdicts on a rule, in the form that a certificate has
abbrev pub said_of : LocalRule → Truths → Verdicts
said_of r t = record {
  rule = r;
  weights = own_weights r.states;
  surjective = t.surjective;
  injective = t.injective;
  right = t.right;
  left = t.left;
  conserving = t.conserving;
}

-- each verdict is true of the rule
abbrev pub AreTruths : LocalRule → Truths → Type 0
AreTruths r t = AreTrue (said_of r t)

-- the byte of the verdicts: the sum of 1 if the rule is surjective, 2 if injective, 4 if right-closing, 8 if left-closing, 16 if open, and 32 if conserving
abbrev pub byte_of : Truths → ℕ
byte_of t =
    from_bool t.surjective + 2 * from_bool t.injective + 4 * from_bool t.right + 8 * from_bool t.left + 16 * from_bool (t.right && t.left) + 32 * from_bool t.conserving
