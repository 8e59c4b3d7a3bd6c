-- Which words stand behind the name of a command with one rule, and with weights or none.
use Rattle.std.proofs.Common.{◌≡◌, ◌≢◌, ℕ, List, [], ◌∷◌, ◌++◌, length, sym, ap, ◌∙◌, arith}
use Rattle.std.specs.Bool.{⊤}
use Rattle.ca_commands.specs.declared.names.Name.{Name}
use Rattle.ca_commands.specs.Commands.{AreOperands, Command, Form, IsCommand, form_of, rule_count, word_of}
use Rattle.ca_commands.specs.WeightTexts.{AreWeightTexts}
use Rattle.ca_commands.proofs.laws.Names.{word_of-injective}

-- the words are one, or two of which the second lists weights
abbrev AreWeightWords : List (List ℕ) → Type 0
AreWeightWords (text ∷ []) = ⊤
AreWeightWords (text ∷ list ∷ []) = AreWeightTexts list
AreWeightWords _ = ⊥

AreWeightWords-operands : (rules operands : List (List ℕ)) → length rules ≡ 1 → AreOperands Form.Weights operands → AreWeightWords (rules ++ operands)
AreWeightWords-operands (text ∷ []) [] one are = tt
AreWeightWords-operands (text ∷ []) (list ∷ []) one are = are
AreWeightWords-operands (text ∷ []) (a ∷ b ∷ c ∷ d ∷ []) one are = absurd are.2
AreWeightWords-operands (text ∷ []) _ one are = absurd are
AreWeightWords-operands _ _ one are = absurd (omega (arith, one))

-- behind the name of such a command stand a rule, and weights or nothing
pub AreWeightWords-behind : (n : Name) {rest : List (List ℕ)} {c : Command} → rule_count n ≡ 1 → form_of n ≡ Form.Weights
    → IsCommand (word_of n ∷ rest) c → AreWeightWords rest
AreWeightWords-behind n {rest} {c} one form is =
    let same : c.name ≡ n = sym (word_of-injective n c.name cc) in
    let split : rest ≡ c.rules ++ c.operands = cc in
    rw split (AreWeightWords-operands c.rules c.operands (is.rules ∙ ap rule_count same ∙ one) (rw (ap form_of same ∙ form) at is.operands))

-- such words are one or two
pub AreWeightWords-few : (rest : List (List ℕ)) → AreWeightWords rest → length rest ≢ 1 → length rest ≡ 2
AreWeightWords-few [] are other = absurd are
AreWeightWords-few (a ∷ []) are other = absurd (omega (arith, other))
AreWeightWords-few (a ∷ b ∷ []) are other = omega arith
AreWeightWords-few (a ∷ b ∷ c ∷ rest) are other = absurd are
