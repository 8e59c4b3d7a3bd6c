-- A command has few words.
use Rattle.std.proofs.Common.{◌≡◌, ℕ, ◌+◌, ◌≤◌, List, [], ◌∷◌, length, refl, ap, arith}
use Rattle.std.proofs.lemmas.List.{length-append}
use Rattle.ca_commands.specs.declared.names.Name.{Name}
use Rattle.ca_commands.specs.declared.names.Name.TheVariants as name
use Rattle.ca_commands.specs.Commands.{AreOperands, Command, IsBeginning, IsCommand, form_of, rule_count}

-- a name with at most two rules, and with none if its operands say where many rules begin
record HasFewRules (n : Name) : Type 0 where
  pub most : rule_count n ≤ 2
  pub none : (text : List ℕ) → IsBeginning (form_of n) text → rule_count n ≡ 0

-- each name has at most two rules, and none if its operands say where many rules begin
few_rules : (n : Name) → HasFewRules n
few_rules name.Survey = record { most = omega arith; none = λ text begins. refl }
few_rules name.Sample = record { most = omega arith; none = λ text begins. refl }
few_rules name.Classes = record { most = omega arith; none = λ text begins. refl }
few_rules _ = record { most = omega arith; none = λ text begins. absurd begins }

-- the rules and the operands of a command are at most four words
few_words : (n : Name) (operands : List (List ℕ)) → AreOperands (form_of n) operands → rule_count n + length operands ≤ 4
few_words n [] are = omega (arith, (few_rules n).most)
few_words n (text ∷ []) are = omega (arith, (few_rules n).most)
few_words n (states ∷ width ∷ from ∷ count ∷ []) are = omega (arith, (few_rules n).none from are.2)
few_words n _ are = absurd are

-- a command has at most five words
pub IsCommand-short : {words : List (List ℕ)} {c : Command} → IsCommand words c → length words ≤ 5
IsCommand-short {c = c} is = omega (arith, ap length is.words_are, length-append c.rules c.operands, is.rules, few_words c.name c.operands is.operands)
