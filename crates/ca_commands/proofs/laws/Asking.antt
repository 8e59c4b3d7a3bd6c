-- What comes of words, once their operands are read.
use Rattle.std.proofs.Common.{◌≡◌, ℕ, List, [], ◌∷◌, ◌++◌, length, sym, ap, subst, ◌∙◌, Result, Ok, Err, IsErrAnd, MatchResult}
use Rattle.word_image.proofs.Common.{err_from_is_err_and, LocalRule}
use Rattle.rule_text.specs.RuleTexts.{IsRuleText}
use Rattle.ca_commands.specs.declared.names.Name.{Name}
use Rattle.ca_commands.specs.Commands.{AreOperands, IsCommand, form_of, rule_count, word_of}
use Rattle.ca_questions.proofs.Common.{Question}
use Rattle.ca_commands.specs.declared.word_fault.WordFault.{WordFault}
use Rattle.ca_commands.specs.Asked.{AreRuleTexts, Asks, IsFirstFault, IsOperandFault}
use Rattle.ca_commands.specs.Asking.{Ask, IsCall, IsRuleFault, IsWordFault, command_of}

-- what words ask, where their rules are read
pub asks : {words : List (List ℕ)} {n m : Name} {rules : List LocalRule} {operands : List (List ℕ)} {q : Question} → n ≡ m
    → IsCall words n rules operands → Asks m rules operands q → Ask words q
asks {n = n} {rules = rules} {operands = operands} {q = q} same call asked =
    record { command = command_of n call.texts operands; is = call.is; asked = record { rules = rules; texts = call.says; asks = subst (λ k. Asks k rules operands q) (sym same) asked } }

-- a text of a rule, and texts of two, are texts of rules
one_text : {text : List ℕ} {r : LocalRule} → IsRuleText text r → AreRuleTexts (text ∷ []) (r ∷ [])
one_text says = AreRuleTexts.More _ _ _ _ says AreRuleTexts.NoText

pub two_texts : {first second : List ℕ} {r s : LocalRule} → IsRuleText first r → IsRuleText second s → AreRuleTexts (first ∷ second ∷ []) (r ∷ s ∷ [])
two_texts says also = AreRuleTexts.More _ _ _ _ says (one_text also)

-- words behind a name are those of its command
pub command : (n : Name) {rest : List (List ℕ)} (rules operands : List (List ℕ)) → rest ≡ rules ++ operands → length rules ≡ rule_count n
    → AreOperands (form_of n) operands
    → IsCommand (word_of n ∷ rest) (command_of n rules operands)
command n rules operands same many are = record { words_are = ap (λ ws. word_of n ∷ ws) same; rules = many; operands = are }

-- words come to nothing where what is read of them does
pub failed : {A : Type 0} (P : A → Type 0) (words : List (List ℕ)) (s : WordFault) (result : Result A WordFault) → IsWordFault words s → IsErrAnd result (λ e. e ≡ s)
    → MatchResult result P (IsWordFault words)
failed P words s result nothing is =
    let err = err_from_is_err_and result is in subst (λ r. MatchResult r P (IsWordFault words)) (sym (err.1 ∙ ap Err err.2)) nothing

-- words behind a name whose rule is read
pub read_one : (n : Name) {rest operands : List (List ℕ)} {text : List ℕ} {r : LocalRule} → rest ≡ text ∷ operands → rule_count n ≡ 1
    → AreOperands (form_of n) operands → IsRuleText text r
    → IsCall (word_of n ∷ rest) n (r ∷ []) operands
read_one n {operands = operands} {text = text} same one are says = record { texts = text ∷ []; is = command n (text ∷ []) operands same (sym one) are; says = one_text says }

-- words behind a name whose first text, or whose second, isn't one of a rule
pub first_refused : (n : Name) {rest : List (List ℕ)} {text : List ℕ} {s : WordFault} (texts operands : List (List ℕ)) → rest ≡ (text ∷ texts) ++ operands
    → length (text ∷ texts) ≡ rule_count n
    → AreOperands (form_of n) operands → IsRuleFault 1 text s → IsWordFault (word_of n ∷ rest) s
first_refused n {rest} {text} texts operands same many are refusal =
    let c = command_of n (text ∷ texts) operands in
    let fault : IsFirstFault (text ∷ texts) 1 refusal.fault = IsFirstFault.Here text texts _ refusal.first in
    subst (IsWordFault (word_of n ∷ rest)) (sym refusal.is) (c, command n (text ∷ texts) operands same many are, IsOperandFault.OfRule c 1 _ fault)

pub second_refused : (n : Name) {rest : List (List ℕ)} {first text : List ℕ} {r : LocalRule} {s : WordFault} → rest ≡ first ∷ text ∷ [] → 2 ≡ rule_count n
    → AreOperands (form_of n) [] → IsRuleText first r
    → IsRuleFault 2 text s → IsWordFault (word_of n ∷ rest) s
second_refused n {rest} {first} {text} {r} same two are says refusal =
    let fault : IsFirstFault (first ∷ text ∷ []) 2 refusal.fault = IsFirstFault.Later first _ r 1 _ says (IsFirstFault.Here text [] _ refusal.first) in
    let c = command_of n (first ∷ text ∷ []) [] in
    subst (IsWordFault (word_of n ∷ rest)) (sym refusal.is) (c, command n (first ∷ text ∷ []) [] same two are, IsOperandFault.OfRule c 2 _ fault)

-- a text is read as the one rule of a command that has no operand
pub only_rule : (n : Name) {rest : List (List ℕ)} {text : List ℕ} (result : Result LocalRule WordFault) → rest ≡ text ∷ [] → rule_count n ≡ 1
    → AreOperands (form_of n) []
    → MatchResult result (IsRuleText text) (IsRuleFault 1 text)
    → MatchResult result (λ r. IsCall (word_of n ∷ rest) n (r ∷ []) []) (IsWordFault (word_of n ∷ rest))
only_rule n (Ok r) same one are says = read_one n same one are says
only_rule n (Err s) same one are refusal = first_refused n [] [] same (sym one) are refusal

-- the questions of commands that take rules and nothing else, and why such a command asks none
pub ruleset asking = (asks, failed, Asks.Orphan, Asks.Number, Asks.Reflect, Asks.Trim, Asks.Compose, Asks.Least, Asks.Lift, Asks.Unlift, Asks.Inverse, Asks.Language, Asks.Same, Asks.Erase)
