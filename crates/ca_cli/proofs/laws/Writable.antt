-- What is right for words can be written.
use Rattle.std.proofs.Common.{ℕ, List, ◌∷◌, inl, inr, Option, ◌⊎◌}
use Rattle.std.specs.Prelude.{⊤}
use Rattle.word_image.proofs.Common.{LocalRule, IsRule}
use Rattle.rule_text.proofs.laws.AcceptedRules.{IsRule-text}
use Rattle.ca_commands.specs.declared.names.Name.{Name}
use Rattle.ca_questions.proofs.Common.{Question, AreRules, Finding, Cause, IsFinding, IsCauseFor, Reply}
use Rattle.ca_questions.specs.Writable.{IsWritable, IsWritableCause, IsWritableReply}
use Rattle.ca_commands.specs.Commands.{Command}
use Rattle.ca_commands.specs.Asked.{AreRuleTexts, Asks}
use Rattle.ca_cli.specs.RightAnswers.{IsReply, IsReplyTo}

-- the question is one of many rules
abbrev pub IsOfMany : Question → Type 0
IsOfMany (Question.Summary rules) = ⊤
IsOfMany (Question.Classes rules) = ⊤
IsOfMany _ = ⊥

-- the first of some rules that are read is an accepted one
first_rule : {texts : List (List ℕ)} {r : LocalRule} {rules : List LocalRule} → AreRuleTexts texts (r ∷ rules) → IsRule r
first_rule (AreRuleTexts.More text texts r rules says rest) = IsRule-text says

-- the second of some rules that are read is an accepted one
second_rule : {texts : List (List ℕ)} {r s : LocalRule} {rules : List LocalRule} → AreRuleTexts texts (r ∷ s ∷ rules) → IsRule s
second_rule (AreRuleTexts.More text texts r rules says rest) = first_rule rest

-- a question is one of many rules, or its rules are accepted ones
pub AreRules-asked : {texts : List (List ℕ)} {n : Name} {rules : List LocalRule} {operands : List (List ℕ)} {q : Question} → AreRuleTexts texts rules
    → Asks n rules operands q → IsOfMany q ⊎ AreRules q
AreRules-asked are (Asks.Survey k m from count none) = inl tt
AreRules-asked are (Asks.Sample k m seed count none) = inl tt
AreRules-asked are (Asks.Classes k m from count none) = inl tt
AreRules-asked are (Asks.Compose r s) = inr (first_rule are, second_rule are)
AreRules-asked are (Asks.Same r s) = inr (first_rule are, second_rule are)
AreRules-asked are _ = inr (first_rule are)

-- what is found of many rules are counts
found_of_many : {q : Question} {f : Finding} → IsOfMany q → IsFinding q f → IsWritable f
found_of_many many (IsFinding.Summary rules counts are) = tt
found_of_many many (IsFinding.Classes rules leasts counts are least) = tt
found_of_many many _ = absurd many

-- a question of many rules has no cause for which nothing fits
cause_of_many : {q : Question} {u : Cause} → IsOfMany q → IsCauseFor q u → ⊥
cause_of_many many (IsCauseFor.States r s apart) = many
cause_of_many many _ = many

-- right findings of accepted rules can be written, and right causes
abbrev pub AreWritable : Type 0
AreWritable = ((q : Question) (f : Finding) → AreRules q → IsFinding q f → IsWritable f) × ((q : Question) (u : Cause) → AreRules q → IsCauseFor q u → IsWritableCause u)

-- a right reply to a command can be written
reply_writable : {input : Option (List ℕ)} {c : Command} {reply : Reply} → AreWritable → IsReply input c reply → IsWritableReply reply
reply_writable law (IsReply.Found c q f asked right) = elim (AreRules-asked asked.texts asked.asks) [ inl many ↦ found_of_many many right | inr are ↦ law.0 q f are right ]
reply_writable law (IsReply.NotFit c q u asked unfits) = elim (AreRules-asked asked.texts asked.asks) [ inl many ↦ absurd (cause_of_many many unfits) | inr are ↦ law.1 q u are unfits ]
reply_writable law _ = tt

-- a right reply to words can be written
pub IsReplyTo-writable : {words : List (List ℕ)} {input : Option (List ℕ)} {reply : Reply} → AreWritable → IsReplyTo words input reply
    → IsWritableReply reply
IsReplyTo-writable law (IsReplyTo.Usage none) = tt
IsReplyTo-writable law (IsReplyTo.Right c reply is right) = reply_writable law right
