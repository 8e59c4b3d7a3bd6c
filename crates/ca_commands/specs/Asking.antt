-- The words of a command line may be a command, which asks a question. This file defines which question the words ask,
-- and the reasons why the words get no answer to a question.
use Rattle.std.specs.Prelude.{◌≡◌, ℕ, List, [], ◌∷◌, None, ◌⊎◌}
use Rattle.word_image.specs.LocalRules.{LocalRule}
use Rattle.rule_text.specs.declared.text_fault.TextFault.{TextFault}
use Rattle.rule_text.specs.RuleTexts.{IsTextFault, decimal_value}
use Rattle.ca_commands.specs.declared.names.Name.{Name}
use Rattle.ca_commands.specs.declared.names.Name.TheVariants as name
use Rattle.ca_commands.specs.Commands.{Command, IsCommand, word_of}
use Rattle.ca_commands.specs.declared.word_fault.WordFault.{WordFault}
use Rattle.ca_commands.specs.declared.word_fault.WordFault.TheVariants as word
use Rattle.ca_questions.specs.declared.question.Numbered.{Numbered}
use Rattle.ca_questions.specs.declared.question.Drawn.{Drawn}
use Rattle.ca_questions.specs.declared.question.Question as code
use Rattle.ca_questions.specs.QuestionValues.{AreNumbered, AreDrawn, IsWhole, question_of}
use Rattle.ca_questions.specs.Questions.{AnswerNeedsMemory, Question}
use Rattle.ca_questions.specs.Samples.{sample_fault}
use Rattle.ca_questions.specs.Findings.{IsCauseFor, Cause}
use Rattle.ca_commands.specs.Asked.{AreRuleTexts, IsAsked, IsOperandFault}

-- the command of this name, with the texts of its rules and its operands
abbrev pub command_of : Name → List (List ℕ) → List (List ℕ) → Command
command_of n rules operands = record { name = n; rules = rules; operands = operands }

-- the words are a command of the name n, with the texts of these rules and with these operands
pub record IsCall (words : List (List ℕ)) (n : Name) (rules : List LocalRule) (operands : List (List ℕ)) : Type 0 where
  pub texts : List (List ℕ)
  pub is : IsCommand words (command_of n texts operands)
  pub says : AreRuleTexts texts rules

-- the words are a command that asks the question
pub record Ask (words : List (List ℕ)) (q : Question) : Type 0 where
  pub command : Command
  pub is : IsCommand words command
  pub asked : IsAsked command q

-- the words ask the question that the value q of the code represents, and the parts of q fit together
abbrev pub IsAskedBy : List (List ℕ) → code.Question → Type 0
IsAskedBy words q = Ask words (question_of q) × IsWhole q

-- the words are the command `check`, or they ask a question whose answer may need memory besides a room
abbrev pub NeedMemory : List (List ℕ) → Type 0
NeedMemory words = ((c : Command) × IsCommand words c × (c.name ≡ name.Check)) ⊎ ((q : Question) × Ask words q × AnswerNeedsMemory q)

-- the fault is why no question is made of the words: they are no command, or an operand has a fault, or the parts of an operand form no configuration for its question
abbrev pub IsWordFault : List (List ℕ) → WordFault → Type 0
IsWordFault words word.Usage = (c : Command) → ¬ IsCommand words c
IsWordFault words (word.RuleFault operand f) = (c : Command) × IsCommand words c × IsOperandFault c operand f
IsWordFault words (word.Tail f) = (q : Question) × Ask words q × IsCauseFor q (Cause.Tail f)

-- the operands of the command n give the shape, the first number and the count of these rules
pub record AreNumberedBy (n : Name) (operands : List (List ℕ)) (rules : Numbered) : Type 0 where
  pub k : List ℕ
  pub m : List ℕ
  pub first : List ℕ
  pub count : List ℕ
  pub is : IsCall (word_of n ∷ operands) n [] (k ∷ m ∷ first ∷ count ∷ [])
  pub are : AreNumbered rules
  pub rules_are : rules ≡ record { states = decimal_value k; width = decimal_value m; first = decimal_value first; count = decimal_value count }

-- the operands of the command `sample` give the shape, the seed and the count of these rules
pub record AreDrawnBy (operands : List (List ℕ)) (rules : Drawn) : Type 0 where
  pub k : List ℕ
  pub m : List ℕ
  pub seed : List ℕ
  pub count : List ℕ
  pub is : IsCall (word_of name.Sample ∷ operands) name.Sample [] (k ∷ m ∷ seed ∷ count ∷ [])
  pub are : AreDrawn rules
  pub accepted : sample_fault (decimal_value k) (decimal_value m) ≡ None
  pub rules_are : rules ≡ record { states = decimal_value k; width = decimal_value m; seed = decimal_value seed; count = decimal_value count }

-- the operand with this number isn't the text of a rule; `why` names the first fault of the text
pub record IsRuleFault (operand : ℕ) (text : List ℕ) (why : WordFault) : Type 0 where
  pub fault : TextFault
  pub is : why ≡ word.RuleFault operand fault
  pub first : IsTextFault text fault
