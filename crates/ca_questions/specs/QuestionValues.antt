-- The code has a type `Question`. This file says which question of the definitions a value of this type represents,
-- and which conditions its parts meet.
use Rattle.std.specs.Prelude.{◌≡◌, ◌≤◌, None, true, pos, ⊤}
use Rattle.word_image.specs.LocalRules.{IsShape}
use Rattle.cert_values.specs.Versions.{names_weights}
use Rattle.rule_verdicts.specs.Numbers.{numbers_fault}
use Rattle.ca_questions.specs.declared.question.Question as code
use Rattle.ca_questions.specs.declared.question.Question.TheVariants as asked
use Rattle.ca_questions.specs.declared.question.Numbered.{Numbered}
use Rattle.ca_questions.specs.declared.question.Drawn.{Drawn}
use Rattle.ca_questions.specs.Questions.{Question}
use Rattle.ca_questions.specs.Samples.{survey_rules, sample_rules}

-- the question that a value of the code represents
abbrev pub question_of : code.Question → Question
question_of (asked.Report r weights) = Question.Report r weights
question_of (asked.Certify v r weights) = Question.Certify v r weights
question_of (asked.Orphan r) = Question.Orphan r
question_of (asked.Number r) = Question.Number r
question_of (asked.Reflect r) = Question.Reflect r
question_of (asked.Trim r) = Question.Trim r
question_of (asked.Shift r by) = Question.Shift r by
question_of (asked.Widen r width) = Question.Widen r width
question_of (asked.Permute r letters) = Question.Permute r letters
question_of (asked.Compose r s) = Question.Compose r s
question_of (asked.Least r) = Question.Least r
question_of (asked.Lift r) = Question.Lift r
question_of (asked.Unlift r) = Question.Unlift r
question_of (asked.Inverse r) = Question.Inverse r
question_of (asked.Language r) = Question.Language r
question_of (asked.Same r s) = Question.Same r s
question_of (asked.Erase r) = Question.Erase r
question_of (asked.Preimage r t) = Question.Preimage r t.config
question_of (asked.Survey n) = Question.Summary (survey_rules n.states n.width n.first n.count)
question_of (asked.Sample d) = Question.Summary (sample_rules d.states d.width d.seed d.count)
question_of (asked.Classes n) = Question.Classes (survey_rules n.states n.width n.first n.count)

-- there are rules with all these consecutive numbers, and there are from 1 to 4,096 numbers
pub record AreNumbered (n : Numbered) : Type 0 where
  pub accepted : numbers_fault n.states n.width n.first n.count ≡ None
  pub some : 1 ≤ n.count
  pub few : n.count ≤ 4096

-- rules of this shape exist, and at most 4,096 of them are drawn
pub record AreDrawn (d : Drawn) : Type 0 where
  pub shape : IsShape d.states d.width (pos 0)
  pub few : d.count ≤ 4096

-- the parts fit together: the version of a certificate may name weights, a configuration has as many states as its rule, and many rules have right numbers or a right shape
abbrev pub IsWhole : code.Question → Type 0
IsWhole (asked.Certify v r weights) = names_weights v ≡ true
IsWhole (asked.Preimage r t) = r.states ≡ t.states
IsWhole (asked.Survey n) = AreNumbered n
IsWhole (asked.Sample d) = AreDrawn d
IsWhole (asked.Classes n) = AreNumbered n
IsWhole _ = ⊤
