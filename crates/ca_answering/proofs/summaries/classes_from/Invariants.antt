use Rattle.std.proofs.Common.{◌≡◌, ℕ, ◌+◌, ◌^◌, ◌<◌, length, reverse, sum}
use Rattle.word_image.proofs.Common.{IsRule, value}
use Rattle.rule_text.specs.RuleTexts.{rule_of_table}
use Rattle.ca_questions.specs.Samples.{survey_rules}
use Rattle.ca_answering.specs.ClassTallies.{IsClassTally}
use Rattle.ca_answering.proofs.summaries.classes_from.Given as goal

-- the rules so far are counted, and the table is that of the next one, if there is one
abbrev pub invariant-loop-place : goal.invariant-loop-place
invariant-loop-place l =
    let first : ℕ = value l.k (reverse l.fn.table) in record {
      rule : IsRule (rule_of_table l.k l.m l.table);
      total : l.total ≡ sum l.table;
      number : first + l._place < l.k ^ length l.fn.table → value l.k (reverse l.table) ≡ first + l._place;
      counted : IsClassTally l.k l.m (survey_rules l.k l.m first l._place) l.tally;
    }
