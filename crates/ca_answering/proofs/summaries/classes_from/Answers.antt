use Rattle.std.proofs.Common.{◌≡◌, ◌+◌, ◌^◌, ◌<◌, length, reverse, sym, ap, ◌∙◌, arith}
use Rattle.word_image.proofs.Common.{length-map-range_with_len, value}
use Rattle.rule_text.specs.RuleTexts.{rule_of_table}
use Rattle.rule_verdicts.specs.Numbers.{numbered_rule}
use Rattle.rule_verdicts.proofs.laws.Tables.{numbered_rule-table}
use Rattle.ca_questions.specs.Samples.{survey_rules}
use Rattle.ca_answering.proofs.laws.Samples.{survey_rules-more}
use Rattle.ca_answering.proofs.summaries.classes_from.Goals as goal

pub loop-place-init : goal.loop-place-init
loop-place-init c = record {
  rule = c.requires.rule;
  total = c.letter_sum-total.ensures;
  number = λ l. omega arith;
  counted = c.new-tally.ensures c.args.k c.args.m;
}

pub add-requires-clause-tally : goal.add-requires-clause-tally
add-requires-clause-tally c =
    let k = c.args.k in
    let m = c.args.m in
    let first = value k (reverse c.args.table.now) in
    let sofar = survey_rules k m first c.loop-place._place in (
      sofar,
      rw c.rule_of_table.ensures c.loop-place.invariant.counted,
      omega (arith, length-map-range_with_len (numbered_rule k m) first c.loop-place._place, c.loop-place-test.true, c.requires.few),
    )

pub loop-place-preserved : goal.loop-place-preserved
loop-place-preserved c =
    let k = c.args.k in
    let m = c.args.m in
    let first = value k (reverse c.args.table.now) in
    let table = c.loop-place.table in
    let i = c.loop-place._place in
    let here : first + i < k ^ length c.args.table.now = omega (arith, c.requires.room, c.loop-place-test.true) in
    let number : value k (reverse table) ≡ first + i = c.loop-place.invariant.number here in
    let rule = c.loop-place.invariant.rule in
    let same : numbered_rule k m (first + i) ≡ rule_of_table k m table = ap (numbered_rule k m) (sym number) ∙ numbered_rule-table k m table rule in
    let power : k ^ length table ≡ k ^ length c.args.table.now = ap (λ n. k ^ n) (rule.entries ∙ sym c.requires.rule.entries) in
    record {
      rule = record { shape = rule.shape; entries = c.next_table-total.auto.table ∙ rule.entries; letters = c.next_table-total.ensures.word };
      total = c.next_table-total.ensures.total;
      number = λ l. omega (arith, c.next_table-total.ensures.next (omega (arith, l, number, power)), number);
      counted = rw (survey_rules-more k m first i, same) (rw c.rule_of_table.ensures at (c.in_ok-add.ensures (survey_rules k m first i)) c.loop-place.invariant.counted);
    }

pub returns : goal.returns
returns c =
    let all : c.loop-place._place ≡ c.args.count = omega arith in
    rw all at c.loop-place.invariant.counted
