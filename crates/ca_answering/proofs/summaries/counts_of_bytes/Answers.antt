use Rattle.std.proofs.Common.{◌≡◌, ◌+◌, ◌<◌, length, arith, pos}
use Rattle.word_image.proofs.Common.{length-map-range_with_len, IsRule}
use Rattle.rule_text.specs.RuleTexts.{by_number}
use Rattle.rule_text.proofs.laws.AcceptedRules.{IsRule-said}
use Rattle.rule_verdicts.specs.Numbers.{numbered_rule}
use Rattle.ca_questions.specs.Samples.{survey_rules}
use Rattle.ca_answering.proofs.laws.Samples.{survey_rules-more, survey-accepted}
use Rattle.ca_answering.proofs.summaries.counts_of_bytes.Goals as goal

pub add-requires : goal.add-requires
add-requires c = (
  survey_rules c.args.k c.args.m c.args.first c.loop-byte.byte-index,
  c.loop-byte.invariant,
  omega (arith, length-map-range_with_len (numbered_rule c.args.k c.args.m) c.args.first c.loop-byte.byte-index, c.loop-byte-test.true, c.requires.few),
)

pub loop-byte-preserved : goal.loop-byte-preserved
loop-byte-preserved c =
    let k = c.args.k in
    let m = c.args.m in
    let first = c.args.first in
    let i = c.loop-byte.byte-index in
    let within : i < length c.args.bytes.now = omega arith in
    let rule : IsRule (numbered_rule k m (first + i)) = IsRule-said (by_number k m (pos 0) (first + i)) (survey-accepted k m first (length c.args.bytes.now) i c.requires.accepted within) in
    let said = c.requires.bytes i within in
    rw (survey_rules-more k m first i)
    (c.add.ensures (survey_rules k m first i) (numbered_rule k m (first + i)) c.loop-byte.invariant rule (rw (c.from_byte.ensures said.truths said.is) said.are))

pub returns : goal.returns
returns c =
    let all : c.loop-byte.byte-index ≡ length c.args.bytes.now = omega arith in
    rw all at c.loop-byte.invariant
