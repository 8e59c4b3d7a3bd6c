use Rattle.std.proofs.Common.{subst₂}
use Rattle.ca_answering.specs.ClassTallies.{IsRuleAdded, rules_in}
use Rattle.ca_answering.proofs.laws.ClassTallies.{AreLeastRules-push, least_shape}
use Rattle.ca_answering.proofs.class_tally.ClassTally.add.Goals as goal

pub verdicts_of_least-requires-clause-known : goal.verdicts_of_least-requires-clause-known
verdicts_of_least-requires-clause-known c =
    let of = rw c.unwrap-place.ensures at c.class_of.ensures in
    let shape = least_shape c.unwrap-place.result.mirrored of.least in
    rw (shape.0, shape.1) c.requires.tally.1.decided

pub returns : goal.returns
returns c rules tally =
    let place = c.unwrap-place.result in
    let of = rw c.unwrap-place.ensures at c.class_of.ensures in
    let shape = least_shape place.mirrored of.least in
    let decided = c.in_ok-least.ensures in
    let added = subst₂ (λ k m. IsRuleAdded place.least (rules_in k m c.args.self.now.leasts.entries) (rules_in k m (c.verdicts_of_least.new.known).entries)) shape.0 shape.1 decided.added in
    record {
      counts = c.add.ensures rules c.args.rule.now tally.counts c.member_truths.ensures.rule (c.member_truths.ensures.truths place.least of.verdicts decided.truths);
      decided = rw (shape.0, shape.1) at decided.known;
      leasts = AreLeastRules-push (place.mirrored, of.least) added tally.leasts;
    }
