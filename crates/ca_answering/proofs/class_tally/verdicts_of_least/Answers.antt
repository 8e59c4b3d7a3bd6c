use Rattle.std.proofs.Common.{◌≡◌, ℕ, ap, refl, sym, ◌∙◌}
use Rattle.word_image.proofs.Common.{map_push, All-push, LocalRule, IsRule, wolfram_number}
use Rattle.rule_verdicts.specs.declared.truths.Truths.{Truths}
use Rattle.rule_verdicts.specs.Numbers.{numbered_rule}
use Rattle.rule_verdicts.proofs.laws.Tables.{numbered_rule-wolfram}
use Rattle.ca_answering.specs.ClassTallies.{IsDecided, rule_in, rules_in}
use Rattle.ca_answering.specs.ClassTallies.IsRuleAdded.{Old, New}
use Rattle.ca_answering.proofs.laws.ClassTallies.{decided_found, decided_absent}
use Rattle.ca_answering.proofs.class_tally.verdicts_of_least.Goals as goal

pub returns-in-Some : goal.returns-in-Some
returns-in-Some c =
    let key = rw c.unwrap-number.ensures at c.number.ensures in
    let found = decided_found c.args.known.now.entries c.requires.known c.keeps_limits.ensures refl refl c.requires.offset c.in-Some.truths
    (rw key.1 at (sym c.get.ensures.value ∙ sym c.copied.ensures ∙ c.in-Some.is)) in
    record { truths = found.0; known = c.requires.known; added = Old _ found.1 }

pub returns : goal.returns
returns c =
    let r : LocalRule = c.args.rule.now in
    let entries = c.args.known.now.entries in
    let entry : ℕ × Truths = (c.unwrap-number.result, c.of-truths.result) in
    let key = (rw c.unwrap-number.ensures at c.number.ensures).1 in
    let rule : IsRule r = c.keeps_limits.ensures in
    let same : numbered_rule r.states r.width c.unwrap-number.result ≡ r = ap (numbered_rule r.states r.width) key ∙ numbered_rule-wolfram rule c.requires.offset in
    let none = rw key at (sym c.get.ensures.value ∙ sym c.copied.ensures ∙ c.in_default.is) in
    record {
      truths = c.of-truths.ensures;
      known = rw c.in_ok-keep.ensures (All-push (IsDecided r.states r.width) entries entry c.requires.known (record {
        accepted = rw same rule;
        number = ap wolfram_number same ∙ sym key;
        truths = rw same c.of-truths.ensures;
      }));
      added = rw (c.in_ok-keep.ensures, map_push (rule_in r.states r.width) entries entry, same)
          (New (rules_in r.states r.width entries) (decided_absent entries c.requires.known rule refl refl c.requires.offset none));
    }
