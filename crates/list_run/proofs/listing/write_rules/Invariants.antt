use Rattle.std.proofs.Common.{◌≡◌, ◌-◌, ◌^◌, length, min, None, is_some}
use Rattle.std.specs.Io.KnownBytes.{Appends}
use Rattle.rule_lists.specs.Calls.{AreSoFar}
use Rattle.rule_lists.specs.Searches.{CanGoOn}
use Rattle.list_run.specs.Lines.{IsLineOf, rule_lines}
use Rattle.list_run.proofs.listing.write_rules.Given as goal

-- the rules that the search gave have their lines, and it goes on behind the last of them
abbrev pub invariant-loop-rule : goal.invariant-loop-rule
invariant-loop-rule g l = record {
  can : CanGoOn l.rule-iterator;
  asked : l.rule-iterator.asked ≡ l.initial.rule-iterator.asked;
  line : IsLineOf l.beginning.rule l.line;
  so_far : AreSoFar l.fn.property l.beginning.rule.states l.beginning.rule.width l.letters l.order None l.yielded l.rule-iterator.last;
  count : l.count ≡ min (length l.yielded) (2 ^ 64 - 1);
  taken : Appends (g.T.Sink.taken l.initial.sink) (g.T.Sink.taken l.sink) (rule_lines l.beginning.rule l.yielded);
  telling : is_some (g.T.Sink.taken l.sink) ≡ is_some (g.T.Sink.taken l.initial.sink);
  counted : g.T.Sink.faults l.sink ≡ g.T.Sink.faults l.initial.sink;
}
