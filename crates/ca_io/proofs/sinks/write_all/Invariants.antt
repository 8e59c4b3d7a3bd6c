use Rattle.std.proofs.Common.{◌≡◌, ◌≤◌, ◌-◌, length, take, is_some}
use Rattle.std.specs.Io.KnownBytes.{Appends}
use Rattle.ca_io.proofs.sinks.write_all.Given as goal

abbrev pub invariant-loop-at : goal.invariant-loop-at
invariant-loop-at g l = record {
  within : l.at ≤ length l.bytes;
  written : Appends (g.T.Sink.taken l.initial.sink) (g.T.Sink.taken l.sink) (take l.at l.bytes);
  telling : is_some (g.T.Sink.taken l.sink) ≡ is_some (g.T.Sink.taken l.initial.sink);
  counted : g.T.Sink.faults l.sink ≡ g.T.Sink.faults l.initial.sink;
  no_call : l.at ≡ 0 → l.sink ≡ l.initial.sink;
}

abbrev pub decreases-loop-at : goal.decreases-loop-at
decreases-loop-at g l = length l.bytes - l.at
