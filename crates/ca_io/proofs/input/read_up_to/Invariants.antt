use Rattle.std.proofs.Common.{◌≡◌, ◌≤◌, ◌-◌, vec_len, is_some}
use Rattle.std.specs.Io.KnownBytes.{Consumes}
use Rattle.ca_io.proofs.input.read_up_to.Given as goal

abbrev pub invariant-reads : goal.invariant-reads
invariant-reads g l = record {
  within : vec_len l.bytes ≤ l.most;
  read : Consumes (g.S.Source.left l.initial.source) (g.S.Source.left l.source) l.bytes.items;
  counted : g.S.Source.faults l.source ≡ g.S.Source.faults l.initial.source;
  telling : is_some (g.S.Source.left l.source) ≡ is_some (g.S.Source.left l.initial.source);
}

abbrev pub decreases-reads : goal.decreases-reads
decreases-reads g l = l.most - vec_len l.bytes
