use Rattle.eden_law.specs.ReachedRows.{LeadsApart, AreAdded}
use Rattle.eden_law.proofs.surjective.add_firsts.Given as goal

-- the first letters were followed
abbrev pub invariant-loop-a : goal.invariant-loop-a
invariant-loop-a l = AreAdded l.graph l.node (LeadsApart l.graph l.node) l.a l.initial.found l.found
