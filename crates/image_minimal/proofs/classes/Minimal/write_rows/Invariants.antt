use Rattle.image_minimal.proofs.Common.{◌≡◌, ◌+◌, ◌*◌, take, vec_capacity, Automaton, IsLeastAutomaton}
use Rattle.image_minimal.proofs.classes.Minimal.write_rows.Given as goal

-- the rows of the first classes are there
abbrev pub invariant-loop-class : goal.invariant-loop-class
invariant-loop-class l = record {
  rows : (a : Automaton) → IsLeastAutomaton l.self a → l.list.items ≡ take (l.class * a.states) a.next;
  capacity : vec_capacity l.list ≡ vec_capacity l.fn.rows;
}

-- and the classes after the first letters
abbrev pub invariant-loop-letter : goal.invariant-loop-letter
invariant-loop-letter l = record {
  rows : (a : Automaton) → IsLeastAutomaton l.self a → l.list.items ≡ take (l.class * a.states + l.letter) a.next;
  capacity : vec_capacity l.list ≡ vec_capacity l.fn.rows;
}
