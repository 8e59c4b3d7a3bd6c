use Rattle.std.proofs.Common.{◌≡◌, ℕ, ◌<◌, Some, IsTrue}
use Rattle.word_image.proofs.Common.{follow_on}
use Rattle.pair_graph.specs.PairSets.{holds}
use Rattle.pair_graph.proofs.plain.leads_into_by.Given as goal

-- with none of the first letters does it lead into the set
abbrev pub invariant-loop-b : goal.invariant-loop-b
invariant-loop-b l = (b q : ℕ) → b < l.b → follow_on l.side l.pairs l.p l.a b ≡ Some q → ¬ IsTrue (holds l.set q)
