use Rattle.kept_sums.proofs.laws.Windows.{AreNumbers}
use Rattle.kept_sums.proofs.fluxes.numbers.Given as goal

-- the first words have their numbers
abbrev pub invariant-loop-word : goal.invariant-loop-word
invariant-loop-word l = AreNumbers l.k l.letters l.word l.gains l.flux
