use Rattle.std.proofs.Common.{refl}
use Rattle.tail_config.proofs.laws.TailFaults.{tail_fault-none}
use Rattle.tail_config.proofs.tail.Tail.new.Goals as goal

pub invariant_of-result : goal.invariant_of-result
invariant_of-result c = record { least_states = c.requires.least; most_states = c.requires.most; short = (tail_fault-none _ _).0 (cc c.in-Ok.ensures) }

pub returns-in-Ok-clause-accepted : goal.returns-in-Ok-clause-accepted
returns-in-Ok-clause-accepted c = (λ ok. (tail_fault-none _ _).0 (cc c.in-Ok.ensures), λ short. refl)

pub returns-in-Err-clause-accepted : goal.returns-in-Err-clause-accepted
returns-in-Err-clause-accepted c = (λ ok. absurd (cc), λ short. let none = (tail_fault-none _ _).1 short in absurd (cc c.in-Err.ensures))
