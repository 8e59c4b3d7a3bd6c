use Rattle.word_image.proofs.Common.{IsRule}
use Rattle.rule_algebra.specs.Tables.{IsRest}
use Rattle.rule_algebra.proofs.trimming.without_firsts.Given as goal

-- as many first cells were dropped as there were rounds
abbrev pub invariant-loop-dropped : goal.invariant-loop-dropped
invariant-loop-dropped l = IsRest l.rule l._dropped l.rest × IsRule l.rest
