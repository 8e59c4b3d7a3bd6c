use Rattle.word_image.proofs.Common.{IsNodeSet}
use Rattle.moved_configs.specs.MovedRings.{LeadsTo}
use Rattle.moved_configs.proofs.rings.sources.Given as goal

-- the first steps are done
abbrev pub invariant-loop-step : goal.invariant-loop-step
invariant-loop-step l = IsNodeSet l.rule (LeadsTo l.rule l.rows l._step l.fn.end) l.nodes
