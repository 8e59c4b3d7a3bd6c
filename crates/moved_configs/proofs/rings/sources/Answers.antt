use Rattle.std.proofs.Common.{subst, arith}
use Rattle.word_image.proofs.Common.{IsSetOf-same, IsNodeSet, one_shl}
use Rattle.moved_configs.specs.MovedRings.{LeadsTo}
use Rattle.moved_configs.proofs.Greedy.{LeadsTo-more, IsNodeSet-here}
use Rattle.moved_configs.proofs.rings.sources.Goals as goal

pub loop-step-init : goal.loop-step-init
loop-step-init c = IsNodeSet-here c.args.rule.now c.args.rows.now c.args.end _ c.requires.end (one_shl c.args.end 16 c.requires.few)

pub loop-step-preserved : goal.loop-step-preserved
loop-step-preserved c =
    let r = c.args.rule.now in
    IsSetOf-same (λ u l. LeadsTo-more r c.args.rows.now c.loop-step._step c.args.end c.loop-step.nodes c.before-nodes.ensures.rule c.loop-step.invariant u) c.before-nodes.ensures.nodes

pub returns : goal.returns
returns c = subst (λ n. IsNodeSet c.args.rule.now (LeadsTo c.args.rule.now c.args.rows.now n c.args.end) c.loop-step.nodes) (omega arith) c.loop-step.invariant
