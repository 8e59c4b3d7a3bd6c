use Rattle.std.proofs.Common.{subst, arith}
use Rattle.image_subsets.specs.StepTables.{AreSteps}
use Rattle.image_subsets.proofs.step_tables.StepTables.fill.Goals as goal

pub returns : goal.returns
returns c = record {
  rule = c.nodes-nodes.ensures.rule;
  low = subst (λ n. AreSteps c.args.graph.now 0 n c.fill.new.rows.items) (omega arith) c.fill.ensures.steps;
  high = subst (λ n. AreSteps c.args.graph.now 8 n c.fill-2.new.rows.items) (omega arith) c.fill-2.ensures.steps;
}
