use Rattle.std.proofs.Common.{◌≡◌, ◌+◌, ◌-◌, ◌∙◌, arith}
use Rattle.image_subsets.proofs.Steps.{AreSteps-double}
use Rattle.image_subsets.proofs.step_tables.fill.Goals as goal

pub loop-u-preserved : goal.loop-u-preserved
loop-u-preserved c =
    let u = c.loop-u.u in
    let count : u + 1 - c.args.first ≡ u - c.args.first + 1 = omega (arith, c.loop-u.auto.u) in
    let ends = c.ends_of.ensures in
    record {
      steps = rw (count, c.double.ensures.rows)
          (AreSteps-double ends.rule c.loop-u.invariant.steps u c.ends_of.result
          (omega (arith, c.loop-u.auto.u)) (omega (arith, c.loop-u-test.true, c.requires.nodes)) ends.wide ends.ends);
      none = λ past. absurd (omega (arith, c.loop-u.auto.u, c.loop-u-test.true));
      capacity = c.double.ensures.capacity ∙ c.loop-u.invariant.capacity;
    }

pub returns-clause-steps : goal.returns-clause-steps
returns-clause-steps c = grind arith
