use Rattle.std.proofs.Common.{sym, subst, IsBitSet}
use Rattle.word_image.proofs.Common.{IsBitSet-full}
use Rattle.moved_configs.specs.Trims.{IsTrimmed}
use Rattle.moved_configs.proofs.Cores.{IsTrimmed-walks, full-walks}
use Rattle.moved_configs.proofs.trims.core.Goals as goal

pub trims-preserved : goal.trims-preserved
trims-preserved c =
    let now = c.trimmed-kept-in-trims.ensures in
    record {
      trimmed = now.trimmed;
      fewer = now.fewer;
      walks = IsTrimmed-walks c.args.rule.now c.args.place c.trims.nodes c.trims.kept now.rule c.trims.invariant.trimmed c.trims.invariant.walks;
    }

pub trims-init : goal.trims-init
trims-init c =
    let now = c.trimmed-kept.ensures in
    record {
      trimmed = now.trimmed;
      fewer = now.fewer;
      walks = full-walks c.args.rule.now c.args.place c.all_nodes-nodes.result now.rule (λ u l. subst (λ s. IsBitSet s u) (sym c.all_nodes-nodes.ensures.set) (IsBitSet-full c.args.rule.now u l));
    }

pub returns : goal.returns
returns c = record { fixed = subst (IsTrimmed c.args.rule.now c.args.place c.trims.nodes) c.trims-test.false c.trims.invariant.trimmed; walks = c.trims.invariant.walks }
