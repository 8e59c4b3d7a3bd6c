use Rattle.std.proofs.Common.{◌∙◌, subst}
use Rattle.word_image.proofs.Common.{LocalRule}
use Rattle.welch_index.specs.Fewest.{IsFewestLast}
use Rattle.welch_index.proofs.Firsts.{IsFewestFirst-last}
use Rattle.welch_index.proofs.fewest.Search.run.Goals as goal

pub returns-in-Right-clause-fewest : goal.returns-in-Right-clause-fewest
returns-in-Right-clause-fewest c = rw c.in-Right.is (rw c.of.ensures at c.run_over.ensures.fewest)

pub returns-in-Left-clause-fewest : goal.returns-in-Left-clause-fewest
returns-in-Left-clause-fewest c =
    let r = c.args.rule.now in
    let fewest = c.run_over-mirrored.result in
    let mirrored = subst (λ (q : LocalRule). IsFewestLast q fewest.count fewest.nodes c.run_over-mirrored.new.self) (c.of-in-Left.ensures ∙ c.reflect.ensures.mirrored) c.run_over-mirrored.ensures.fewest in
    rw c.in-Left.is (rw c.reverse.ensures.items (IsFewestFirst-last c.mirrored_nodes.ensures.rule (rw (← c.self.view_is) at mirrored) c.mirrored_nodes.ensures.nodes))
