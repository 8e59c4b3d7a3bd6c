use Rattle.image_minimal.proofs.Common.{subst, AreTables, HasRows-tables}
use Rattle.image_minimal.proofs.subsets.Subsets.steps.Goals as goal

pub steps-requires : goal.steps-requires
steps-requires c = HasRows-tables (subst (λ r. AreTables r c.self.inside.tables) c.self.view_is c.self.invariant) c.args.set c.requires
