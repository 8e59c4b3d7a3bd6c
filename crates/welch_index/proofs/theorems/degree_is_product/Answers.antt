use Rattle.welch_index.proofs.Products.{IsDegree-fewest, IsDegree-unique}
use Rattle.welch_index.proofs.Firsts.{IsFewestLast-first}
use Rattle.welch_index.proofs.theorems.degree_is_product.Goals as goal

pub returns-clause-product : goal.returns-clause-product
returns-clause-product c r f b nodes others u v rule onto lasts firsts = IsDegree-fewest v rule onto lasts (IsFewestLast-first rule firsts).1

pub returns-clause-one : goal.returns-clause-one
returns-clause-one _ r c d first second = IsDegree-unique first second
