use Rattle.std.proofs.Common.{◌≡◌, ◌*◌, ap, arith}
use Rattle.word_image.proofs.Common.{node_count}
use Rattle.garden_laws.proofs.Preinjective.{IsSurjective-injective}
use Rattle.welch_index.proofs.Products.{IsDegree-fewest, IsDegree-unique}
use Rattle.welch_index.proofs.Firsts.{IsFewestLast-first}
use Rattle.welch_index.proofs.Open.{IsToOne-degree, IsInjective-degree}
use Rattle.welch_index.proofs.Quotients.{IsToOne-divides}
use Rattle.welch_index.proofs.theorems.degree_counts_preimages.Goals as goal

pub returns-clause-number : goal.returns-clause-number
returns-clause-number _ r n rule closing = IsToOne-degree rule closing

pub returns-clause-divides : goal.returns-clause-divides
returns-clause-divides _ r n rule to_one = IsToOne-divides rule to_one

pub returns-clause-one : goal.returns-clause-one
returns-clause-one _ r rule = IsInjective-degree rule

pub returns-clause-product : goal.returns-clause-product
returns-clause-product _ r f b nodes others u v rule injective lasts firsts =
    let found = IsDegree-fewest v rule (IsSurjective-injective rule injective) lasts (IsFewestLast-first rule firsts).1 in
    let one = IsDegree-unique found.1 ((IsInjective-degree rule).0 injective).1 in
    let all : node_count r * found.0 ≡ node_count r * 1 = ap (λ d. node_count r * d) one in
    omega (arith, found.2, all)
