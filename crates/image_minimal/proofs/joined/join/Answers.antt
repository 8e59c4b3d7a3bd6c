use Rattle.image_minimal.proofs.Common.{◌≡◌, ◌⊎◌, inl, inr, arith, ⊎_elim, cases_lt}
use Rattle.image_minimal.proofs.Joins.{IsJoin-one, IsJoin-roots}
use Rattle.image_minimal.proofs.joined.join.Goals as goal

pub returns-then-first-second-clause-join : goal.returns-then-first-second-clause-join
returns-then-first-second-clause-join c = IsJoin-one c.root-first.ensures.way c.root-second.ensures.way c.if-first-second.true

pub returns-clause-join : goal.returns-clause-join
returns-clause-join c =
    let a = c.root-first.result in
    let b = c.root-second.result in
    let high = c.max.result in
    let low = c.min.result in
    let which : ((high ≡ b) × (low ≡ a)) ⊎ ((high ≡ a) × (low ≡ b)) = ⊎_elim (λ less. inl (omega (arith, less), omega (arith, less))) (λ more. inr (omega (arith, more), omega (arith, more))) (cases_lt a b) in
    IsJoin-roots c.root-first.ensures.way c.root-second.ensures.way c.requires.first c.requires.second c.root-first.ensures.root c.root-second.ensures.root
    high low (omega (arith, c.if-first-second.false)) which
