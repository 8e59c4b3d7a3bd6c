use Rattle.preimage_laws.proofs.Separated.{IsOpen-separated}
use Rattle.preimage_laws.proofs.Constant.{IsOpen-constant_to_one, IsOpen-periodic, to_one-within}
use Rattle.preimage_laws.proofs.OneToOne.{IsInjective-one}
use Rattle.preimage_laws.proofs.open_is_constant_to_one.Goals as goal

pub returns-clause-exactly : goal.returns-clause-exactly
returns-clause-exactly c r rule = IsOpen-constant_to_one rule

pub returns-clause-number : goal.returns-clause-number
returns-clause-number c r n rule each = to_one-within rule each

pub returns-clause-one : goal.returns-clause-one
returns-clause-one c r rule = IsInjective-one rule

pub returns-clause-separated : goal.returns-clause-separated
returns-clause-separated c r rule = IsOpen-separated rule

pub returns-clause-periodic : goal.returns-clause-periodic
returns-clause-periodic c r rule = ((λ closing. let (n, each) = (IsOpen-constant_to_one rule).0 closing in (n, λ y hy again. each y hy)), (λ (n, each). IsOpen-periodic rule each))
