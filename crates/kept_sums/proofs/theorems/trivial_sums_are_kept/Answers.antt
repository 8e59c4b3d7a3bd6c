use Rattle.std.proofs.Common.{arith}
use Rattle.word_image.proofs.Common.{ints}
use Rattle.kept_sums.proofs.laws.Trivials.{IsKept-trivial, IsNormal-trivial, IsTrivial-part, IsNormal-part, trivial_part, normal_part}
use Rattle.kept_sums.proofs.theorems.trivial_sums_are_kept.Goals as goal

pub returns-clause-kept : goal.returns-clause-kept
returns-clause-kept c = λ r range weight rule some trivial. IsKept-trivial rule range weight some trivial

pub returns-clause-zero : goal.returns-clause-zero
returns-clause-zero c = λ k range weight states some normal trivial a l. IsNormal-trivial k range weight states some normal trivial a l

pub returns-clause-parts : goal.returns-clause-parts
returns-clause-parts c = λ k range weight some. (normal_part k range weight, trivial_part k range weight, IsNormal-part k range weight, IsTrivial-part k range weight some, λ a. omega (arith, ints))
