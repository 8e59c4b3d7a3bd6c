use Rattle.std.proofs.Common.{◌<◌, refl, arith}
use Rattle.rule_algebra.specs.Algebra.{Ignores}
use Rattle.rule_algebra.proofs.laws.Trimming.{IsRest-more, IsRule-without_first, DropsFirsts-rest}
use Rattle.rule_algebra.proofs.trimming.without_firsts.Goals as goal

pub loop-dropped-preserved : goal.loop-dropped-preserved
loop-dropped-preserved c =
    let rest = c.loop-dropped.invariant.0 in
    let rule = c.loop-dropped.invariant.1 in
    let wide : 2 < c.loop-dropped.rest.width = omega (arith, rest.width, c.m-dropped-end.ensures.width) in
    let ignored : Ignores c.loop-dropped.rest 1 0 = c.if-not-ignores_first.ensures.ignores.0 refl in
    rw c.without_first-rest.ensures (IsRest-more rest rule wide ignored, IsRule-without_first rule wide)

pub returns-then-not-ignores_first-clause-dropped : goal.returns-then-not-ignores_first-clause-dropped
returns-then-not-ignores_first-clause-dropped c =
    DropsFirsts-rest c.m-dropped-end.ensures.rule c.loop-dropped.invariant.0 (λ both. absurd (let yes = c.if-not-ignores_first.ensures.ignores.1 both.1 in cc yes))
