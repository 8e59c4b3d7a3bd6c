use Rattle.std.proofs.Common.{sym, subst}
use Rattle.rule_algebra.specs.Algebra.{IsTrimmed}
use Rattle.rule_algebra.specs.Tables.{DropsFirsts}
use Rattle.rule_algebra.proofs.laws.Trimmed.{IsTrimmed-rests}
use Rattle.rule_algebra.proofs.trimming.trim.Goals as goal

pub returns : goal.returns
returns c =
    let firsts = c.without_firsts-trimmed.ensures in
    let lasts = subst (λ r. DropsFirsts r c.without_firsts.result) c.reflect.ensures.mirrored c.without_firsts.ensures.dropped in
    subst (IsTrimmed c.args.rule.now) (sym c.reflect-2.ensures.mirrored) (IsTrimmed-rests firsts.rules.0 firsts.rules.1 c.without_firsts.ensures.rules.1 firsts.dropped lasts)
