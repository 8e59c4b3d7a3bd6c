use Rattle.std.proofs.Common.{take_all}
use Rattle.word_image.proofs.Common.{All-more, err_from_is_err_and}
use Rattle.cert_conditions.proofs.Common.{conditions, Holds}
use Rattle.cert_conditions.proofs.laws.Breaches.{IsFirstUnmet-at, MeetsConditions-all}
use Rattle.cert_check.proofs.conditions.check_all.Goals as goal

pub returns-in_err-check_condition : goal.returns-in_err-check_condition
returns-in_err-check_condition c =
    let p = err_from_is_err_and c.from_residual.result c.from_residual.ensures.1 in
    rw (p.1, p.2)
    (IsFirstUnmet-at c.loop-condition.condition-index _ c.loop-condition-test.true c.loop-condition.invariant c.in_err-check_condition.ensures)

pub loop-condition-preserved : goal.loop-condition-preserved
loop-condition-preserved c =
    All-more (Holds c.args.cert.now) conditions c.loop-condition.condition-index _ c.loop-condition-test.true c.loop-condition.invariant c.in_ok-check_condition.ensures

pub returns : goal.returns
returns c =
    MeetsConditions-all c.args.cert.now
    (rw (take_all c.loop-condition.condition-index conditions c.loop-condition-test.false) at c.loop-condition.invariant)
