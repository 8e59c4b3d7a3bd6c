use Rattle.std.proofs.Common.{refl}
use Rattle.word_image.proofs.Common.{handed_on}
use Rattle.tail_config.proofs.laws.TailTexts.{Leads-start, Leads-bar, IsFormFault-row, IsFormFault-last, IsCut-right}
use Rattle.tail_config.proofs.texts.split.Goals as goal

pub returns-in_err-first-clause-fault : goal.returns-in_err-first-clause-fault
returns-in_err-first-clause-fault c =
    let f = c.in_err-first.ensures.fault in
    handed_on _ c.from_residual.result c.from_residual.ensures.1 (f.0, f.1, IsFormFault-row Leads-start f.2)

pub returns-in_err-second-clause-fault : goal.returns-in_err-second-clause-fault
returns-in_err-second-clause-fault c =
    let f = c.in_err-second.ensures.fault in
    handed_on _ c.from_residual-in_err-second.result c.from_residual-in_err-second.ensures.1
    (f.0, f.1, IsFormFault-row (Leads-bar c.in_ok-first.ensures.bar Leads-start) f.2)

pub returns-then-end-text-clause-fault : goal.returns-then-end-text-clause-fault
returns-then-end-text-clause-fault c =
    (_, refl, IsFormFault-last (Leads-bar c.in_ok-second.ensures.bar (Leads-bar c.in_ok-first.ensures.bar Leads-start)) c.digits_end-end.ensures c.if-end-text.true)

pub returns-clause-parts : goal.returns-clause-parts
returns-clause-parts c = IsCut-right c.in_ok-first.ensures.bar c.in_ok-second.ensures.bar c.digits_end-end.ensures c.if-end-text.false
