use Rattle.ca_questions.proofs.Common.{IsCauseFor}
use Rattle.ca_answering.proofs.inverses.inverse.Goals as goal

pub returns-in-Err : goal.returns-in-Err
returns-in-Err c =
    let found = rw c.in-Err.is at c.window_or_twins.ensures in
    IsCauseFor.Twins c.args.rule.now c.in-Err.twins.x c.in-Err.twins.y found.0 found.1
