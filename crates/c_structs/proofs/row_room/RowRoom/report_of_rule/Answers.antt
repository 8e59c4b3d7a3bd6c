use Rattle.std.proofs.Common.{List, ℕ, Option, subst}
use Rattle.ca_questions.proofs.Common.{AreFor}
use Rattle.ca_answering.proofs.laws.OwnWeights.{IsFinding-by}
use Rattle.c_structs.proofs.laws.Reports.{IsReported-written, IsReported-none}
use Rattle.c_structs.proofs.row_room.RowRoom.report_of_rule.Goals as goal

pub returns-in-Some : goal.returns-in-Some
returns-in-Some c =
    let made = c.least_report-found.ensures in
    let right = rw c.named_weights.ensures at (IsFinding-by _ c.requires.rule c.in-Some.ensures.each made.weights c.in-Some.ensures.weights made.least) in
    IsReported-written c.requires.rule right c.written.ensures.letters c.written.ensures.report

pub returns-in-None : goal.returns-in-None
returns-in-None c =
    IsReported-none c.requires.rule (subst (λ (ws : Option (List ℕ)). ¬ AreFor ws c.args.rule.now) c.named_weights.ensures c.in-None.ensures.none) c.none.ensures c.requires.empty
