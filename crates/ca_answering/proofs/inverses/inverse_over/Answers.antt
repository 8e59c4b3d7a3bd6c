use Rattle.ca_questions.proofs.Common.{IsFinding, IsCauseFor}
use Rattle.ca_answering.proofs.inverses.inverse_over.Goals as goal
use Rattle.ca_answering.proofs.inverses.inverse_over.Goals.{in-Ok, in-Err-Wide}

pub returns : goal.returns
returns c =
    let r = c.args.rule.now in
    let at = c.args.at in
    elim c.match-table.branch [
      | in-Ok w ↦
          rw w.result-is (IsFinding.Inverse r at.n at.c w.in-Ok.map w.map_rule-rule.result (record {
            injective = c.requires.injective;
            least = c.requires.least;
            few = w.in-Ok.ensures.fault;
            map = w.in-Ok.ensures.map;
            gives_back = w.in-Ok.ensures.gives_back;
            as_rule = w.map_rule-rule.ensures;
          }))
      | in-Err-Wide w ↦
          rw w.result-is (IsCauseFor.Wide r at.n at.c c.requires.least (rw w.in-Err-Wide.field-0-is at w.in-Err-Wide.ensures.fault))
    ]
