use Rattle.std.proofs.Common.{ℤ, pos, List, ℕ, ◌++◌, length, length-append, ap, ◌∙◌, arith, codes}
use Rattle.word_image.proofs.Common.{false≢true}
use Rattle.rule_text.specs.PrintedRules.{offset_text}
use Rattle.ca_text.proofs.laws.Appended.{IsAppended-failed}
use Rattle.ca_text.proofs.laws.Rows.{rows-fit, rows-next}
use Rattle.ca_text.proofs.report.write_flows.Goals as goal

-- a blank and a number
abbrev flow_text : ℤ → List ℕ
flow_text z = codes " " ++ offset_text z

pub loop-flow-preserved : goal.loop-flow-preserved
loop-flow-preserved c = (
  rows-next flow_text c.args.output.now c.args.flows.now c.loop-flow.flow-index (pos 0) c.loop-flow-test.true c.loop-flow.invariant.0 c.in_ok-write_flow.ensures.appended.0,
  λ room. let few = c.in_ok-write_flow.ensures.few (omega (arith, c.loop-flow.invariant.1 room, room, c.loop-flow-test.true)) in omega (arith, few.1, c.loop-flow.invariant.1 room),
)

pub returns-in_err-write_flow-clause-appended : goal.returns-in_err-write_flow-clause-appended
returns-in_err-write_flow-clause-appended c =
    let long = ap length c.loop-flow.invariant.0 ∙ length-append c.args.output.now _ in
    IsAppended-failed c.from_residual.result c.args.output.now c.write_flow.new.output _ c.from_residual.ensures.0 (λ room.
    false≢true (c.in_err-write_flow.ensures.appended.1 (omega (arith, long, rows-fit flow_text c.args.flows.now c.loop-flow.flow-index (pos 0) c.loop-flow-test.true, room))))
