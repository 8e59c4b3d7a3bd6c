use Rattle.std.proofs.Common.{◌++◌, codes, flat_map}
use Rattle.rule_text.specs.PrintedRules.{offset_text}
use Rattle.ca_text.proofs.laws.Appended.{IsAppended-then, appended_twice}
use Rattle.ca_text.proofs.report.write_flux.Goals as goal

pub returns-clause-appended : goal.returns-clause-appended
returns-clause-appended c =
    let before = c.args.output.now in
    let flows = appended_twice before (codes "conserving yes flux") (flat_map (λ z. codes " " ++ offset_text z) c.args.flows.now) c.in_ok-push.ensures.0 c.in_ok-write_flows.ensures.appended.0 in
    IsAppended-then c.push-2.result before c.push-2.new.self _ (codes "\n") flows c.push-2.ensures
