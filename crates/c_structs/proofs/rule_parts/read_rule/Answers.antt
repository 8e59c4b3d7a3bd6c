use Rattle.std.proofs.Common.{sym, subst}
use Rattle.c_structs.specs.RuleParts.{IsRuleCall}
use Rattle.c_structs.proofs.rule_parts.read_rule.Goals as goal

pub returns-in-Ok : goal.returns-in-Ok
returns-in-Ok c = IsRuleCall.Rule _ c.of.result c.in-Ok.ensures.rule c.of.ensures

pub returns-in-Err : goal.returns-in-Err
returns-in-Err c =
    subst (λ code. IsRuleCall c.args.text.now c.args.rule.now code c.args.rule.now) (sym c.number_of.ensures) (IsRuleCall.Fault _ c.in-Err.ensures.fault)
