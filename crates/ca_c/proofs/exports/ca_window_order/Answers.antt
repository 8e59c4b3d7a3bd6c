use Rattle.std.proofs.Common.{refl, sym, ◌∙◌}
use Rattle.c_structs.specs.NextRules.{IsWindowOrder}
use Rattle.c_structs.proofs.laws.NextRules.{IsWindowOrder-fault, IsWindowOrder-length, IsWindowOrder-order}
use Rattle.ca_c.proofs.exports.ca_window_order.Goals as goal

pub returns-in-Err : goal.returns-in-Err
returns-in-Err c = IsWindowOrder-fault c.in-Err.ensures c.fault_number.ensures

pub returns-in_default-property_of : goal.returns-in_default-property_of
returns-in_default-property_of c = IsWindowOrder.NoProperty (sym c.in_default.ensures) (c.in_default-property_of.ensures.none refl)

pub returns-then-order-from : goal.returns-then-order-from
returns-then-order-from c =
    IsWindowOrder-length c.in-Some.property c.in_default.ensures c.in-Some.ensures.some (c.from.ensures ∙ c.size.ensures.size) c.shape_rule-shape.ensures.states c.shape_rule-shape.ensures.width c.if-order-from.true
    c.fault_number-then-order-from.ensures

pub returns : goal.returns
returns c = IsWindowOrder-order c.in-Some.property c.in_default.ensures c.in-Some.ensures.some c.shape_rule-shape.ensures.states c.shape_rule-shape.ensures.width c.write_order.ensures
