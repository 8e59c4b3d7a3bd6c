use Rattle.std.proofs.Common.{[], ◌∷◌, refl, sym, subst}
use Rattle.ca_commands.specs.Commands.{AreOperands}
use Rattle.ca_commands.specs.Asked.{AreRuleTexts, IsOperandFault, IsShapeFault}
use Rattle.ca_commands.proofs.laws.Asking.{command}
use Rattle.ca_commands.proofs.laws.Numbered.{begins}
use Rattle.ca_commands.proofs.asking.numbered.Goals as goal

pub returns-in-Ok : goal.returns-in-Ok
returns-in-Ok g c n none is_form =
    let s = c.in-Some-Some-true-Some in
    let operands = c.in-Some.states.now ∷ c.in-Some.width.now ∷ c.in-Some.first.now ∷ c.in-Some.count.now ∷ [] in
    let are = subst (λ f. AreOperands f operands) (sym is_form) (s.ensures.0, s.ensures'.0, s.ensures''.0 refl, s.ensures'''.0) in
    let is = command n [] operands c.in-Some.ensures (sym none) are in
    record {
      k = _;
      m = _;
      first = _;
      count = _;
      is = record { texts = []; is = is; says = AreRuleTexts.NoText };
      are = c.in-Ok.ensures.accepted;
      rules_are = rw (sym s.ensures.1, sym s.ensures'.1, sym s.ensures'''.1) (c.in-Ok.ensures.numbers _ (begins _ _ c.decimal_number.ensures));
    }

pub returns-in-Err : goal.returns-in-Err
returns-in-Err g c n none is_form =
    let s = c.in-Some-Some-true-Some in
    let operands = c.in-Some.states.now ∷ c.in-Some.width.now ∷ c.in-Some.first.now ∷ c.in-Some.count.now ∷ [] in
    let are = subst (λ f. AreOperands f operands) (sym is_form) (s.ensures.0, s.ensures'.0, s.ensures''.0 refl, s.ensures'''.0) in
    let is = command n [] operands c.in-Some.ensures (sym none) are in
    let says = c.in-Err.ensures.numbers _ (begins _ _ c.decimal_number.ensures) in
    let fault = IsShapeFault.Numbers _ _ _ _ c.in-Err.fault (rw (sym s.ensures.1, sym s.ensures'.1, sym s.ensures'''.1) says) in
    (_, is, IsOperandFault.OfShape _ _ (subst (λ f. IsShapeFault f operands c.in-Err.fault) (sym is_form) fault))
