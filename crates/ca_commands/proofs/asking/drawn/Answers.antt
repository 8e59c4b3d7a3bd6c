use Rattle.std.proofs.Common.{[], ◌∷◌, refl, sym}
use Rattle.ca_commands.specs.declared.names.Name.TheVariants as name
use Rattle.ca_commands.specs.Asked.{AreRuleTexts, IsOperandFault, IsShapeFault}
use Rattle.ca_commands.proofs.laws.Asking.{command}
use Rattle.ca_commands.proofs.asking.drawn.Goals as goal

pub returns-in-Ok : goal.returns-in-Ok
returns-in-Ok g c =
    let s = c.in-Some-Some-Some-Some in
    let operands = c.in-Some.states.now ∷ c.in-Some.width.now ∷ c.in-Some.from.now ∷ c.in-Some.count.now ∷ [] in
    let is = command name.Sample [] operands c.in-Some.ensures refl (s.ensures.0, s.ensures'.0, s.ensures''.0, s.ensures'''.0) in
    record {
      k = _;
      m = _;
      seed = _;
      count = _;
      is = record { texts = []; is = is; says = AreRuleTexts.NoText };
      are = c.in-Ok.ensures.accepted;
      accepted = rw (sym s.ensures.1, sym s.ensures'.1) c.in-Ok.ensures.seed.0;
      rules_are = rw (sym s.ensures.1, sym s.ensures'.1, sym s.ensures''.1, sym s.ensures'''.1) c.in-Ok.ensures.seed.1;
    }

pub returns-in-Err : goal.returns-in-Err
returns-in-Err g c =
    let s = c.in-Some-Some-Some-Some in
    let operands = c.in-Some.states.now ∷ c.in-Some.width.now ∷ c.in-Some.from.now ∷ c.in-Some.count.now ∷ [] in
    let is = command name.Sample [] operands c.in-Some.ensures refl (s.ensures.0, s.ensures'.0, s.ensures''.0, s.ensures'''.0) in
    (_, is, IsOperandFault.OfShape _ _ (IsShapeFault.Seed _ _ _ _ c.in-Err.first (rw (sym s.ensures.1, sym s.ensures'.1) c.in-Err.ensures.seed)))
