use Rattle.std.proofs.Common.{◌≡◌, ◌↔◌, Bool, IsTrue, sym, subst}
use Rattle.word_image.proofs.Common.{LocalRule}
use Rattle.rule_lists.specs.Properties.{Has}
use Rattle.rule_lists.specs.declared.properties.Property.{Property}
use Rattle.rule_lists.proofs.properties.has.Goals as goal

-- what was found of an equal rule, for the property that is asked
asked : {p q : Property} {r s : LocalRule} {found : Bool} → p ≡ q → s ≡ r → (IsTrue found ↔ Has q s) → IsTrue found ↔ Has p r
asked {p} {q} {r} {s} {found} same one is = subst (λ x. IsTrue found ↔ Has x r) (sym same) (subst (λ x. IsTrue found ↔ Has q x) one is)

pub returns-in-Surjective : goal.returns-in-Surjective
returns-in-Surjective c = asked c.in-Surjective.is c.of.ensures c.is_surjective.ensures.surjective

pub returns-in-Injective : goal.returns-in-Injective
returns-in-Injective c = asked c.in-Injective.is c.endless.ensures c.is_injective.ensures.injective

pub returns-in-RightClosing : goal.returns-in-RightClosing
returns-in-RightClosing c = asked c.in-RightClosing.is c.endless-in-RightClosing.ensures c.is_right_closing.ensures

pub returns-in-LeftClosing : goal.returns-in-LeftClosing
returns-in-LeftClosing c = asked c.in-LeftClosing.is c.endless-in-LeftClosing.ensures c.is_left_closing.ensures

pub returns-in-Open : goal.returns-in-Open
returns-in-Open c = asked c.in-Open.is c.endless-in-Open.ensures c.is_open.ensures
