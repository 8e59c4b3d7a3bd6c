-- Bytes have one first fault, and the text of a certificate has none.
use Rattle.std.proofs.Common.{◌≡◌, refl, sym, ap, ◌∙◌, subst, List, [], ◌∷◌, ◌++◌, ℕ, zero, suc, ◌<◌, ◌≤◌, ⊎_elim, arith, codes}
use Rattle.std.specs.Prelude.{⊤}
use Rattle.word_image.proofs.Common.{AllByRecursion, recursion_from_All, cases_eq, none-some, LocalRule}
use Rattle.serde_json.specs.Data.{Data, object, Members}
use Rattle.serde_json.specs.Find.{as_object}
use Rattle.rule_text.specs.RuleTexts.{IsRuleText, IsTextFault}
use Rattle.rule_text.proofs.laws.Texts.{IsRuleText-unique, IsTextFault-unique, IsRuleText-no_fault}
use Rattle.cert_values.specs.declared.shape_fault.Key.{Key}
use Rattle.cert_values.specs.declared.shape_fault.Key.TheVariants as key
use Rattle.cert_values.specs.declared.shape_fault.ShapeFault.{ShapeFault}
use Rattle.cert_values.specs.declared.shape_fault.ShapeFault.TheVariants as shape
use Rattle.cert_values.specs.declared.cert_version.CertVersion.{CertVersion}
use Rattle.cert_values.specs.Certificates.{Certificate}
use Rattle.cert_values.specs.Versions.{number_of}
use Rattle.cert_values.specs.CertificateTexts.{IsCertificateText, AreParts, IsJson, IsObject, HasVersion, HasRuleText, IsWhole}
use Rattle.cert_values.specs.ShapeFaults.{IsShapeFault, IsFirstWithout, Passes, part_steps}
use Rattle.cert_values.specs.ShapeFaults.IsShapeFault.{NoJson, NoObject, NoVersion, OtherVersion, NoRule, BadRule, BadPart}
use Rattle.cert_values.proofs.laws.Uniqueness.{one_some, number_of-injective, IsWhole-unique, HasMember-unique, IsObject-unique, HasRuleText-unique}

-- the steps after the rule pass where the members say each part
passes_all : {ms : Members} {c : Certificate} → AreParts ms c → (k : Key) → Passes c.version c.rule ms k
passes_all {c = c} h key.Surjective = (c.surjective, h.surjective)
passes_all {c = c} h key.Injective = (c.injective, h.injective)
passes_all {c = c} h key.Right = (c.right, h.right)
passes_all {c = c} h key.Left = (c.left, h.left)
passes_all {c = c} h key.Conserving = (c.conserving, h.conserving)
passes_all {c = c} h key.Weights = (c.weights, h.weights)
passes_all {c = c} h key.Ranks = (c.forward, c.backward, h.ranks)
passes_all h key.Unknown = h.no_other
passes_all h _ = tt

-- what comes before the parts is one: the version, and the rule's text

one_version : (bytes : List ℕ) {ms ns : Members} (v w : ℕ) → IsObject bytes ms → IsObject bytes ns → HasVersion ms v → HasVersion ns w → v ≡ w
one_version bytes v w p q h k = HasMember-unique IsWhole IsWhole-unique (codes "version") v w (IsObject-unique bytes p q) h k

one_text : (bytes : List ℕ) {ms ns : Members} (text other : List ℕ) → IsObject bytes ms → IsObject bytes ns → HasRuleText ms text
    → HasRuleText ns other → text ≡ other
one_text bytes text other p q h k = HasRuleText-unique text other (IsObject-unique bytes p q) h k

-- the members, the version and the rule that come before the parts are one each
one_head : (bytes : List ℕ) {ms ns : Members} {v w : CertVersion} {text other : List ℕ} {r s : LocalRule} → IsObject bytes ms → IsObject bytes ns
    → HasVersion ms (number_of v) → HasVersion ns (number_of w)
    → HasRuleText ms text → HasRuleText ns other → IsRuleText text r → IsRuleText other s → (ms ≡ ns) × (v ≡ w) × (r ≡ s)
one_head bytes {v = v} {w = w} {text = text} {other = other} {r = r} json also version later rule_text other_text rule other_rule = (
  IsObject-unique bytes json also,
  number_of-injective v w (one_version bytes (number_of v) (number_of w) json also version later),
  IsRuleText-unique (subst (λ text. IsRuleText text r) (one_text bytes text other json also rule_text other_text) rule) other_rule,
)

-- the first of a list of which P isn't true is one
first_of_list : {A : Type 0} (P : A → Type 0) (before other after rest : List A) (x y : A) → before ++ x ∷ after ≡ other ++ y ∷ rest
    → AllByRecursion P before → AllByRecursion P other → ¬ P x → ¬ P y → x ≡ y
first_of_list P [] [] after rest x y e h k p q = cc
first_of_list P [] (b ∷ other) after rest x y e h k p q = let same : x ≡ b = cc in absurd (p (subst P (sym same) k.0))
first_of_list P (a ∷ before) [] after rest x y e h k p q = let same : a ≡ y = cc in absurd (q (subst P same h.0))
first_of_list P (a ∷ before) (b ∷ other) after rest x y e h k p q = let tails : before ++ x ∷ after ≡ other ++ y ∷ rest = cc in first_of_list P before other after rest x y tails h.1 k.1 p q

pub IsFirstWithout-unique : {A : Type 0} {P : A → Type 0} {xs : List A} {x y : A} → IsFirstWithout P xs x → IsFirstWithout P xs y → x ≡ y
IsFirstWithout-unique {P = P} {x = x} {y = y} p q =
    first_of_list P p.before q.before p.after q.after x y (sym p.list ∙ q.list) (recursion_from_All P p.before p.earlier) (recursion_from_All P q.before q.earlier) p.fails q.fails

-- what the bytes have that pass the first n steps, of six before the parts
abbrev Passed : List ℕ → ℕ → Type 0
Passed bytes zero = ⊤
Passed bytes (suc zero) = (d : Data) × IsJson bytes d
Passed bytes (suc (suc zero)) = (ms : Members) × IsObject bytes ms
Passed bytes (suc (suc (suc zero))) = (ms : Members) × (v : ℕ) × IsObject bytes ms × HasVersion ms v
Passed bytes (suc (suc (suc (suc zero)))) = (ms : Members) × (v : CertVersion) × IsObject bytes ms × HasVersion ms (number_of v)
Passed bytes (suc (suc (suc (suc (suc zero))))) = (ms : Members) × (v : CertVersion) × (text : List ℕ) × IsObject bytes ms × HasVersion ms (number_of v) × HasRuleText ms text
Passed bytes (suc (suc (suc (suc (suc (suc zero)))))) =
    (ms : Members) × (v : CertVersion) × (text : List ℕ) × (r : LocalRule) × IsObject bytes ms × HasVersion ms (number_of v) × HasRuleText ms text × IsRuleText text r
Passed bytes (suc (suc (suc (suc (suc (suc (suc i))))))) = ⊥

-- what passes a step passes those before it

step_before : (bytes : List ℕ) (i : ℕ) → Passed bytes (suc i) → Passed bytes i
step_before bytes zero passed = tt
step_before bytes (suc zero) (ms, json) = (object ms, json)
step_before bytes (suc (suc zero)) (ms, v, json, version) = (ms, json)
step_before bytes (suc (suc (suc zero))) (ms, v, json, version) = (ms, number_of v, json, version)
step_before bytes (suc (suc (suc (suc zero)))) (ms, v, text, json, version, rule_text) = (ms, v, json, version)
step_before bytes (suc (suc (suc (suc (suc zero))))) (ms, v, text, r, json, version, rule_text, rule) = (ms, v, text, json, version, rule_text)
step_before bytes (suc (suc (suc (suc (suc (suc i)))))) passed = absurd passed

steps_before : (bytes : List ℕ) (j i : ℕ) → i ≤ j → Passed bytes j → Passed bytes i
steps_before bytes zero i le passed = let none : i ≡ 0 = omega arith in subst (Passed bytes) (sym none) passed
steps_before bytes (suc j) i le passed =
    ⊎_elim
    (λ same. subst (Passed bytes) (sym same) passed)
    (λ other. steps_before bytes j i (omega (arith, le, other)) (step_before bytes j passed))
    (cases_eq i (suc j))

-- how many steps come before the one at which a fault's own step fails
abbrev stage : {bytes : List ℕ} {f : ShapeFault} → IsShapeFault bytes f → ℕ
stage (NoJson none) = 0
stage (NoObject d json none) = 1
stage (NoVersion ms json none) = 2
stage (OtherVersion ms v json version other) = 3
stage (NoRule ms v json version none) = 4
stage (BadRule ms v text json version rule_text g wrong) = 5
stage (BadPart ms v text r k json version rule_text rule first) = 6

-- the steps before a fault's stage pass
stage_passed : {bytes : List ℕ} {f : ShapeFault} (a : IsShapeFault bytes f) → Passed bytes (stage a)
stage_passed (NoJson none) = tt
stage_passed (NoObject d json none) = (d, json)
stage_passed (NoVersion ms json none) = (ms, json)
stage_passed (OtherVersion ms v json version other) = (ms, v, json, version)
stage_passed (NoRule ms v json version none) = (ms, v, json, version)
stage_passed (BadRule ms v text json version rule_text g wrong) = (ms, v, text, json, version, rule_text)
stage_passed (BadPart ms v text r k json version rule_text rule first) = (ms, v, text, r, json, version, rule_text, rule)

-- at a fault's stage its own step fails
stage_fails : {bytes : List ℕ} {f : ShapeFault} (a : IsShapeFault bytes f) → ¬ Passed bytes (suc (stage a))
stage_fails (NoJson none) h = none h.0 h.1
stage_fails (NoObject d json none) h = none-some h.0 (sym none ∙ ap as_object (one_some json.1 h.1.1))
stage_fails {bytes} (NoVersion ms json none) h = none h.1 (subst (λ ms. HasVersion ms h.1) (IsObject-unique bytes h.2 json) h.3)
stage_fails {bytes} (OtherVersion ms v json version other) h = other h.1 (one_version bytes v (number_of h.1) json h.2 version h.3)
stage_fails {bytes} (NoRule ms v json version none) h = none h.2 (subst (λ ms. HasRuleText ms h.2) (IsObject-unique bytes h.3 json) h.5)
stage_fails {bytes} (BadRule ms v text json version rule_text g wrong) h =
    IsRuleText-no_fault (subst (λ text. IsRuleText text h.3) (one_text bytes h.2 text h.4 json h.6 rule_text) h.7) wrong
stage_fails (BadPart ms v text r k json version rule_text rule first) h = h

-- the text of a certificate has no fault
pub IsCertificateText-no_fault : {bytes : List ℕ} {c : Certificate} {f : ShapeFault} → IsCertificateText bytes c → IsShapeFault bytes f → ⊥
IsCertificateText-no_fault {bytes} {c} h (BadPart ms v text r k json version rule_text rule first) =
    let head = one_head bytes h.json json h.version version h.rule_text rule_text h.rule rule in
    first.fails (subst (λ ms. Passes v r ms k) head.0 (subst (λ r. Passes v r h.members k) head.2 (subst (λ v. Passes v c.rule h.members k) head.1 (passes_all h.parts k))))
IsCertificateText-no_fault {bytes} {c} h a = stage_fails a (steps_before bytes 6 (suc (stage a)) (omega arith) (h.members, c.version, h.text, c.rule, h.json, h.version, h.rule_text, h.rule))

-- no fault of the bytes comes at an earlier step than another
not_before : {bytes : List ℕ} {f g : ShapeFault} (a : IsShapeFault bytes f) (b : IsShapeFault bytes g) → ¬ (stage a < stage b)
not_before {bytes} a b less = stage_fails a (steps_before bytes (stage b) (suc (stage a)) (omega (arith, less)) (stage_passed b))

-- two faults that come at one step are one
same_stage : {bytes : List ℕ} {f g : ShapeFault} (a : IsShapeFault bytes f) (b : IsShapeFault bytes g) → stage a ≡ stage b → f ≡ g
same_stage {bytes} (NoJson _) (NoJson _) same = refl
same_stage {bytes} (NoObject _ _ _) (NoObject _ _ _) same = refl
same_stage {bytes} (NoVersion _ _ _) (NoVersion _ _ _) same = refl
same_stage {bytes} (OtherVersion ms v json version _) (OtherVersion ns w other_json other_version _) same = ap shape.Version (one_version bytes v w json other_json version other_version)
same_stage {bytes} (NoRule _ _ _ _ _) (NoRule _ _ _ _ _) same = refl
same_stage {bytes} (BadRule ms _ text json _ rule_text f wrong) (BadRule ns _ other other_json _ other_text g other_wrong) same =
    ap shape.Rule (IsTextFault-unique (subst (λ text. IsTextFault text f) (one_text bytes text other json other_json rule_text other_text) wrong) other_wrong)
same_stage {bytes} (BadPart ms v text r k json version rule_text rule first) (BadPart ns w other s l other_json other_version other_text other_rule other_first) same =
    let head = one_head bytes json other_json version other_version rule_text other_text rule other_rule in
    ap shape.Shape (IsFirstWithout-unique (subst (λ r. IsFirstWithout (Passes w r ns) part_steps k) head.2 (subst (λ ms. IsFirstWithout (Passes w r ms) part_steps k) head.0 (subst (λ v. IsFirstWithout (Passes v r ms) part_steps k) head.1 first))) other_first)
same_stage _ _ same = absurd (omega (arith, same))

-- bytes have one first fault
pub IsShapeFault-unique : {bytes : List ℕ} {f g : ShapeFault} → IsShapeFault bytes f → IsShapeFault bytes g → f ≡ g
IsShapeFault-unique a b = same_stage a b (omega (arith, not_before a b, not_before b a))
