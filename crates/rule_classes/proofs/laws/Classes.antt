-- What the rules of a class have in common, and how its least rule is found.
use Rattle.std.proofs.Common.{◌≡◌, ℕ, ◌<◌, ◌≤◌, List, Bool, true, false, refl, sym, ap, ◌∙◌, ⊎_elim, arith, ◌↔◌, true≢false}
use mathlib.Core.Logic.Iff.{trans as iff_then}
use Rattle.word_image.proofs.Common.{false≢true, same_from_decides, LocalRule, IsRule, mirrored, wolfram_number, IsSurjective, IsRule-mirrored}
use Rattle.tail_config.proofs.Common.{IsInjective, IsRightClosing, IsLeftClosing}
use Rattle.tail_laws.proofs.Common.{IsLeftClosing-mirrored}
use Rattle.rule_algebra.specs.Algebra.{IsRecoloured}
use Rattle.rule_classes.specs.Classes.{HasRecolouredTable, IsInClass, IsLeastOfClass}
use Rattle.rule_classes.specs.ClassVerdicts.{HaveOneVerdict}
use Rattle.rule_classes.specs.Colourings.{AreInverse, IsColouring, Completes, IsLeastColouring, in_colours, recoloured_number}
use Rattle.rule_classes.specs.declared.colourings.Colouring.{Colouring}
use Rattle.rule_classes.proofs.laws.Colours.{AreInverse-swap, inverse_letters}
use Rattle.rule_classes.proofs.laws.Recoloured.{IsRecoloured-back, IsSurjective-recoloured}
use Rattle.rule_classes.proofs.laws.RecolouredTails.{IsInjective-recoloured, IsRightClosing-recoloured, IsLeftClosing-recoloured}
use Rattle.rule_classes.proofs.laws.Mirrors.{IsSurjective-mirrored, IsInjective-mirrored, IsRightClosing-left_mirrored}
use Rattle.rule_classes.proofs.laws.Numbers.{same_number}
use Rattle.rule_classes.proofs.laws.Colourings.{IsRule-in_colours, IsInClass-colours, colouring_of}
use Rattle.rule_classes.proofs.laws.Completions.{no_greater}

-- every rule of the class is accepted
pub IsRule-class : {r g : LocalRule} → IsRule r → (mirror : Bool) → IsInClass r mirror g → IsRule g
IsRule-class {r} rule mirror h = let found = colouring_of r mirror h in rw found.3 (IsRule-in_colours found.0 rule found.1)

-- a verdict that recolouring keeps is one on a rule and on a rule with its table in new colours
kept : {b g : LocalRule} (P : LocalRule → Type 0) → IsRule b → HasRecolouredTable b g
    → ((r s : LocalRule) (colours letters : List ℕ) → IsRule r → AreInverse r.states colours letters → IsRecoloured colours r s → P r → P s)
    → (P b ↔ P g)
kept {b} {g} P rule h keeps =
    let found = inverse_letters h.recolouring in
    let new = h.recoloured in
    (keeps b g h.colours found.0 rule found.1 new, keeps g b found.0 h.colours (IsRule-class rule false h) (rw new.states (AreInverse-swap found.1)) (IsRecoloured-back rule found.1 new))

-- the verdicts on a rule are those on each rule of its class, with right and left exchanged by a mirror
pub HaveOneVerdict-class : {r g : LocalRule} → IsRule r → (mirror : Bool) → IsInClass r mirror g → HaveOneVerdict r mirror g
HaveOneVerdict-class {r} {g} rule true h =
    let turned = IsRule-mirrored rule in
    record {
      surjective = iff_then (IsSurjective-mirrored rule) (kept IsSurjective turned h IsSurjective-recoloured);
      injective = iff_then (IsInjective-mirrored rule) (kept IsInjective turned h IsInjective-recoloured);
      right = λ e. absurd (true≢false e);
      left = λ e. absurd (true≢false e);
      right_mirrored = λ e. iff_then (IsRightClosing-left_mirrored rule) (kept IsLeftClosing turned h IsLeftClosing-recoloured);
      left_mirrored = λ e. iff_then (IsLeftClosing-mirrored rule) (kept IsRightClosing turned h IsRightClosing-recoloured);
    }
HaveOneVerdict-class {r} {g} rule false h = record {
  surjective = kept IsSurjective rule h IsSurjective-recoloured;
  injective = kept IsInjective rule h IsInjective-recoloured;
  right = λ e. kept IsRightClosing rule h IsRightClosing-recoloured;
  left = λ e. kept IsLeftClosing rule h IsLeftClosing-recoloured;
  right_mirrored = λ e. absurd (false≢true e);
  left_mirrored = λ e. absurd (false≢true e);
}

-- every colouring completes one of which no colour is chosen, mirrored as it is
Completes-all : {k : ℕ} {c d : Colouring} → IsColouring k d → d.mirrored ≡ c.mirrored → Completes k c 0 k d
Completes-all {k} {c} {d} colouring mirrored = grind arith

-- the least of all that aren't mirrored, and then of all that are, makes the least rule of the class
pub IsLeastOfClass-found : {r : LocalRule} {own other first found : Colouring} → IsRule r → own.mirrored ≡ false → other.mirrored ≡ true
    → IsLeastColouring r own 0 r.states own first → IsLeastColouring r other 0 r.states first found
    → IsLeastOfClass r found.mirrored (in_colours r found)
IsLeastOfClass-found {r} {own} {other} {first} {found} rule straight turned one two =
    let less : recoloured_number r found ≤ recoloured_number r first = no_greater r two.one in
    let in_first : (h : LocalRule) → IsInClass r false h → recoloured_number r first ≤ wolfram_number h = λ h inside.
    let d = colouring_of r false inside in omega (arith, ap wolfram_number d.3, one.least d.0 (Completes-all d.1 (d.2 ∙ sym straight))) in
    let member : IsInClass r found.mirrored (in_colours r found) = IsInClass-colours found.mirrored rule two.colouring in
    record {
      member = member;
      least = elim [
        | true ↦ λ h inside. let d = colouring_of r true inside in omega (arith, ap wolfram_number d.3, two.least d.0 (Completes-all d.1 (d.2 ∙ sym turned)))
        | false ↦ λ h inside. omega (arith, in_first h inside)
      ];
      needed = ⊎_elim
          (λ (same : found ≡ first). grind (arith, false≢true))
          (λ (new : Completes r.states other 0 r.states found × (recoloured_number r found < recoloured_number r first)).
          (λ is inside. absurd (omega (arith, new.1, in_first (in_colours r found) inside)), λ none. new.0.mirrored ∙ turned))
          two.one;
    }

-- a class has one least rule
pub IsLeastOfClass-unique : {r g h : LocalRule} → IsRule r → (a b : Bool) → IsLeastOfClass r a g → IsLeastOfClass r b h → g ≡ h
IsLeastOfClass-unique {r} {g} {h} rule a b first second =
    let (c, here, _, one) = colouring_of r a first.member in
    let (d, there, _, other) = colouring_of r b second.member in
    one ∙ same_number (IsRule-in_colours c rule here) (IsRule-in_colours d rule there) refl refl refl
    (omega (arith, ap wolfram_number one, ap wolfram_number other, first.least b h second.member, second.least a g first.member)) ∙ sym other

-- whether the least rule takes the mirrored rule is said in one way
pub IsLeastOfClass-mirrored : {r g h : LocalRule} → IsRule r → (a b : Bool) → IsLeastOfClass r a g → IsLeastOfClass r b h → a ≡ b
IsLeastOfClass-mirrored {r} rule a b first second = grind (arith, same_from_decides, IsLeastOfClass-unique)
