-- A rule is closing on both sides exactly if preimages of one configuration are separated.
use Rattle.std.proofs.Common.{◌≡◌, ◌-◌, ◌↔◌, ℤ, pos, ◌+ℤ◌, ◌-ℤ◌, refl, sym, ◌∙◌, subst, arith}
use Rattle.word_image.proofs.Common.{ints, LocalRule, IsRule}
use Rattle.tail_config.proofs.Common.{Config, IsConfig, run, image_of, IsOpen, run-same, same-run}
use Rattle.config_laws.proofs.Joined.{meeting, meeting-left, meeting-right, IsConfig-meeting, image_of-meeting}
use Rattle.config_laws.proofs.Everywhere.{IsRightClosing-everywhere, IsLeftClosing-everywhere}
use Rattle.preimage_laws.specs.PreimageCounts.{HasSeparatedPreimages}

-- the left part of one preimage and the right part of another make a third, if they have the same m - 1 letters where they meet
pub image_of-run_meeting : (r : LocalRule) (x z : Config) {y : Config} (s : ℤ) → run x s (r.width - 1) ≡ run z s (r.width - 1) → image_of r x ≡ y
    → image_of r z ≡ y → image_of r (meeting x z s) ≡ y
image_of-run_meeting r x z {y} s node first second =
    let i : ℤ = s -ℤ r.offset in
    let here : i +ℤ r.offset ≡ s = omega (arith, ints) in
    subst (λ e. image_of r (meeting x z e) ≡ y) here (image_of-meeting r x z i
    (same-run x z (i +ℤ r.offset) (i +ℤ r.offset) (r.width - 1) (subst (λ e. run x e (r.width - 1) ≡ run z e (r.width - 1)) (sym here) node)) first second)

-- under a rule that is closing on both sides preimages are separated: what they make if they meet is equal to both
HasSeparatedPreimages-open : {r : LocalRule} → IsRule r → IsOpen r → HasSeparatedPreimages r
HasSeparatedPreimages-open {r} rule closing x y s hx hy same node =
    let z : Config = meeting x y s in
    let hz : IsConfig r.states z = IsConfig-meeting hx hy s in
    let image : image_of r z ≡ image_of r y = image_of-run_meeting r x y s node same refl in
    sym ((IsRightClosing-everywhere rule).0 closing.0 z x hz hx (image ∙ sym same) (s, meeting-left x y s))
    ∙ (IsLeftClosing-everywhere rule).0 closing.1 z y hz hy image (s, λ j l. meeting-right x y s j (omega (arith, ints)))

-- a rule is closing on both sides exactly if preimages are separated
pub IsOpen-separated : {r : LocalRule} → IsRule r → IsOpen r ↔ HasSeparatedPreimages r
IsOpen-separated {r} rule = (
  HasSeparatedPreimages-open rule,
  λ apart. (
    (IsRightClosing-everywhere rule).1 (λ x y hx hy same (p, left). apart x y (p -ℤ pos r.width) hx hy same (run-same x y _ _ (r.width - 1) (λ a l. left _ (omega (arith, ints))))),
    (IsLeftClosing-everywhere rule).1 (λ x y hx hy same (p, right). apart x y (p +ℤ pos 1) hx hy same (run-same x y _ _ (r.width - 1) (λ a l. right _ (omega (arith, ints))))),
  ),
)
