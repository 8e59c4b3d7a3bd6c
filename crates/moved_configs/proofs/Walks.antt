-- A window of a core goes on for ever on both sides, and such a walk of windows spells a configuration.
use Rattle.std.proofs.Common.{◌≡◌, ℕ, zero, suc, ◌+◌, ◌-◌, ◌/◌, ◌^◌, ◌<◌, List, length, take, ℤ, pos, negsuc, ◌+ℤ◌, IsBitSet, refl, sym, ap, ◌∙◌, subst, arith, length-take-le, pow-suc}
use Rattle.word_image.proofs.Common.{pow-zero, ints, LocalRule, IsRule, value, word_of, node_count, end_node, window_with, end_node-below, div-mul-add, mod-mul-add, window_with-within, word_of-value, IsWord-word_of, length-word_of, value-take-word_of, All-take}
use Rattle.word_image.specs.Sides.{other}
use Rattle.word_image.specs.declared.side.Side.{Side}
use Rattle.word_image.specs.declared.side.Side.TheVariants.{Right, Left}
use Rattle.moved_configs.specs.Trims.{IsKept, GoesOn, IsTrimmed}

-- a kept window that leads from a node of the set to a node of the set
pub record IsInside (r : LocalRule) (p set w : ℕ) : Type 0 where
  pub within : w < r.states ^ r.width
  pub kept : IsKept r p w
  pub ends : (side : Side) → IsBitSet set (end_node side r w)

-- the window of a node and a letter has the node at the other end
pub other-end : (side : Side) {r : LocalRule} → IsRule r → (u a : ℕ) → u < node_count r → a < r.states → end_node (other side) r (window_with side r u a) ≡ u
other-end Right {r} rule u a node letter = div-mul-add u r.states a letter
other-end Left {r} rule u a node letter = mod-mul-add a (node_count r) u node

-- a window goes on, on a side, to a window
pub record IsNextOn (side : Side) (r : LocalRule) (p set w : ℕ) : Type 0 where
  pub window : ℕ
  pub inside : IsInside r p set window
  pub joined : end_node (other side) r window ≡ end_node side r w

-- both ends of a window, from one side
pub by_side : (P : Side → Type 0) (side : Side) → P side → P (other side) → (s : Side) → P s
by_side P Right here there Right = here
by_side P Right here there Left = there
by_side P Left here there Left = here
by_side P Left here there Right = there

-- what goes on to both sides goes on to each
chosen : (r : LocalRule) (p set u : ℕ) (side : Side) → GoesOn Right r p set u × GoesOn Left r p set u → GoesOn side r p set u
chosen r p set u Right both = both.0
chosen r p set u Left both = both.1

-- a window inside goes on if a trim doesn't change the set
pub goes_further : (side : Side) {r : LocalRule} (p set w : ℕ) → IsRule r → IsTrimmed r p set set → IsInside r p set w → IsNextOn side r p set w
goes_further side {r} p set w rule fixed h =
    let u : ℕ = end_node side r w in
    let node : u < node_count r = end_node-below side rule w h.within in
    let (a, letter, (kept, bit)) = chosen r p set u side ((fixed.nodes u node).0 (h.ends side)).1 in
    let back = other-end side rule u a node letter in
    record {
      window = window_with side r u a;
      inside = record {
        within = window_with-within side rule u a node letter;
        kept = kept;
        ends = by_side (λ s. IsBitSet set (end_node s r (window_with side r u a))) side bit (subst (IsBitSet set) (sym back) (h.ends side));
      };
      joined = back;
    }

-- a walk of windows inside, without end on one side
pub endless : (side : Side) {r : LocalRule} (p set w : ℕ) → IsRule r → IsTrimmed r p set set → IsInside r p set w → ℕ → (v : ℕ) × IsInside r p set v
endless side p set w rule fixed h zero = (w, h)
endless side p set w rule fixed h (suc n) =
    let before = endless side p set w rule fixed h n in
    let on = goes_further side p set before.0 rule fixed before.1 in
    (on.window, on.inside)

-- windows inside, each joined to the next
pub record AreJoined (r : LocalRule) (p set w : ℕ) : Type 0 where
  pub windows : ℤ → ℕ
  pub inside : (i : ℤ) → IsInside r p set (windows i)
  pub joined : (i : ℤ) → end_node Left r (windows (i +ℤ pos 1)) ≡ end_node Right r (windows i)
  pub starts : windows (pos 0) ≡ w

-- each window inside is joined to others for ever on both sides
pub joined_both : {r : LocalRule} (p set w : ℕ) → IsRule r → IsTrimmed r p set set → IsInside r p set w → AreJoined r p set w
unfolding endless
joined_both {r} p set w rule fixed h = record { windows = at; inside = inside; joined = joined; starts = refl }
  where
    first : IsNextOn Left r p set w
    first = goes_further Left p set w rule fixed h

    at : ℤ → ℕ
    at (pos n) = (endless Right p set w rule fixed h n).0
    at (negsuc n) = (endless Left p set first.window rule fixed first.inside n).0

    inside : (i : ℤ) → IsInside r p set (at i)
    inside (pos n) = (endless Right p set w rule fixed h n).1
    inside (negsuc n) = (endless Left p set first.window rule fixed first.inside n).1

    joined : (i : ℤ) → end_node Left r (at (i +ℤ pos 1)) ≡ end_node Right r (at i)
    joined (pos n) =
        let next : pos n +ℤ pos 1 ≡ pos (suc n) = omega (arith, ints) in
        let here = endless Right p set w rule fixed h n in
        ap (λ j. end_node Left r (at j)) next ∙ (goes_further Right p set here.0 rule fixed here.1).joined
    joined (negsuc zero) = sym first.joined
    joined (negsuc (suc n)) =
        let next : negsuc (suc n) +ℤ pos 1 ≡ negsuc n = omega (arith, ints) in
        let here = endless Left p set first.window rule fixed first.inside n in
        ap (λ j. end_node Left r (at j)) next ∙ sym (goes_further Left p set here.0 rule fixed here.1).joined

-- the first n letters of a word of n + 1 letters, by its value
pub word_of-front : (k n v : ℕ) → 0 < k → v < k ^ (n + 1) → word_of k n (v / k) ≡ take n (word_of k (n + 1) v)
word_of-front k n v some below =
    let w : List ℕ = word_of k (n + 1) v in
    let long : length (take n w) ≡ n = length-take-le n w (omega (arith, length-word_of k (n + 1) v)) in
    let one : n + 1 - n ≡ 1 = omega arith in
    let num : value k (take n w) ≡ v / k = value-take-word_of k n (n + 1) v (omega arith) below ∙ ap (λ j. v / k ^ j) one ∙ ap (λ j. v / j) (grind (arith, pow-suc, pow-zero)) in
    sym (ap (λ j. word_of k j (v / k)) long) ∙ ap (word_of k (length (take n w))) (sym num) ∙ word_of-value k (take n w) (All-take (λ a. a < k) n w (IsWord-word_of k (n + 1) v below))
