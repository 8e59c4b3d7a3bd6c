-- A ring is only moved if and only if its image is the ring, read from another place on.
use Rattle.std.proofs.Common.{◌≡◌, ℕ, ◌↔◌, List, length, map, get_or, ℤ, pos, ◌+ℤ◌, sym, ap, ◌∙◌, arith}
use Rattle.std.proofs.Math.Path.{fun_ext}
use Rattle.word_image.proofs.Common.{ints, LocalRule, IsRing, ring_image, ring_letter, ring_letters, range_with_len, get_or-map-range_with_len}
use Rattle.tail_config.proofs.Common.{Config, image_of}
use Rattle.config_laws.proofs.Periods.{HasPeriod-ring, HasPeriod-image, same_periodic}
use Rattle.moved_configs.specs.MovedWindows.{IsMovedBy}

-- a ring is only moved if and only if its image is the ring, read from place s on
pub IsMovedBy-ring : (r : LocalRule) (s : ℤ) (p : List ℕ) → IsRing r.states p → (IsMovedBy r s (ring_letter p) ↔ (ring_image r p ≡ ring_letters p s (length p)))
IsMovedBy-ring r s p ring = (there, back)
  where
    x : Config
    x = ring_letter p

    new : ℕ → ℕ
    new i = image_of r x (pos i)

    old : ℕ → ℕ
    old i = x (s +ℤ pos i)

    later : Config
    later i = x (i +ℤ s)

    there : IsMovedBy r s x → ring_image r p ≡ ring_letters p s (length p)
    there moved = ap (λ (f : ℕ → ℕ). map f (range_with_len 0 (length p))) {x = new} {y = old} (fun_ext (λ i.
        let on : pos i +ℤ s ≡ s +ℤ pos i = omega (arith, ints) in
        moved (pos i) ∙ ap x on))

    back : ring_image r p ≡ ring_letters p s (length p) → IsMovedBy r s x
    back e i = ap (λ (f : Config). f i) (same_periodic {p = length p} {x = image_of r x} {y = later}
        (HasPeriod-image r (HasPeriod-ring p ring.some))
        (record { some = ring.some; again = λ j. let on : j +ℤ pos (length p) +ℤ s ≡ j +ℤ s +ℤ pos (length p) = omega (arith, ints) in ap x on ∙ (HasPeriod-ring p ring.some).again (j +ℤ s) })
        (pos 0)
        (λ a l.
        let here : pos 0 +ℤ pos a ≡ pos a = omega (arith, ints) in
        let on : s +ℤ pos a ≡ pos 0 +ℤ pos a +ℤ s = omega (arith, ints) in
        ap (image_of r x) here ∙ sym (get_or-map-range_with_len new 0 (length p) a a 0 l (omega arith)) ∙ ap (λ w. get_or w a 0) e
        ∙ get_or-map-range_with_len old 0 (length p) a a 0 l (omega arith) ∙ ap x on))
