-- A ring and the words round it and its image; the stage after it.
use Rattle.std.proofs.Common.{◌≡◌, ℕ, ◌+◌, ◌*◌, ◌^◌, ◌<◌, ◌≤◌, List, length, take, set, ℤ, pos, subst, arith}
use Rattle.kept_sums.proofs.laws.Integers.{factor-none}
use Rattle.word_image.proofs.Common.{range_with_len, All-map, length-map-range_with_len, LocalRule, IsRule, IsWord, IsWord-le, value, IsRing, ring_letters, ring_image, IsWord-ring_letters, value-below}
use Rattle.ring_laws.proofs.Rings.{IsWord-ring_image, length-ring_letters}
use Rattle.kept_sums.specs.Sums.{blocks}
use Rattle.kept_sums.specs.Spans.{entry, gain_at, IsNarrowed, AreSmall}
use Rattle.kept_sums.specs.Stages.{IsStage, IsAfterRing, IsCondition}
use Rattle.kept_sums.proofs.laws.Sums.{IsLinear-gain}
use Rattle.kept_sums.proofs.laws.Spans.{linear-narrowed, gain_at-narrowed}
use Rattle.kept_sums.proofs.laws.Densities.{length-ring_image, KeepsSumOf-gain}
use Rattle.kept_sums.proofs.laws.Stages.{IsStage-narrowed}

-- how many words stand round a ring
pub length-blocks : (k range : ℕ) (p : List ℕ) → length (blocks k range p) ≡ length p
length-blocks k range p = length-map-range_with_len (λ i. value k (ring_letters p (pos i) range)) 0 (length p)

-- the values of the words round a ring are below k^range
pub IsWord-blocks : {k : ℕ} (range : ℕ) {p : List ℕ} → IsRing k p → IsWord (k ^ range) (blocks k range p)
IsWord-blocks {k} range {p} ring =
    All-map (λ a. a < k ^ range) (λ i. value k (ring_letters p (pos i) range)) (range_with_len 0 (length p))
    (λ i d l. subst (λ n. value k (ring_letters p (pos _) range) < k ^ n) (length-ring_letters p (pos _) range) (value-below k (ring_letters p (pos _) range) (IsWord-ring_letters ring (pos _) range)))

-- the image of a ring is one
pub IsRing-ring_image : {r : LocalRule} → IsRule r → {p : List ℕ} → IsRing r.states p → IsRing r.states (ring_image r p)
IsRing-ring_image {r} rule {p} ring = let some = ring.some in record { word = IsWord-ring_image rule p; some = omega (arith, length-ring_image r p) }

-- the words round the image of a ring and those round the ring weigh the same exactly where the ring keeps the sum
pub IsCondition-ring : {r : LocalRule} → IsRule r → (range : ℕ) (p : List ℕ) → r.states ^ range ≤ 16 → length p ≤ 16 → IsRing r.states p
    → IsCondition r range p (blocks r.states range (ring_image r p)) (blocks r.states range p)
IsCondition-ring rule range p few short ring =
    grind (arith, length-blocks, length-ring_image, IsWord-blocks, IsRing-ring_image)

-- the same of the two words in the other order
pub IsCondition-swap : {r : LocalRule} {range : ℕ} {p x y : List ℕ} → IsCondition r range p x y → IsCondition r range p y x
IsCondition-swap c = grind arith

-- rows narrowed by a ring are a stage after it
pub IsAfterRing-narrowed : {r : LocalRule} {range j : ℕ} {rows news : List (List ℤ)} {counts : List ℕ} {rings : List (List ℕ)} {x y : List ℕ}
    → IsRule r → (n : ℕ) (letters : List ℕ)
    → IsStage r range rows counts rings → r.states ^ range ≤ 16 → IsCondition r range (take n letters) x y → j < 16
    → ((i : ℕ) → j < i → i < 16 → gain_at (entry rows i) x y ≡ pos 0)
    → IsNarrowed rows x y j news → AreSmall news → 1 ≤ n → n + 3 ≤ 2 * (r.width + range) → IsRing r.states (take n letters)
    → IsAfterRing r range rows (take n letters) news (set counts j n) (set rings j letters)
IsAfterRing-narrowed {r} {range} {j} {rows} {news} rule n letters stage few condition lies last narrowed small some fits ring = record {
  stage = IsStage-narrowed n letters stage few condition lies last narrowed small some fits ring;
  keep = λ i l. (condition.keeps (entry news i)).1 (gain_at-narrowed narrowed condition.short.after_word condition.short.before_word i l);
  others = λ q other keep i l.
      let around = IsWord-le _ 16 _ few (IsWord-blocks range (IsRing-ring_image rule other)) in
      let none = λ (m : ℕ) (h : m < 16). (KeepsSumOf-gain range (entry rows m) r q).0 (keep m h) in
      (KeepsSumOf-gain range (entry news i) r q).1
      (linear-narrowed narrowed (IsLinear-gain _ _ around (IsWord-le _ 16 _ few (IsWord-blocks range other))) i l (none i l) (factor-none _ _ (none j lies)));
}
