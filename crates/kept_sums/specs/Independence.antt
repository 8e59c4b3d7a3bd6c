-- The answer to the question which sums of weights a rule keeps has rows and rings. A row gives a weight to each word,
-- and the rule keeps the sum of these weights. A ring excludes all weights whose sum this ring doesn't keep: its words
-- and the words of its image have different sums. Weights are normal if they are 0 for each word that begins with 0.
-- This file defines when a ring of the answer is needed.
use Rattle.std.specs.Prelude.{◌≢◌, ℕ, zero, suc, ◌+◌, ◌<◌, ◌≤◌, ◌==◌, if◌then◌else◌, List, slice_index, ℤ}
use Rattle.word_image.specs.LocalRules.{LocalRule}
use Rattle.word_image.specs.Rings.{ring_image}
use Rattle.kept_sums.specs.Sums.{blocks, KeepsSumOf}
use Rattle.kept_sums.specs.Rows.{most_words}
use Rattle.kept_sums.specs.Spans.{gain_at}
use Rattle.kept_sums.specs.Stages.{IsNormal, ring_at}

-- the gain of the ring stored at place i: the sum of the weights of the words around its image, minus the sum around the ring itself
abbrev pub ring_gain : LocalRule → ℕ → List ℕ → List (List ℕ) → (ℕ → ℤ) → ℕ → ℤ
ring_gain r range counts rings weight i = gain_at weight (blocks r.states range (ring_image r (ring_at counts rings i))) (blocks r.states range (ring_at counts rings i))

-- the ring stored at place i is needed: all other stored rings keep the sum of some normal weights, and this ring doesn't keep it
pub record IsNeeded (r : LocalRule) (range : ℕ) (counts : List ℕ) (rings : List (List ℕ)) (i : ℕ) : Type 0 where
  pub weight : ℕ → ℤ
  pub normal : IsNormal r.states range weight
  pub others : (l : ℕ) → l < most_words → 1 ≤ slice_index counts l → l ≢ i → KeepsSumOf range weight r (ring_at counts rings l)
  pub changed : ¬ KeepsSumOf range weight r (ring_at counts rings i)

-- how many of the numbers f 0, .., f (n - 1) aren't 0
unfoldable pub places_with : ℕ → (ℕ → ℕ) → ℕ
places_with zero f = 0
places_with (suc n) f = places_with n f + (if f n == 0 then 0 else 1)
