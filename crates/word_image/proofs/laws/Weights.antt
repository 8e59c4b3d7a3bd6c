-- Where each letter weighs its own value.
use Rattle.std.proofs.Common.{◌≡◌, ℕ, ◌<◌, ◌≤◌, slice_index, ◌∙◌, arith}
use Rattle.std.proofs.lemmas.List.FromFn.{length-range_with_len, get_or-range_with_len}
use Rattle.std.proofs.lemmas.List.Elements.{All-from_get_or}
use Rattle.word_image.specs.Weights.{AreWeights, own_weights}

-- a letter weighs itself
pub own_weights-letter : (k a : ℕ) → a < k → slice_index (own_weights k) a ≡ a
own_weights-letter k a l = get_or-range_with_len 0 k a 0 l ∙ omega arith

-- own weights are weights of at most 256 letters
pub AreWeights-own : {k : ℕ} → k ≤ 256 → AreWeights k (own_weights k)
AreWeights-own {k} few =
    let long = length-range_with_len 0 k in
    record {
      each_letter = long;
      small = All-from_get_or (λ w. w ≤ 255) (own_weights k) 0 (λ i l. let same = own_weights-letter k i (omega (arith, long)) in omega (arith, same));
    }
