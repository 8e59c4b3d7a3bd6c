-- How many words of a length pass a test that tells whether they have some image, under a surjective rule.
use Rattle.std.proofs.Common.{◌≡◌, ℕ, ◌+◌, ◌-◌, ◌^◌, ◌↔◌, List, length, Bool, true, Decides, ◌∙◌, arith}
use Rattle.std.proofs.lemmas.Slice.Eq.{bytes_eq-Decides}
use Rattle.word_image.proofs.Common.{LocalRule, IsRule, IsWord, value, node_count, image, IsSurjective, value-word_of, length-word_of, IsWord-word_of}
use Rattle.garden_laws.specs.ZeroPairs.{count_below}
use Rattle.garden_laws.proofs.Counts.{count_below-agree}
use Rattle.garden_laws.proofs.CountedPreimages.{count_of}
use Rattle.garden_laws.proofs.Balance.{count_of-surjective}

-- by their values, as many words pass a test of having the image w as there are nodes
pub count_below-image : {r : LocalRule} → IsRule r → IsSurjective r → (w : List ℕ) → IsWord r.states w → (p : ℕ → Bool)
    → ((x : List ℕ) → IsWord r.states x → length x ≡ length w + (r.width - 1) → (p (value r.states x) ≡ true) ↔ (image r x ≡ w))
    → count_below p (r.states ^ (length w + (r.width - 1))) ≡ node_count r
unfolding count_of
count_below-image {r} rule every w word p tests =
    let k : ℕ = r.states in
    let n : ℕ = length w + (r.width - 1) in
    let Tells : ℕ → List ℕ → Type 0 = λ a x. Decides (p a) (image r x ≡ w) in
    count_below-agree p _ (k ^ n) (grind (arith, value-word_of, IsWord-word_of, length-word_of, bytes_eq-Decides))
    ∙ count_of-surjective rule every w word
