-- Two words with one image are a walk in the graph of pairs, from their first nodes to their last.
use Rattle.std.proofs.lemmas.Grind.{common_steps}
use Rattle.std.proofs.Common.{◌≡◌, ℕ, zero, suc, ◌+◌, ◌-◌, ◌<◌, ◌≤◌, List, [], ◌∷◌, ◌++◌, length, take, drop, get_or, refl, sym, ap, ◌∙◌, arith, zip, length-take-le}
use Rattle.word_image.proofs.Common.{drop_more, All-take, LocalRule, IsRule, value, node_count, HaveOneImage, pair_of, value-node}
use Rattle.pair_laws.proofs.Common.{image-first, value-first, HaveOneImage-take, HaveOneImage-drop, follow-pair_of}
use Rattle.tail_laws.proofs.PairLeads.{PairLeads}

-- the letter pairs of two words in a row are those of the first parts and then those of the second
pub zip-append : (a b c d : List ℕ) → length a ≡ length c → zip (a ++ b) (c ++ d) ≡ zip a c ++ zip b d
zip-append [] b [] d e = refl
zip-append [] b (v ∷ c) d e = absurd (omega arith)
zip-append (u ∷ a) b [] d e = absurd (omega arith)
zip-append (u ∷ a) b (v ∷ c) d e = ap (λ (w : List (ℕ × ℕ)). (u, v) ∷ w) (zip-append a b c d (omega arith))

-- behind a word's first letter there is one letter less behind its first d
drop-letter : (d : ℕ) (z : List ℕ) → 1 + d ≤ length z → drop d z ≡ get_or z d 0 ∷ drop d (drop 1 z)
drop-letter d z l = grind (arith, drop_more)

-- two words with one image lead from their first nodes to their last along the letters after the first
pub PairLeads-words : {r : LocalRule} {n : ℕ} {x y : List ℕ} → IsRule r → HaveOneImage r n x y
    → PairLeads r (pair_of r (value r.states (take (r.width - 1) x)) (value r.states (take (r.width - 1) y))) (zip (drop (r.width - 1) x) (drop (r.width - 1) y)) (pair_of r (value r.states (drop n x)) (value r.states (drop n y)))
PairLeads-words {r} {n = zero} {x} {y} rule h = grind (arith, common_steps)
PairLeads-words {r} {n = suc n} {x} {y} rule h =
    let k : ℕ = r.states in
    let m : ℕ = r.width - 1 in
    let first : 1 + m ≤ length x = omega arith in
    let below : value k (take m y) < node_count r = value-node r (take m y) (All-take (λ c. c < k) m y h.second) (length-take-le m y (omega arith)) in
    let one : 1 + n ≡ suc n = omega arith in
    let labels = sym (image-first rule x first) ∙ (HaveOneImage-take rule 1 n (suc n) one h).one_image ∙ image-first rule y (omega arith) in
    grind (arith, follow-pair_of, value-first, drop-letter, PairLeads-words {n = n} rule (HaveOneImage-drop 1 n (suc n) one h))
