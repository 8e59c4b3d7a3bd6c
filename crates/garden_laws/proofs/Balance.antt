-- Under a surjective rule every word has as many preimages as there are nodes (Hedlund 1969).
use Rattle.std.proofs.Common.{◌≡◌, ℕ, ◌^◌, ◌<◌, ◌≤◌, ◌↔◌, List, length, sym, ap, ◌∙◌, subst, arith}
use Rattle.word_image.proofs.Common.{LocalRule, IsRule, IsWord, value, word_of, node_count, IsSurjective, value-below, word_of-value, IsWord-word_of, node_count_pos}
use Rattle.garden_laws.specs.Preimages.{HasPreimages, IsBalanced}
use Rattle.garden_laws.proofs.CountedPreimages.{counted, count_of, no_fewer, even_level}

-- under a surjective rule a word has as many preimages as there are nodes
pub count_of-surjective : {r : LocalRule} → IsRule r → IsSurjective r → (w : List ℕ) → IsWord r.states w → count_of r w ≡ node_count r
count_of-surjective {r} rule every w hw =
    let k : ℕ = r.states in
    let l : ℕ = length w in
    let least : (c : ℕ) → c < k ^ l → node_count r ≤ count_of r (word_of k l c) = λ c h. no_fewer rule every (count_of r (word_of k l c)) (word_of k l c) (IsWord-word_of k l c h) (omega arith) in
    let below = value-below k w hw in
    omega (arith, least (value k w) below, (even_level rule l).1 least (value k w) below, ap (count_of r) (word_of-value k w hw))

-- a surjective rule is balanced
pub IsBalanced-surjective : {r : LocalRule} → IsRule r → IsSurjective r → IsBalanced r
IsBalanced-surjective {r} rule every w hw =
    let c = counted r w in
    subst (HasPreimages r w) (count_of-surjective rule every w hw) (record {
      at = c.at;
      preimage = c.preimage;
      apart = λ i j hi hj e. sym (c.forth i hi) ∙ ap c.place e ∙ c.forth j hj;
      all = λ x p. let back = c.back x p in (c.place x, back.0, back.1);
    })

-- a rule is surjective exactly where it is balanced
pub IsSurjective-IsBalanced : {r : LocalRule} → IsRule r → (IsSurjective r ↔ IsBalanced r)
IsSurjective-IsBalanced rule = (IsBalanced-surjective rule, λ balanced w hw. let has = balanced w hw in (has.at 0, has.preimage 0 (node_count_pos rule)))
