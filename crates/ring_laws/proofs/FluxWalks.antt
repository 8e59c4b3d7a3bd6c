-- What the walks from each node to node 0 gain: each flux differs from it by what it has at node 0.
use Rattle.std.proofs.Common.{◌≡◌, ℕ, ◌-◌, ◌<◌, List, ◌++◌, length, map, take, drop, get_or, ℤ, pos, ◌-ℤ◌, sym, ap, ◌∙◌, arith, length-append, replicate, Some, slice_get, take_all}
use Rattle.word_image.proofs.Common.{range_with_len, ints, drop-append_seam, length-replicate, take-append-le, All-append, All-replicate, length-map-range_with_len, get_or-map-range_with_len, fill_by_all, slice_get-get_or, get_or_from_slice_get, LocalRule, IsRule, IsWord, word_of, node_count, IsFlux, length-word_of, IsWord-word_of, value-word_of, value-zeros, node_count_pos}
use Rattle.ring_laws.proofs.Gains.{gain}
use Rattle.ring_laws.proofs.Fluxes.{flow_at, gain-flux}

-- the word of m - 1 letters 0
abbrev pub zeros : LocalRule → List ℕ
zeros r = replicate (r.width - 1) 0

-- what the walk from a node gains that reads m - 1 letters 0
abbrev pub walk_gain : (ℕ → ℕ) → LocalRule → ℕ → ℤ
walk_gain weight r v = gain weight r (word_of r.states (r.width - 1) v ++ zeros r)

-- what the walk from each node gains that reads m - 1 letters 0
abbrev pub walk_gains : (ℕ → ℕ) → LocalRule → List ℤ
walk_gains weight r = map (walk_gain weight r) (range_with_len 0 (node_count r))

-- how many letters 0 there are
pub length-zeros : (r : LocalRule) → length (zeros r) ≡ r.width - 1
length-zeros r = length-replicate (r.width - 1) 0

-- 0 is a letter
pub IsWord-zeros : {r : LocalRule} → IsRule r → IsWord r.states (zeros r)
IsWord-zeros {r} rule = let some = rule.shape.least_states in All-replicate (λ a. a < r.states) (r.width - 1) 0 (omega arith)

-- each flux differs from the walks' gains by what it has at node 0
pub walk_gain-flux : {weight : ℕ → ℕ} {r : LocalRule} {phi : List ℤ} → IsRule r → IsFlux weight r phi → (v : ℕ) → v < node_count r
    → walk_gain weight r v ≡ get_or phi v (pos 0) -ℤ get_or phi 0 (pos 0)
walk_gain-flux {weight} {r} {phi} rule flux v l =
    let d : ℕ = r.width - 1 in
    let z : List ℕ = word_of r.states d v in
    let long : length z ≡ d = length-word_of r.states d v in
    let letters : IsWord r.states (z ++ zeros r) = All-append (λ a. a < r.states) z (zeros r) (IsWord-word_of r.states d v l) (IsWord-zeros rule) in
    let along = gain-flux rule flux d (z ++ zeros r) letters (omega (arith, length-append z (zeros r), length-zeros r)) in
    let first : flow_at r phi (take d (z ++ zeros r)) ≡ get_or phi v (pos 0) =
    ap (flow_at r phi) (take-append-le d z (zeros r) (omega arith) ∙ take_all d z (omega arith)) ∙ ap (λ i. get_or phi i (pos 0)) (value-word_of r.states d v l) in
    let last : flow_at r phi (drop d (z ++ zeros r)) ≡ get_or phi 0 (pos 0) =
    ap (λ n. flow_at r phi (drop n (z ++ zeros r))) (sym long) ∙ ap (flow_at r phi) (drop-append_seam z (zeros r)) ∙ ap (λ i. get_or phi i (pos 0)) (value-zeros r.states d) in
    omega (arith, ints)

-- where a flux exists, the walks' gains have 0 at node 0
pub walk_gains-zero : {weight : ℕ → ℕ} {r : LocalRule} {phi : List ℤ} → IsRule r → IsFlux weight r phi
    → slice_get (walk_gains weight r) 0 ≡ Some (pos 0)
walk_gains-zero {weight} {r} {phi} rule flux =
    let some : 0 < node_count r = node_count_pos rule in
    let none : walk_gain weight r 0 ≡ pos 0 = let e = walk_gain-flux rule flux 0 some in omega (arith, ints) in
    slice_get-get_or (walk_gains weight r) 0 (pos 0) (omega (arith, length-map-range_with_len (walk_gain weight r) 0 (node_count r)))
    ∙ ap Some (get_or-map-range_with_len (walk_gain weight r) 0 (node_count r) 0 0 (pos 0) some (omega arith) ∙ none)

-- the walks' gains are the only flux with 0 at node 0
pub IsFlux-unique : {weight : ℕ → ℕ} {r : LocalRule} {phi : List ℤ} → IsRule r → IsFlux weight r phi → slice_get phi 0 ≡ Some (pos 0)
    → phi ≡ walk_gains weight r
IsFlux-unique {weight} {r} {phi} rule flux zeroth =
    let none : get_or phi 0 (pos 0) ≡ pos 0 = get_or_from_slice_get phi 0 (pos 0) (pos 0) zeroth in
    fill_by_all (walk_gain weight r) phi (node_count r) (pos 0) flux.entries (λ v l. let e = walk_gain-flux rule flux v l in omega (arith, ints))
