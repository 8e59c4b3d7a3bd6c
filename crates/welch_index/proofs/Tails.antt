-- Under a surjective rule of degree d a configuration with periodic tails has at least d preimages with different nodes at a
-- place.
use Rattle.std.proofs.Common.{◌≡◌, ℕ, ◌+◌, ◌-◌, ◌*◌, ◌<◌, ◌≤◌, inl, inr, List, ◌++◌, length, take, drop, get_or, ℤ, pos, ◌+ℤ◌, ◌-ℤ◌, unsigned_abs, ◌≤ℤ◌, sym, ap, ap₂, ◌∙◌, ⊎_elim, arith, length-append}
use Rattle.word_image.proofs.Common.{ints, cases_lt, chosen_below, LocalRule, IsRule, value, IsLastNode, node_count, some_letter}
use Rattle.tail_config.proofs.Common.{Config, IsConfig, zeros, run, image_of, length-run, IsWord-run, get_or-run, run-append, drop-run, take-run}
use Rattle.garden_laws.proofs.Numbered.{Numbered, numbered}
use Rattle.config_laws.specs.Repeating.{HasTails}
use Rattle.config_laws.proofs.Joined.{written, IsConfig-written, image_of-written, run-written}
use Rattle.preimage_laws.proofs.Followed.{node_under, IsFollowed, IsFollowed-tails}
use Rattle.welch_index.specs.Fewest.{IsFirstNode}
use Rattle.welch_index.specs.Degrees.{IsDegree, HasSeparated}
use Rattle.welch_index.proofs.Totals.{sign-most}
use Rattle.welch_index.proofs.Cuts.{reads, ends, cut}
use Rattle.welch_index.proofs.Links.{through}
use Rattle.welch_index.proofs.Products.{cut_nodes, cut_set, both_of}
use Rattle.welch_index.proofs.Open.{total-covered}

-- a preimage of the l letters left of place i and the l + 1 letters from there on, through a node, gives a preimage of the configuration through the node
followed_node : {r : LocalRule} {y : Config} {t : ℕ} → IsRule r → (i : ℤ) (l : ℕ) → IsFollowed r y i l
    → IsLastNode r (run y (i -ℤ pos l) l) t → IsFirstNode r (run y i (l + 1)) t
    → (z : Config) × IsConfig r.states z × (image_of r z ≡ y) × (value r.states (node_under r z i) ≡ t)
followed_node {r} {y} {t} rule i l followed last first =
    let k = r.states in
    let d = r.width - 1 in
    let s : ℤ = i -ℤ pos l in
    let u = run y s l in
    let v = run y i (l + 1) in
    let long_u = length-run y s l in
    let long_v = length-run y i (l + 1) in
    let both : u ++ v ≡ run y s (l + (l + 1)) = sym (run-append y s i l (l + 1) (omega (arith, ints))) in
    let (w, p, node) = through rule last first in
    let x : Config = written zeros (s +ℤ r.offset) w in
    let hx : IsConfig k x = IsConfig-written {x = zeros} (some_letter rule) (λ j. some_letter rule) (s +ℤ r.offset) w p.word in
    let size : length w ≡ l + (l + 1) + d = omega (arith, p.long, length-append u v, long_u, long_v) in
    let agree : (j : ℤ) → (i -ℤ pos l) ≤ℤ j → j ≤ℤ (i +ℤ pos l) → image_of r x j ≡ y j = λ j low high.
    let a = unsigned_abs (j -ℤ s) in
    let at : s +ℤ pos a ≡ j = omega (arith, ints, low) in
    let within : a < l + (l + 1) = omega (arith, ints, low, high) in
    ap (image_of r x) (sym at) ∙ image_of-written rule zeros s w a (omega (arith, size, within)) ∙ ap (λ z. get_or z a 0) (p.maps ∙ both) ∙ get_or-run y s j (l + (l + 1)) a within at in
    let (z, hz, maps, under) = followed x hx agree in
    let part : node_under r x i ≡ take d (drop (length u) w) =
    sym (take-run x (i +ℤ r.offset) ((l + 1) + d) d (omega arith))
    ∙ ap (take d) (sym (drop-run x (s +ℤ r.offset) (i +ℤ r.offset) l ((l + 1) + d) (omega (arith, ints))))
    ∙ ap (λ (n : ℕ). take d (drop l (run x (s +ℤ r.offset) n))) (omega (arith, size))
    ∙ ap₂ (λ (n : ℕ) (q : List ℕ). take d (drop n q)) (sym long_u) (run-written zeros (s +ℤ r.offset) w) in
    (z, hz, maps, ap (value k) (under ∙ part) ∙ node)

-- a configuration with periodic tails has at least d preimages with different nodes at a place, if d is the degree
pub HasSeparated-tails : {r : LocalRule} {d : ℕ} {y : Config} → IsRule r → IsDegree r d → IsConfig r.states y → HasTails y → (i : ℤ) → HasSeparated r y i d
HasSeparated-tails {r} {d} {y} rule degree hy tails i =
    let k = r.states in
    let n = node_count r in
    let (l, followed) = IsFollowed-tails rule tails i in
    let u = run y (i -ℤ pos l) l in
    let v = run y i (l + 1) in
    let f : ℕ → ℕ = λ t. ends r u t * reads r v t in
    let h : Numbered (λ t. 0 < f t) n = numbered (λ t. 0 < f t) (λ t. ⊎_elim (λ some. inl some) (λ none. inr (λ some. omega (arith, none, some))) (cases_lt 0 (f t))) n in
    let least = degree.least u v (cut r u v) (cut_set rule u v (IsWord-run hy _ l) (IsWord-run hy _ (l + 1))) in
    let few = total-covered f h.at h.count n (λ t b. (both_of (ends r u t) (reads r v t) (sign-most _) (sign-most _)).0) (λ a b. (h.holds a b).0)
    (λ t b some. let back = h.back t b some in (h.place t, back.0, back.1)) in
    let enough : d ≤ h.count = omega (arith, least, few) in
    let (zs, found) = chosen_below Config (λ a z. IsConfig k z × (image_of r z ≡ y) × (value k (node_under r z i) ≡ h.at a)) h.count zeros (λ a b.
    let at = h.holds a b in
    let nodes = (cut_nodes rule u v (h.at a) at.0).0 at.1 in
    let (z, hz, maps, is) = followed_node rule i l followed nodes.0 nodes.1 in
    (z, (hz, maps, is))) in
    record {
      at = zs;
      configs = λ a b. (found a (omega (arith, b, enough))).0;
      maps = λ a b. (found a (omega (arith, b, enough))).1;
      apart = λ a b less most same.
          let first = found a (omega (arith, less, most, enough)) in
          let second = found b (omega (arith, most, enough)) in
          let one : h.at a ≡ h.at b = sym first.2 ∙ ap (value k) same ∙ second.2 in
          omega (arith, less, h.forth a (omega (arith, less, most, enough)), h.forth b (omega (arith, most, enough)), ap h.place one);
    }
