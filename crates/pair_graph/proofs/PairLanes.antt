-- Rows of sets by lanes: one lane for each second node.
use Rattle.std.proofs.Common.{◌≡◌, ◌≢◌, ℕ, ◌+◌, ◌%◌, ◌^◌, ◌<◌, ◌↔◌, List, [], length, map, replicate, Bool, false, not, cond, nat_eq, slice_index, slice_index_or, IsBitSet, bit_and, bit_or, sym, ap, ◌∙◌, arith, w16, ne_eqb}
use Rattle.std.proofs.lemmas.Simd.{get_or-zip2, length-zip2, mask_l-lt, bitmask_splat, bit_mask_l}
use Rattle.std.specs.Simd.Lanes.{zip2, mask_l, top}
use Rattle.word_image.proofs.Common.{bit_at, and_le_r, get_or-map, get_or-replicate, length-map, LocalRule, bit_at-IsBitSet, IsBitSet-some, IsBitSet-zero, IsUnion, IsUnion-take, label_at, end_at, length-replicate}
use Rattle.pair_laws.proofs.Common.{IsBitSet-and}
use Rattle.word_image.specs.declared.side.Side.{Side}
use Rattle.pair_graph.specs.PairSets.{GoesOnBy, GoesOn}

-- each lane has the nodes to which the first n letters lead
pub record AreLanes (side : Side) (r : LocalRule) (ends : List (List ℕ)) (rows : List ℕ) (u n : ℕ) (hits : List ℕ) : Type 0 where
  pub long : length hits ≡ 16
  pub lanes : (v : ℕ) → v < 16 → IsUnion 16 (GoesOnBy side r ends rows u v) n (slice_index hits v)

-- the lanes with one letter more
pub AreLanes-next : {side : Side} {r : LocalRule} {ends : List (List ℕ)} {rows : List ℕ} {u n : ℕ} {hits : List ℕ}
    → AreLanes side r ends rows u n hits
    → (label to : ℕ) → label ≡ label_at side r u n → to ≡ end_at side r u n
    → length (slice_index_or ends label []) ≡ 16 → slice_index rows to < 2 ^ 16
    → AreLanes side r ends rows u (n + 1) (zip2 bit_or hits (zip2 bit_and (slice_index_or ends label []) (replicate 16 (slice_index rows to))))
AreLanes-next {side} {r} {ends} {rows} {u} {n} {hits} h label to labelled arrives wide small =
    let lanes = slice_index_or ends label [] in
    let seconds = slice_index rows to in
    let splat = replicate 16 seconds in
    let both = zip2 bit_and lanes splat in
    let long_splat : length splat ≡ 16 = length-replicate 16 seconds in
    let long_both : length both ≡ 16 = length-zip2 bit_and lanes splat (wide ∙ sym long_splat) ∙ wide in
    let long = h.long in
    record {
      long = length-zip2 bit_or hits both (long ∙ sym long_both) ∙ long;
      lanes = λ v inside.
          let lane = slice_index lanes v in
          let part = bit_and lane seconds in
          let at_both : slice_index both v ≡ part =
          get_or-zip2 bit_and lanes splat v 0 0 0 (omega (arith, wide, inside)) (omega (arith, long_splat, inside)) ∙ ap (bit_and lane) (get_or-replicate 16 v seconds 0 inside) in
          let at_hits = get_or-zip2 bit_or hits both v 0 0 0 (omega (arith, long, inside)) (omega (arith, long_both, inside)) ∙ ap (bit_or (slice_index hits v)) at_both in
          rw at_hits (IsUnion-take (h.lanes v inside) (omega (arith, and_le_r lane seconds, small)) (λ t node. (
            (λ some. let (first, second) = (IsBitSet-and lane seconds t).0 some in record { node = node; second = rw labelled at first; pair = rw arrives at second }),
            (λ g. (IsBitSet-and lane seconds t).1 (rw labelled g.second, rw arrives g.pair)),
          )));
    }

-- a comparison of numbers
abbrev pub differs : ℕ → ℕ → Bool
differs a b = not (nat_eq a b)

-- the mask of the lanes that aren't 0
abbrev pub mask_of : List ℕ → ℕ
mask_of hits = mask_l (map (top 15) (zip2 (λ a b. cond (differs a b) 65535 0) hits (replicate 16 0))) % 2 ^ 64

mask_is : (hits : List ℕ) → length hits ≡ 16 → mask_of hits ≡ mask_l (map (λ x. differs x 0) hits)
mask_is hits long = bitmask_splat w16 differs hits 16 0 long (omega arith)

-- the mask of sixteen lanes has sixteen bits
pub mask-below : (hits : List ℕ) → length hits ≡ 16 → mask_of hits < 2 ^ 16
mask-below hits long =
    rw (mask_is hits long) (rw (length-map hits (λ x. differs x 0), long) at (mask_l-lt (map (λ x. differs x 0) hits)))

-- what the comparison gives of a lane that isn't 0
abbrev lane_bit : ℕ → ℕ
lane_bit x = cond (differs x 0) 1 0

differs-some : (x : ℕ) → x ≢ 0 → lane_bit x ≡ 1
differs-some x some = ap (λ b. cond (not b) 1 0) (ne_eqb x 0 some)

-- bit v of the mask says whether lane v isn't 0
mask-bit : (hits : List ℕ) (v : ℕ) → length hits ≡ 16 → v < 16 → IsBitSet (mask_of hits) v ↔ (slice_index hits v ≢ 0)
mask-bit hits v long inside =
    let lane = slice_index hits v in
    let ms = map (λ x. differs x 0) hits in
    let bit : bit_at (mask_of hits) v ≡ lane_bit lane =
    ap (λ m. bit_at m v) (mask_is hits long) ∙ bit_mask_l ms v ∙ ap (λ b. cond {A = ℕ} b 1 0) (get_or-map (λ x. differs x 0) hits v 0 false (omega (arith, long, inside))) in (
      (λ some empty.
          let one = (bit_at-IsBitSet (mask_of hits) v).0 some in
          let none : lane_bit lane ≡ 0 = ap lane_bit empty in
          omega (arith, one, bit, none)),
      (λ some. (bit_at-IsBitSet (mask_of hits) v).1 (bit ∙ differs-some lane some)),
    )

-- the mask of the lanes is the set of the nodes v that go on with u
pub GoesOn-mask : {side : Side} {r : LocalRule} {ends : List (List ℕ)} {rows : List ℕ} {u n : ℕ} {hits : List ℕ} → AreLanes side r ends rows u n hits
    → n ≡ r.states
    → (v : ℕ) → v < 16 → IsBitSet (mask_of hits) v ↔ GoesOn side r ends rows u v
GoesOn-mask {side} {r} {ends} {rows} {u} {n} {hits} h all v inside =
    let lane = h.lanes v inside in
    let exact = mask-bit hits v h.long inside in (
      (λ some.
          let (t, node, present) = IsBitSet-some 16 (slice_index hits v) lane.within (exact.0 some) in
          let (a, before, goes) = (lane.nodes t node).0 present in
          (a, t, omega (arith, before, all), goes)),
      (λ (a, t, letter, goes).
          let present = (lane.nodes t goes.node).1 (a, omega (arith, letter, all), goes) in
          exact.1 (λ empty. IsBitSet-zero t (rw empty at present))),
    )
