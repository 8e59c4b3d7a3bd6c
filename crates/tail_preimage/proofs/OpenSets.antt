-- The sets of nodes from which the rest of a word leads into a goal, from the end of the word on, and the first walk through them.
use Rattle.std.proofs.Common.{◌≡◌, ◌≢◌, ℕ, ◌+◌, ◌-◌, ◌^◌, ◌<◌, List, [], ◌∷◌, ◌++◌, length, drop, slice_index, IsBitSet, bit_and, sym, subst, arith, ⊎_elim}
use Rattle.word_image.proofs.Common.{cases_lt, get_or_append_left, get_or_push, length_push, drop_all, LocalRule, IsRule, node_count, IsNodeSet, HasBit, IsEnds, IsEdge, IsSetOf-same}
use Rattle.pair_laws.proofs.Common.{IsBitSet-apart}
use Rattle.word_image.specs.declared.side.Side.TheVariants.{Right}
use Rattle.tail_preimage.specs.Walks.{Reaches}
use Rattle.tail_preimage.specs.Relations.{IsRelation}
use Rattle.tail_preimage.specs.FirstWalks.{AreOpen}
use Rattle.tail_preimage.proofs.laws.Stretches.{drop-more, drop-first}
use Rattle.tail_preimage.proofs.laws.Parts.{IsRelation-below}
use Rattle.tail_preimage.proofs.laws.LeastWalks.{Reaches-none, Reaches-cons, IsLeastBegun}

-- the set at the end of the word is the goal
pub AreOpen-start : {r : LocalRule} {goal : ℕ} → (w : List ℕ) → goal < 2 ^ node_count r → AreOpen r w goal 0 (goal ∷ [])
AreOpen-start w small = grind (arith, drop_all, Reaches-none)

-- the set one place back
IsNodeSet-back : {r : LocalRule} {edges : List ℕ} {set before : ℕ} → IsRule r → (a : ℕ) (w : List ℕ) (goal : ℕ)
    → IsRelation r (IsEdge Right r a) edges → IsNodeSet r (Reaches r w goal) set
    → IsNodeSet r (λ u. (v : ℕ) × HasBit edges u v × IsBitSet set v) before → IsNodeSet r (Reaches r (a ∷ w) goal) before
IsNodeSet-back rule a w goal rel h = IsSetOf-same (λ u l. (
  (λ (v, row, bit). let (node, edge) = IsRelation-below rel u v l row in (Reaches-cons rule a w goal u l).1 (v, node, edge, (h.nodes v node).0 bit)),
  (λ reach. let (v, node, edge, on) = (Reaches-cons rule a w goal u l).0 reach in (v, ((rel.rows u l).nodes v node).1 edge, (h.nodes v node).1 on)),
))

-- the set of one place more, before the others
pub AreOpen-more : {r : LocalRule} {w sets edges : List ℕ} {goal n before : ℕ} → IsRule r → AreOpen r w goal n sets → n < length w
    → IsRelation r (IsEdge Right r (slice_index w (length w - 1 - n))) edges
    → IsNodeSet r (λ u. (v : ℕ) × HasBit edges u v × IsBitSet (slice_index sets n) v) before → AreOpen r w goal (n + 1) (sets ++ before ∷ [])
AreOpen-more {r} {w} {sets} {edges} {goal} {n} {before} rule h inside rel step =
    let last = subst (λ z. IsNodeSet r (Reaches r z goal) before) (sym (drop-more w n inside))
    (IsNodeSet-back rule (slice_index w (length w - 1 - n)) (drop (length w - n) w) goal rel (h.each n (omega arith)) step) in
    let long : length sets ≡ n + 1 = h.long in
    record {
      long = omega (arith, length_push sets before);
      each = λ j l. ⊎_elim
          (λ less. subst (IsNodeSet r (Reaches r (drop (length w - j) w) goal)) (sym (get_or_append_left sets (before ∷ []) 0 j (omega (arith, less)))) (h.each j (omega (arith, less))))
          (λ more. let same : n + 1 ≡ j = omega (arith, l, more) in
          subst (λ k. IsNodeSet r (Reaches r (drop (length w - k) w) goal) (slice_index (sets ++ before ∷ []) k)) same
          (subst (IsNodeSet r (Reaches r (drop (length w - (n + 1)) w) goal)) (sym (get_or_push sets before 0 (n + 1) long)) last))
          (cases_lt j (n + 1));
    }

-- the set after a place
pub open-after : {r : LocalRule} {w sets : List ℕ} {goal n : ℕ} → AreOpen r w goal (length w) sets → n < length w
    → IsNodeSet r (Reaches r (drop (n + 1) w) goal) (slice_index sets (length w - 1 - n))
open-after h inside = grind arith

-- where the rest of the word reaches the goal some edge leads on into it
pub some_edge_on : {r : LocalRule} {w x : List ℕ} {goal u n v ends set : ℕ} → IsRule r → n < length w → IsLeastBegun r w u goal n v x
    → IsEnds Right r v (slice_index w n) ends → IsNodeSet r (Reaches r (drop (n + 1) w) goal) set → bit_and ends set ≢ 0
some_edge_on {r} {w} {goal = goal} {n = n} {v = v} {ends = ends} {set = set} rule inside begun e after none =
    let (s, below, edge, on) = (Reaches-cons rule (slice_index w n) (drop (n + 1) w) goal v begun.node).0 (subst (λ z. Reaches r z goal v) (drop-first w n inside) begun.open_still) in
    IsBitSet-apart ends set s none ((e.nodes s below).1 edge) ((after.nodes s below).1 on)
