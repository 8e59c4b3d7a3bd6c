-- The relations of the parts of a configuration, read as walks along words.
use Rattle.std.proofs.Common.{◌≡◌, ◌↔◌, ℕ, zero, suc, ◌+◌, ◌<◌, ◌≤◌, List, [], ◌++◌, get_or, sym, ap, ◌∙◌, subst, arith}
use Rattle.word_image.proofs.Common.{repeat, LocalRule, IsRule, node_count, IsOrphan, HasBit}
use Rattle.pair_laws.proofs.Common.{IsBitSet-below}
use Rattle.tail_config.proofs.Common.{TailConfig, IsTail}
use Rattle.tail_preimage.specs.Walks.{HasWalk}
use Rattle.tail_preimage.specs.Preimages.{Shape, stretch}
use Rattle.tail_preimage.specs.Relations.{IsRelation, Steps, Open, SomeRounds, Meets}
use Rattle.tail_preimage.specs.Parts.{ArePeriods, AreTailParts, PassesThrough, Starts}
use Rattle.tail_preimage.specs.FirstWalks.{AreLoopWalks}
use Rattle.tail_preimage.specs.declared.periods.Periods.{Periods}
use Rattle.tail_preimage.specs.declared.shapes.PartRelations.{PartRelations}
use Rattle.tail_preimage.proofs.laws.Walks.{IsWalk-first, IsWalk-last, IsWalk-none, IsWalk-stays, HasWalk-join, HasWalk-cut, IsOrphan-none}
use Rattle.tail_preimage.proofs.laws.Stretches.{repeat-more, IsWord-stretch}
use Rattle.tail_preimage.proofs.laws.Steps.{Steps-none, Steps-stay, Steps-cons, Steps-first, Steps-end, SomeRounds-open}

-- a relation's rows relate nodes to nodes
pub IsRelation-below : {r : LocalRule} {E : ℕ → ℕ → Type 0} {table : List ℕ} → IsRelation r E table → (u v : ℕ) → u < node_count r → HasBit table u v
    → (v < node_count r) × E u v
IsRelation-below {table = table} h u v l bit = grind (arith, IsBitSet-below)

-- periods lead from nodes to nodes
pub ArePeriods-end : {r : LocalRule} {periods : Periods} {n u v : ℕ} → ArePeriods r periods → u < node_count r → Steps (HasBit periods.period) n u v
    → v < node_count r
ArePeriods-end {r} h node steps = Steps-end (λ a b l bit. IsBitSet-below (node_count r) _ b (h.period a l) bit) node steps

-- the relation of n periods has two nodes exactly where n steps of the period lead from one to the other
pub ArePeriods-row : {r : LocalRule} {periods : Periods} → ArePeriods r periods → (n : ℕ) → n ≤ 16 → (u v : ℕ) → u < node_count r
    → HasBit (get_or periods.powers n []) u v ↔ Steps (HasBit periods.period) n u v
ArePeriods-row h n few u v l = let rel = h.powers n few in ((λ bit. (IsRelation-below rel u v l bit).1), (λ steps. ((rel.rows u l).nodes v (ArePeriods-end h l steps)).1 steps))

-- steps of a word's relation are walks along copies of it
pub Steps-repeat : {r : LocalRule} {p table : List ℕ} → IsRule r → IsRelation r (HasWalk r p) table → (n u v : ℕ) → u < node_count r
    → Steps (HasBit table) n u v ↔ HasWalk r (repeat n p) u v
Steps-repeat {r} rule h zero u v l = ((λ steps. subst (HasWalk r [] u) (Steps-stay steps) (_, IsWalk-none r u l)), (λ walk. Steps-none (IsWalk-stays walk.1)))
Steps-repeat {r} {p} rule h (suc n) u v l = (
  (λ steps.
      let (w, step, rest) = Steps-first steps in
      let (below, walk) = IsRelation-below h u w l step in
      HasWalk-join rule walk ((Steps-repeat rule h n w v below).0 rest)),
  (λ walk.
      let (w, first, second) = HasWalk-cut rule p (repeat n p) walk in
      Steps-cons (((h.rows u l).nodes w (IsWalk-last first.1)).1 first) ((Steps-repeat rule h n w v (IsWalk-last first.1)).1 second)),
)

-- steps of the relation of a word that is read backwards are walks along copies of it, from their ends
pub Steps-reversed : {r : LocalRule} {p table : List ℕ} → IsRule r → IsRelation r (λ u v. HasWalk r p v u) table → (n u v : ℕ) → u < node_count r
    → Steps (HasBit table) n u v ↔ HasWalk r (repeat n p) v u
Steps-reversed {r} rule h zero u v l = ((λ steps. subst (λ n. HasWalk r [] n u) (Steps-stay steps) (_, IsWalk-none r u l)), (λ walk. Steps-none (sym (IsWalk-stays walk.1))))
Steps-reversed {r} {p} rule h (suc n) u v l =
    let more : repeat (suc n) p ≡ repeat n p ++ p = let e : suc n ≡ n + 1 = omega arith in ap (λ i. repeat i p) e ∙ repeat-more n p in (
      (λ steps.
          let (w, step, rest) = Steps-first steps in
          let (below, walk) = IsRelation-below h u w l step in
          subst (λ a. HasWalk r a v u) (sym more) (HasWalk-join rule ((Steps-reversed rule h n w v below).0 rest) walk)),
      (λ walk.
          let (w, first, second) = HasWalk-cut rule (repeat n p) p (subst (λ a. HasWalk r a v u) more walk) in
          let node : w < node_count r = IsWalk-first second.1 in
          Steps-cons (((h.rows u l).nodes w node).1 second) ((Steps-reversed rule h n w v node).1 first)),
    )

-- walks along a stretch are walks along its left periods, its middle and its right periods
HasWalk-stretch : {r : LocalRule} {t : TailConfig} {parts : PartRelations} → AreTailParts r t parts → (b a u s : ℕ) → HasWalk r (stretch t b a) u s
    ↔ ((v : ℕ) × (w : ℕ) × (v < node_count r) × (w < node_count r) × Steps (HasBit parts.left.period) b v u × HasBit parts.middle v w × Steps (HasBit parts.right.period) a w s)
HasWalk-stretch {r} {t} {parts} h b a u s = (
  (λ walk.
      let (w, before, third) = HasWalk-cut h.rule (repeat b t.left ++ t.middle) (repeat a t.right) walk in
      let (v, first, second) = HasWalk-cut h.rule (repeat b t.left) t.middle before in
      let v_node : v < node_count r = IsWalk-last first.1 in
      let w_node : w < node_count r = IsWalk-last second.1 in
      (v, w, v_node, w_node, (Steps-reversed h.rule h.left b v u v_node).1 first, ((h.middle.rows v v_node).nodes w w_node).1 second, (Steps-repeat h.rule h.right a w s w_node).1 third)),
  (λ (v, w, v_node, w_node, lefts, middle, rights).
      let first = HasWalk-join h.rule ((Steps-reversed h.rule h.left b v u v_node).0 lefts) (((h.middle.rows v v_node).nodes w w_node).0 middle) in
      HasWalk-join h.rule first ((Steps-repeat h.rule h.right a w s w_node).0 rights)),
)

-- three walks of a shape lead from its starts, and from no other node
pub Starts-walks : {r : LocalRule} {t : TailConfig} {parts : PartRelations} {s : Shape} {v : ℕ} → AreTailParts r t parts → 1 ≤ s.back → 1 ≤ s.on
    → v < node_count r → Starts r parts s v
    → (w : ℕ) × (x : List ℕ) × (y : List ℕ) × (z : List ℕ) × AreLoopWalks r t s v w x y z
Starts-walks {s = s} {v = v} h back on node (loop, (u, u_node, lefts, (n, n_node, middle, (w, rights, turn)))) =
    let x = (Steps-reversed h.rule h.left s.back v v node).0 loop in
    let y = (HasWalk-stretch h s.before s.after v w).1 (u, n, u_node, n_node, lefts, middle, rights) in
    let z = (Steps-repeat h.rule h.right s.on w w (IsWalk-last y.1)).0 turn in
    (w, x.0, y.0, z.0, record { back_some = back; on_some = on; left = x.1; middle = y.1; right = z.1 })

pub walks-Starts : {r : LocalRule} {t : TailConfig} {parts : PartRelations} {s : Shape} {v w : ℕ} {x y z : List ℕ} → AreTailParts r t parts
    → AreLoopWalks r t s v w x y z → Starts r parts s v
walks-Starts {s = s} {v = v} {w = w} {x = x} {y = y} {z = z} h walks =
    let (u, n, u_node, n_node, lefts, middle, rights) = (HasWalk-stretch h s.before s.after v w).0 (y, walks.middle) in
    let turn = (Steps-repeat h.rule h.right s.on w w (IsWalk-last walks.middle)).1 (z, walks.right) in
    ((Steps-reversed h.rule h.left s.back v v (IsWalk-first walks.left)).1 (x, walks.left), (u, u_node, lefts, (n, n_node, middle, (w, rights, turn))))

-- a stretch is an orphan exactly where its periods and the middle lead nowhere
pub IsOrphan-PassesThrough : {r : LocalRule} {t : TailConfig} {parts : PartRelations} → IsTail r.states t → AreTailParts r t parts → (b a : ℕ)
    → IsOrphan r (stretch t b a) ↔ ¬ PassesThrough r parts b a
IsOrphan-PassesThrough ht h b a = (
  λ orphan (v, w, v_node, w_node, (u, lefts), middle, (s, rights)).
      let (x, walk) = (HasWalk-stretch h b a u s).1 (v, w, v_node, w_node, lefts, middle, rights) in
      orphan.none x walk.preimage,
  λ none. IsOrphan-none (IsWord-stretch ht b a) (λ u s walk.
      let (v, w, v_node, w_node, lefts, middle, rights) = (HasWalk-stretch h b a u s).0 walk in
      none (v, w, v_node, w_node, (u, lefts), middle, (s, rights))),
)

-- where 16 periods lead somewhere, few lead to a loop
pub SomeRounds-periods : {r : LocalRule} {E : ℕ → ℕ → Type 0} {table : List ℕ} {u : ℕ} → IsRule r → IsRelation r E table → u < node_count r
    → Open (HasBit table) 16 u
    → (sum : ℕ) × (sum ≤ 16) × SomeRounds (HasBit table) sum u
SomeRounds-periods rule h l leads = SomeRounds-open rule.shape.most_nodes (λ v w node bit. (IsRelation-below h v w node bit).0) l leads

-- where walks of 16 periods begin in a set, rounds of at most 16 periods do
pub Meets-rounds : {r : LocalRule} {E : ℕ → ℕ → Type 0} {table : List ℕ} (set : ℕ) → IsRule r → IsRelation r E table
    → Meets r (Open (HasBit table) 16) set → (sum : ℕ) × (sum ≤ 16) × Meets r (SomeRounds (HasBit table) sum) set
Meets-rounds set rule h (u, node, leads, bit) = let (sum, few, rounds) = SomeRounds-periods rule h node leads in (sum, few, (u, node, rounds, bit))
