-- Of the first shape the first loop walks are the least preimage: the least node with a loop, and first walks for each of the three parts. There is one least preimage.
use Rattle.std.proofs.lemmas.Grind.{common_steps}
use Rattle.std.proofs.Common.{◌≡◌, ◌≢◌, ℕ, ◌+◌, ◌-◌, List, ◌++◌, length, take, drop, refl, sym, ap, ap₂, ◌∙◌, subst, arith, length-append, length-drop, append_assoc, nat_cmp, Ordering, Equal, Greater, take-append-drop, take_at, drop_at}
use Rattle.std.proofs.lemmas.Cmp.{nat_cmp_total, nat_list_cmp_total, on_total, then_total}
use Rattle.std.proofs.lemmas.Map.Lookups.{exact_bytes}
use Rattle.word_image.proofs.Common.{repeat, ordering_then, IsTotalOrder, nat_cmp_is, slice_cmp, drop-append-le, LocalRule, IsRule, IsBitSet-pow, then_equal, then_not_greater, nat_cmp-equal, slice_cmp-append, tied}
use Rattle.tail_config.proofs.Common.{TailConfig, IsTail}
use Rattle.tail_preimage.specs.Walks.{IsWalk, before_last}
use Rattle.tail_preimage.specs.Preimages.{PlacedConfig, Shape, HasShape, IsShapedPreimage, IsLeastPreimage, shape_cmp, letters, stretch, IsSmall, IsFrom}
use Rattle.tail_preimage.specs.FirstWalks.{AreLoopWalks, AreFirstWalks, placed_of}
use Rattle.tail_preimage.proofs.laws.Walks.{IsWalk-last, IsWalk-then, join-before_last}
use Rattle.tail_preimage.proofs.laws.LeastWalks.{cmp-first, least-not_greater}
use Rattle.tail_preimage.proofs.laws.Placements.{IsShapedPreimage-placed_of}
use Rattle.tail_preimage.proofs.laws.PlacedWalks.{HasLoopWalks-shape}

-- the first isn't greater if both together aren't
first_not_greater : (a b : Ordering) → ordering_then a b ≢ Greater → a ≢ Greater
first_not_greater Greater b h e = h refl
first_not_greater _ b h e = cc

-- where the beginnings aren't greater, and with equal beginnings the rest isn't, the whole isn't greater
append-not_greater : (a b c d : List ℕ) → length a ≡ length c → slice_cmp nat_cmp a c ≢ Greater
    → (slice_cmp nat_cmp a c ≡ Equal → slice_cmp nat_cmp b d ≢ Greater)
    → slice_cmp nat_cmp (a ++ b) (c ++ d) ≢ Greater
append-not_greater a b c d long first rest e = then_not_greater (slice_cmp nat_cmp a c) (slice_cmp nat_cmp b d) first rest (sym (slice_cmp-append nat_cmp a b c d long) ∙ e)

-- two walks of one length from one node are compared by the letters behind it
cmp-behind : {r : LocalRule} {w z x y : List ℕ} {u v s : ℕ} → IsWalk r w u v x → IsWalk r z u s y → length w ≡ length z
    → slice_cmp nat_cmp x y ≡ slice_cmp nat_cmp (drop (r.width - 1) x) (drop (r.width - 1) y)
cmp-behind {r} {x = x} {y = y} {u = u} h g e = cmp-first h g e ∙ ap (λ o. ordering_then o (slice_cmp nat_cmp (drop (r.width - 1) x) (drop (r.width - 1) y))) (sym (nat_cmp_is u u Equal refl))

-- the whole walk: the left loop, and the letters behind the first nodes of the middle and of the right loop
abbrev whole : LocalRule → List ℕ → List ℕ → List ℕ → List ℕ
whole r x y z = x ++ (drop (r.width - 1) y ++ drop (r.width - 1) z)

-- the whole walk is the letters of the placed configuration, and then those of the last node
whole-letters : {r : LocalRule} {t : TailConfig} {s : Shape} {v w : ℕ} {x y z : List ℕ} → IsRule r → AreLoopWalks r t s v w x y z
    → whole r x y z ≡ letters (placed_of r t s.before x y z) ++ drop (length z - (r.width - 1)) z
whole-letters {r} {t} {s} {v} {w} {x} {y} {z} rule h =
    let d : ℕ = r.width - 1 in
    let bx : List ℕ = before_last r x in
    let by : List ℕ = before_last r y in
    let bz : List ℕ = before_last r z in
    let joined : by ++ z ≡ y ++ drop d z = sym (join-before_last h.middle h.right) in
    ap (λ a. x ++ a) (sym (drop-append-le d y (drop d z) (omega arith)) ∙ ap (drop d) (sym joined))
    ∙ join-before_last h.left (IsWalk-then rule h.middle h.right)
    ∙ ap (λ a. bx ++ (by ++ a)) (sym (take-append-drop (length z - d) z))
    ∙ sym (append_assoc (bx ++ by) bz (drop (length z - d) z) ∙ append_assoc bx by (bz ++ drop (length z - d) z))

-- the first walks are no greater than any others of their shape
whole-not_greater : {r : LocalRule} {t : TailConfig} {s : Shape} {v w v' w' : ℕ} {x y z x' y' z' : List ℕ} → IsRule r → AreFirstWalks r t s v w x y z
    → AreLoopWalks r t s v' w' x' y' z'
    → slice_cmp nat_cmp (whole r x y z) (whole r x' y' z') ≢ Greater
whole-not_greater {r} {t} {s} {v} {w} {v'} {w'} {x} {y} {z} {x'} {y'} {z'} rule h g =
    let d : ℕ = r.width - 1 in
    append-not_greater x (drop d y ++ drop d z) x' (drop d y' ++ drop d z') (h.left.walk.preimage.long ∙ sym g.left.preimage.long)
    (least-not_greater h.left g.left (h.start v' w' x' y' z' g) (IsBitSet-pow v v').1)
    (λ e.
    let same_x : x ≡ x' = exact_bytes x x' e in
    let same : v' ≡ v = cc (g.left.first, h.left.walk.first) in
    let middle : IsWalk r (stretch t s.before s.after) v w' y' = subst (λ n. IsWalk r (stretch t s.before s.after) n w' y') same g.middle in
    let second = cmp-behind h.middle.walk middle refl in
    append-not_greater (drop d y) (drop d z) (drop d y') (drop d z') (omega (arith, length-drop d y, length-drop d y'))
    (λ q. h.middle.least w' y' ((h.turning.nodes w' (IsWalk-last g.middle)).1 (z', g.right)) middle (second ∙ q))
    (λ f.
    let same_y : y ≡ y' = exact_bytes y y' (second ∙ f) in
    let end : w' ≡ w = cc (g.middle.last, h.middle.walk.last) in
    let turn : IsWalk r (repeat s.on t.right) w w z' = subst (λ n. IsWalk r (repeat s.on t.right) n n z') end g.right in
    λ q. h.right.least w z' ((IsBitSet-pow w w).1 refl) turn (cmp-behind h.right.walk turn refl ∙ q)))

-- two placed configurations of one shape have as many letters
length-letters : {r : LocalRule} {t : TailConfig} {s : Shape} {p q : PlacedConfig} → HasShape r t s p → HasShape r t s q
    → length (letters p) ≡ length (letters q)
length-letters h g = simp length-append (omega arith)

-- shapes of the same numbers are the same
same_shape : (s u : Shape) → s.before ≡ u.before → s.back ≡ u.back → s.after ≡ u.after → s.on ≡ u.on → s ≡ u
same_shape s u before back after on = grind arith

-- shapes that compare equal are equal
shape_cmp-equal : (s u : Shape) → shape_cmp s u ≡ Equal → s ≡ u
shape_cmp-equal s u e = grind (arith, then_equal, nat_cmp-equal, same_shape)

-- first walks are loop walks
AreFirstWalks-walks : {r : LocalRule} {t : TailConfig} {s : Shape} {v w : ℕ} {x y z : List ℕ} → AreFirstWalks r t s v w x y z
    → AreLoopWalks r t s v w x y z
AreFirstWalks-walks h = record { back_some = h.back_some; on_some = h.on_some; left = h.left.walk; middle = h.middle.walk; right = h.right.walk }

-- the letters of first walks come no later than those of any other placed configuration of the shape that maps to t
first-letters : {r : LocalRule} {t : TailConfig} {s : Shape} {v w : ℕ} {x y z : List ℕ} {q : PlacedConfig} → IsRule r → IsTail r.states t
    → AreFirstWalks r t s v w x y z → IsShapedPreimage r t s q
    → slice_cmp nat_cmp (letters (placed_of r t s.before x y z)) (letters q) ≢ Greater
first-letters {r} {t} {s} {x = x} {y = y} {z = z} {q = q} rule ht h other =
    let g = HasLoopWalks-shape rule other in
    let mine : AreLoopWalks r t s _ _ x y z = AreFirstWalks-walks h in
    let d : ℕ = r.width - 1 in
    let a : List ℕ = letters (placed_of r t s.before x y z) in
    let b : List ℕ = letters (placed_of r t s.before g.x g.y g.z) in
    let i : List ℕ = drop (length z - d) z in
    let j : List ℕ = drop (length g.z - d) g.z in
    let all : slice_cmp nat_cmp (whole r x y z) (whole r g.x g.y g.z) ≡ ordering_then (slice_cmp nat_cmp a b) (slice_cmp nat_cmp i j) =
    ap₂ (slice_cmp nat_cmp) (whole-letters rule mine) (whole-letters rule g.walks) ∙ slice_cmp-append nat_cmp a i b j (length-letters (IsShapedPreimage-placed_of rule ht mine).shape (IsShapedPreimage-placed_of rule ht g.walks).shape) in
    subst (λ p. slice_cmp nat_cmp a (letters p) ≢ Greater) g.placed (first_not_greater (slice_cmp nat_cmp a b) (slice_cmp nat_cmp i j) (λ e. whole-not_greater rule h g.walks (all ∙ e)))

-- the first walks of a shape that is no greater than that of any other walks are the least preimage
pub IsFrom-first : {r : LocalRule} {t : TailConfig} {s : Shape} {v w : ℕ} {x y z : List ℕ} → IsRule r → IsTail r.states t → IsSmall s
    → ((u : Shape) (n q : ℕ) (a b c : List ℕ) → AreLoopWalks r t u n q a b c → shape_cmp s u ≢ Greater) → AreFirstWalks r t s v w x y z
    → IsFrom r t (placed_of r t s.before x y z)
IsFrom-first {r} {t} {s} {x = x} {y = y} {z = z} rule ht small least h =
    let p : PlacedConfig = placed_of r t s.before x y z in
    record {
      least = record {
        shape = s;
        preimage = IsShapedPreimage-placed_of rule ht (AreFirstWalks-walks h);
        least = λ u q other. then_not_greater (shape_cmp s u) (slice_cmp nat_cmp (letters p) (letters q))
            (let g = HasLoopWalks-shape rule other in least u g.v g.w g.x g.y g.z g.walks)
            (λ e. first-letters rule ht h (subst (λ n. IsShapedPreimage r t n q) (sym (shape_cmp-equal s u e)) other));
      };
      small = small;
    }

-- two lists whose beginnings are of one length are equal part by part
same_cut : (a b c d : List ℕ) → length a ≡ length c → a ++ b ≡ c ++ d → (a ≡ c) × (b ≡ d)
same_cut a b c d long e = (
  sym (take_at a b (length a) refl) ∙ ap₂ (λ (n : ℕ) (x : List ℕ). take n x) long e ∙ take_at c d (length c) refl,
  sym (drop_at a b (length a) refl) ∙ ap₂ (λ (n : ℕ) (x : List ℕ). drop n x) long e ∙ drop_at c d (length c) refl,
)

-- placed configurations of one shape with the same letters are one
same_placed : {r : LocalRule} {t : TailConfig} {s : Shape} {p q : PlacedConfig} → HasShape r t s p → HasShape r t s q → letters p ≡ letters q → p ≡ q
same_placed h g e = grind (arith, common_steps, same_cut)

-- there is one least preimage
pub IsLeastPreimage-unique : {r : LocalRule} {t : TailConfig} {p q : PlacedConfig} → IsLeastPreimage r t p → IsLeastPreimage r t q → p ≡ q
IsLeastPreimage-unique {r} {t} {p} {q} h g =
    let keys : IsTotalOrder shape_cmp =
    then_total (on_total (λ s. s.back + s.before) nat_cmp_total) (then_total (on_total (λ s. s.on + s.after) nat_cmp_total) (then_total (on_total (λ s. s.before) nat_cmp_total) (on_total (λ s. s.after) nat_cmp_total))) in
    let order : IsTotalOrder {K = Shape × PlacedConfig} (λ a b. ordering_then (shape_cmp a.0 b.0) (slice_cmp nat_cmp (letters a.1) (letters b.1))) =
    then_total (on_total (λ (a : Shape × PlacedConfig). a.0) keys) (on_total (λ (a : Shape × PlacedConfig). letters a.1) nat_list_cmp_total) in
    let (shapes, words) = then_equal (shape_cmp h.shape g.shape) (slice_cmp nat_cmp (letters p) (letters q))
    (tied order (h.shape, p) (g.shape, q) (h.least g.shape q g.preimage) (g.least h.shape p h.preimage)) in
    same_placed h.preimage.shape (subst (λ s. HasShape r t s q) (sym (shape_cmp-equal h.shape g.shape shapes)) g.preimage.shape) (exact_bytes (letters p) (letters q) words)
