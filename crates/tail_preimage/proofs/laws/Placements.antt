-- Three walks, a loop, one from it to another loop, and that loop, are a placed configuration that maps to the letters which they spell.
use Rattle.std.proofs.Common.{◌≡◌, ℕ, zero, suc, ◌+◌, ◌-◌, ◌*◌, ◌<◌, ◌≤◌, List, [], ◌++◌, length, take, get_or, ℤ, pos, ◌+ℤ◌, ◌-ℤ◌, unsigned_abs, refl, sym, ap, ap₂, ◌∙◌, arith, length-append, append_assoc, zero-mul, mul-one, mul-le-mul_left, take_at, append-nil}
use Rattle.word_image.proofs.Common.{repeat, ints, take-append-le, LocalRule, IsRule, word_of, local_map, image, image-take}
use Rattle.tail_config.proofs.Common.{TailConfig, IsTail, cell, cells, run, image_of, config_of, get_or-run, run-same, image-run, take-run}
use Rattle.tail_preimage.specs.Walks.{IsWalk, before_last}
use Rattle.tail_preimage.specs.Preimages.{PlacedConfig, MapsTo, Shape, IsShapedPreimage, stretch, placed_cell, placed_cells}
use Rattle.tail_preimage.specs.FirstWalks.{AreLoopWalks, placed_of}
use Rattle.tail_preimage.proofs.laws.Walks.{same_first, length-before_last, IsWord-before_last, IsWalk-last, IsWalk-none, IsWalk-then}
use Rattle.tail_preimage.proofs.laws.Stretches.{length-repeat, repeat-add, repeat-repeat, stretch_length, length-stretch, stretch_start, cells-stretch}

-- a loop, n times, and then a walk are one walk
pub IsWalk-round : {r : LocalRule} {v s : ℕ} {w z x y : List ℕ} → IsRule r → IsWalk r w v v x → IsWalk r z v s y → (n : ℕ)
    → IsWalk r (repeat n w ++ z) v s (repeat n (before_last r x) ++ y)
IsWalk-round rule h g zero = g
IsWalk-round {r} {v} {s} {w} {z} {x} {y} rule h g (suc n) =
    rw (append_assoc (before_last r x) (repeat n (before_last r x)) y, append_assoc w (repeat n w) z) (IsWalk-then rule h (IsWalk-round rule h g n))

-- b left periods more before a stretch and a right periods more behind it make one stretch
pub stretch-more : (t : TailConfig) (b p q a : ℕ) → repeat b t.left ++ (stretch t p q ++ repeat a t.right) ≡ stretch t (b + p) (q + a)
stretch-more t b p q a = grind (arith, append_assoc, repeat-add)

-- the stretch that n rounds of either loop spell
abbrev pub rounds : TailConfig → Shape → ℕ → ℕ → List ℕ
rounds t s b a = stretch t (b * s.back + s.before) (s.after + a * s.on)

-- the configuration of three walks
abbrev pub spelled : LocalRule → List ℕ → List ℕ → List ℕ → TailConfig
spelled r x y z = config_of (before_last r x) (before_last r y) (before_last r z)

-- b left loops, the middle and a right loops are one walk: a stretch of the configuration, and the letters of the last node
pub IsWalk-rounds : {r : LocalRule} {t : TailConfig} {s : Shape} {v w : ℕ} {x y z : List ℕ} → IsRule r → AreLoopWalks r t s v w x y z → (b a : ℕ)
    → IsWalk r (rounds t s b a) v w (stretch (spelled r x y z) b a ++ word_of r.states (r.width - 1) w)
IsWalk-rounds {r} {t} {s} {v} {w} {x} {y} {z} rule h b a =
    let end : List ℕ = word_of r.states (r.width - 1) w in
    let left : List ℕ = repeat b (before_last r x) in
    let right : List ℕ = repeat a (before_last r z) in
    let m : List ℕ = before_last r y in
    let on : IsWalk r (repeat a (repeat s.on t.right) ++ []) w w (right ++ end) = IsWalk-round rule h.right (IsWalk-none r w (IsWalk-last h.middle)) a in
    let all = IsWalk-round rule h.left (IsWalk-then rule h.middle on) b in
    grind (arith, repeat-repeat, append-nil, stretch-more, append_assoc)

-- the configuration that three loop walks spell is one over the rule's letters
pub IsTail-spelled : {r : LocalRule} {t : TailConfig} {s : Shape} {v w : ℕ} {x y z : List ℕ} → IsTail r.states t → AreLoopWalks r t s v w x y z
    → IsTail r.states (spelled r x y z)
IsTail-spelled {x = x} {y = y} {z = z} ht h =
    grind (arith, length-before_last, length-repeat, IsWord-before_last)

-- the cells of a placed configuration are cells of the configuration
pub placed_cells-cells : (p : PlacedConfig) (i j : ℤ) (n : ℕ) → i -ℤ p.at ≡ j → placed_cells p i n ≡ cells p.config j n
placed_cells-cells p i j n e =
    run-same (placed_cell p) (cell p.config) i j n (λ a l. let place : i +ℤ pos a -ℤ p.at ≡ j +ℤ pos a = omega (arith, ints, e) in ap (cell p.config) place)

-- what n rounds of the left loop span
lefts-rounds : (t : TailConfig) (s : Shape) (n p : ℕ) → p ≡ s.back * length t.left
    → n * p + s.before * length t.left ≡ (n * s.back + s.before) * length t.left
lefts-rounds t s n p e = grind arith

-- n is no greater than n times a positive number
le-times : (n p : ℕ) → 1 ≤ p → n ≤ n * p
le-times n p h = let more : n * 1 ≤ n * p = mul-le-mul_left n h in omega (arith, mul-one n)

-- the image of what n rounds spell is what they span
spelled-image : {r : LocalRule} {t : TailConfig} {s : Shape} {v w : ℕ} {x y z : List ℕ} → IsRule r → AreLoopWalks r t s v w x y z → (n e : ℕ)
    → e + (r.width - 1) ≡ stretch_length (spelled r x y z) n n
    → run (image_of r (cell (spelled r x y z))) (stretch_start (spelled r x y z) n -ℤ r.offset) e ≡ cells t (stretch_start t (n * s.back + s.before)) e
spelled-image {r} {t} {s} {w = w} {x = x} {y = y} {z = z} rule h n e inside =
    let c : TailConfig = spelled r x y z in
    let d : ℕ = r.width - 1 in
    let end : List ℕ = word_of r.states d w in
    let b : ℕ = n * s.back + s.before in
    let a : ℕ = s.after + n * s.on in
    let walk = IsWalk-rounds rule h n n in
    sym (image-run rule (cell c) (stretch_start c n -ℤ r.offset) (stretch_start c n) e (omega (arith, ints)))
    ∙ ap (image r) (ap (cells c (stretch_start c n)) inside ∙ cells-stretch c n n ∙ sym (take_at (stretch c n n) end (e + d) (omega (arith, length-stretch c n n))))
    ∙ image-take rule (e + d) (stretch c n n ++ end)
    ∙ ap₂ (λ (i : ℕ) (u : List ℕ). take i u) (omega arith) (walk.preimage.maps ∙ sym (cells-stretch t b a))
    ∙ take-run (cell t) (stretch_start t b) (stretch_length t b a) e
    (omega (arith, length-append (stretch c n n) end, length-stretch c n n, length-stretch t b a))

-- the placed configuration of the walks maps to what they spell
MapsTo-placed_of : {r : LocalRule} {t : TailConfig} {s : Shape} {v w : ℕ} {x y z : List ℕ} → IsRule r → IsTail r.states t
    → AreLoopWalks r t s v w x y z
    → MapsTo r (placed_of r t s.before x y z) t
MapsTo-placed_of {r} {t} {s} {x = x} {y = y} {z = z} rule ht h =
    let c : TailConfig = spelled r x y z in
    let hc : IsTail r.states c = IsTail-spelled ht h in
    let p : PlacedConfig = placed_of r t s.before x y z in
    record {
      config = hc;
      cells = λ i.
          let j : ℤ = i +ℤ r.offset -ℤ p.at in
          let n : ℕ = unsigned_abs j + r.width in
          let e : ℕ = unsigned_abs (j +ℤ pos (n * length c.left)) in
          let m : ℕ = stretch_length c n n - (r.width - 1) in
          let left : n ≤ n * length c.left = le-times n (length c.left) hc.left_some in
          let right : n ≤ n * length c.right = le-times n (length c.right) hc.right_some in
          let span : n * length c.left + s.before * length t.left ≡ (n * s.back + s.before) * length t.left = grind (arith, lefts-rounds, length-before_last, length-repeat) in
          let inside : e < m = omega (arith, ints) in
          ap (local_map r) (placed_cells-cells p (i +ℤ r.offset) (i -ℤ p.at +ℤ r.offset) r.width (omega (arith, ints)))
          ∙ sym (get_or-run (image_of r (cell c)) (stretch_start c n -ℤ r.offset) (i -ℤ p.at) m e inside (omega (arith, ints)))
          ∙ ap (λ u. get_or u e 0) (spelled-image rule h n m (omega arith))
          ∙ get_or-run (cell t) (stretch_start t (n * s.back + s.before)) i m e inside (omega (arith, ints));
    }

-- where b rounds of the left loop begin stand the first letters of the walk that they begin
spelled-node : (r : LocalRule) (x y z : List ℕ) → IsTail r.states (spelled r x y z) → (b : ℕ) (end : List ℕ)
    → cells (spelled r x y z) (stretch_start (spelled r x y z) b) (r.width - 1) ≡ take (r.width - 1) (stretch (spelled r x y z) b (r.width - 1) ++ end)
spelled-node r x y z hc b end =
    let c : TailConfig = spelled r x y z in
    let d : ℕ = r.width - 1 in
    let right : d ≤ d * length c.right = le-times d (length c.right) hc.right_some in
    sym (take-run (cell c) (stretch_start c b) (stretch_length c b d) d (omega arith)) ∙ ap (take d) (cells-stretch c b d)
    ∙ sym (take-append-le d (stretch c b d) end (omega (arith, length-stretch c b d)))

-- the placed configuration of three loop walks is one of their shape that maps to t
pub IsShapedPreimage-placed_of : {r : LocalRule} {t : TailConfig} {s : Shape} {v w : ℕ} {x y z : List ℕ} → IsRule r → IsTail r.states t
    → AreLoopWalks r t s v w x y z
    → IsShapedPreimage r t s (placed_of r t s.before x y z)
IsShapedPreimage-placed_of {r} {t} {s} {w = w} {x = x} {y = y} {z = z} rule ht h =
    let c : TailConfig = spelled r x y z in
    let p : PlacedConfig = placed_of r t s.before x y z in
    let d : ℕ = r.width - 1 in
    let left : length c.left ≡ s.back * length t.left = length-before_last h.left ∙ length-repeat s.back t.left in
    let node = λ (b : ℕ). spelled-node r x y z (IsTail-spelled ht h) b (word_of r.states d w) in
    record {
      maps = MapsTo-placed_of rule ht h;
      shape = record {
        back_some = h.back_some;
        on_some = h.on_some;
        left = left;
        middle = length-before_last h.middle ∙ length-stretch t s.before s.after;
        right = length-before_last h.right ∙ length-repeat s.on t.right;
        at = refl;
        node = placed_cells-cells p p.at (stretch_start c 0) d (omega (arith, ints, zero-mul (length c.left)))
            ∙ node 0 ∙ same_first (IsWalk-rounds rule h 0 d) (IsWalk-rounds rule h 1 d) ∙ sym (node 1)
            ∙ sym (placed_cells-cells p (p.at -ℤ pos (s.back * length t.left)) (stretch_start c 1) d (omega (arith, ints)));
      };
    }
