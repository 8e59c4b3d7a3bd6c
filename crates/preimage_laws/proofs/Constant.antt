-- A rule under which all configurations have the same number of preimages is closing on both sides.
use Rattle.std.proofs.Common.{◌≡◌, ℕ, ◌+◌, ◌-◌, ◌*◌, ◌<◌, ◌≤◌, ◌↔◌, ⊎_elim, List, [], ◌∷◌, length, ℤ, pos, ◌+ℤ◌, ◌-ℤ◌, unsigned_abs, ◌<ℤ◌, ◌≤ℤ◌, refl, sym, ap, ◌∙◌, subst, arith}
use Rattle.std.proofs.Math.Path.{fun_ext}
use Rattle.word_image.proofs.Common.{all_taken, chosen_below, ints, by_lt_z, cases_lt, LocalRule, IsRule, IsRing, IsSurjective, ring_letter, ring_letter-below, node_count, value, value-node, value-injective, some_letter}
use Rattle.tail_config.proofs.Common.{TailConfig, IsTail, IsOpen, ShareImage, Same, cell, cell-below, Config, IsConfig, zeros, run, image_of, image_of-window, length-run, IsWord-run, run-same, same-run}
use Rattle.tail_config.proofs.laws.Periods.{at_run, same_left-back, same_right-back, same_right-period}
use Rattle.tail_config.proofs.laws.Repeats.{cell-left_period, cell-right_period, image_of-left_period, image_of-right_period}
use Rattle.config_laws.specs.Repeating.{RepeatsFarLeft, RepeatsFarRight, HasTails}
use Rattle.config_laws.specs.Periodic.{HasPeriod}
use Rattle.config_laws.proofs.Images.{IsConfig-image}
use Rattle.config_laws.proofs.Joined.{meeting, meeting-left, meeting-right, IsConfig-meeting}
use Rattle.config_laws.proofs.Periods.{RepeatsLeft-period, RepeatsRight-period, HasPeriod-image, HasPeriod-ring, rounds, IsConfig-rounds, HasPeriod-rounds, rounds-first}
use Rattle.config_laws.proofs.RingImages.{run-ring}
use Rattle.config_laws.proofs.Dense.{preimage_inside}
use Rattle.config_laws.proofs.Tails.{between_tails}
use Rattle.config_laws.proofs.PeriodicPreimages.{HasPeriod-preimage}
use Rattle.preimage_laws.specs.PreimageCounts.{ArePreimages, IsToOne, IsConstantToOne, IsToOneOnPeriodic}
use Rattle.preimage_laws.proofs.Separated.{image_of-run_meeting}
use Rattle.preimage_laws.proofs.Pigeons.{twice_marked}
use Rattle.preimage_laws.proofs.Followed.{node_under, Through, Through-between, AgreeAround, IsFollowed}
use Rattle.preimage_laws.proofs.Counts.{IsSeparated, same_number, IsConstantToOne-open}

-- if each periodic configuration has n preimages, n isn't 0: the image of zeros has one
to_one-some : {r : LocalRule} {n : ℕ} → IsRule r → IsToOneOnPeriodic r n → 1 ≤ n
to_one-some {r} rule each =
    let again : HasPeriod 1 zeros = record { some = omega arith; again = λ i. refl } in
    let (xs, are) = each (image_of r zeros) (IsConfig-image rule zeros) (1, HasPeriod-image r again) in
    let at = are.all zeros (λ j. some_letter rule) refl in
    omega (arith, at.1)

-- if each periodic configuration has n preimages, a rule is surjective
pub IsSurjective-to_one : {r : LocalRule} {n : ℕ} → IsRule r → IsToOneOnPeriodic r n → IsSurjective r
IsSurjective-to_one {r} rule each [] hw = preimage_inside {x = zeros} rule (λ i. some_letter rule) (pos 0) [] refl
IsSurjective-to_one {r} rule each (a ∷ w) hw =
    let some = to_one-some rule each in
    let ring : IsRing r.states (a ∷ w) = record { word = hw; some = omega arith } in
    let (xs, are) = each (ring_letter (a ∷ w)) (ring_letter-below ring) (length (a ∷ w), HasPeriod-ring (a ∷ w) ring.some) in
    preimage_inside rule (are.configs 0 some) (pos 0) (a ∷ w) (ap (λ (x : Config). run x (pos 0) (length (a ∷ w))) (are.maps 0 some) ∙ run-ring (a ∷ w))

-- under a surjective rule the preimages of what repeats are separated: they repeat, and so does what two make if they meet, so it is equal to both
pub IsSeparated-period : {r : LocalRule} {y : Config} {p : ℕ} → IsRule r → IsSurjective r → HasPeriod p y → (i : ℤ) → IsSeparated r y i
IsSeparated-period {r} {y} {p} rule every again i x z hx hz mx mz node =
    let s : ℤ = i +ℤ r.offset in
    let (a, px) = period hx mx in
    let (b, pz) = period hz mz in
    let (c, pu) = period (IsConfig-meeting hx hz s) (image_of-run_meeting r x z s node mx mz) in
    let u : Config = meeting x z s in
    fun_ext (λ j.
    sym (same_left-back u x c a (j +ℤ pos 1) s pu.some px.some (RepeatsLeft-period pu (j +ℤ pos 1)) (RepeatsLeft-period px (j +ℤ pos 1)) (meeting-left x z s) j (omega (arith, ints)))
    ∙ same_right-back u z c b j s pu.some pz.some (RepeatsRight-period pu j) (RepeatsRight-period pz j) (λ k l. meeting-right x z s k (omega (arith, ints))) j (omega (arith, ints)))
  where
    period : {v : Config} → IsConfig r.states v → image_of r v ≡ y → (q : ℕ) × HasPeriod q v
    period {v} hv mv = let (l, some, few, h) = HasPeriod-preimage rule every hv (subst (HasPeriod p) (sym mv) again) in (l * p, h)

-- if w and y have n preimages each, those of w are separated at place i, and y has a preimage with each of their nodes there, then w has a preimage with each node of a preimage of y
nodes_shared : {r : LocalRule} {w y : Config} {n : ℕ} {ws ys : ℕ → Config} → ArePreimages r w n ws → ArePreimages r y n ys → (i : ℤ)
    → IsSeparated r w i
    → ((a : ℕ) → a < n → Through r y i (node_under r (ws a) i))
    → (u : Config) → IsConfig r.states u → image_of r u ≡ y → Through r w i (node_under r u i)
nodes_shared {r} {w} {y} {n} {ws} {ys} first second i apart through u hu mu =
    let (c, l, is) = second.all u hu mu in
    let (a, la, fa) = all_taken n f (λ a l. (marks a l).0) (λ a b la lb e. number a b la lb ((marks a la).1 ∙ ap (λ c. node_under r (ys c) i) e ∙ sym (marks b lb).1)) c l in
    (ws a, first.configs a la, first.maps a la, (marks a la).1 ∙ ap (λ b. node_under r (ys b) i) fa ∙ ap (λ (x : Config). node_under r x i) is)
  where
    number : (a b : ℕ) → a < n → b < n → node_under r (ws a) i ≡ node_under r (ws b) i → a ≡ b
    number = same_number first i apart

    chosen : (f : ℕ → ℕ) × ((a : ℕ) → a < n → (f a < n) × (node_under r (ws a) i ≡ node_under r (ys (f a)) i))
    chosen =
        chosen_below ℕ (λ a c. (c < n) × (node_under r (ws a) i ≡ node_under r (ys c) i)) n 0 (λ a l.
        let t = through a l in
        let (c, below, is) = second.all t.0 t.1 t.2 in
        (c, (below, sym (ap (λ (u : Config). node_under r u i) is ∙ t.3))))

    f : ℕ → ℕ
    f = chosen.0

    marks : (a : ℕ) → a < n → (f a < n) × (node_under r (ws a) i ≡ node_under r (ys (f a)) i)
    marks = chosen.1

-- around each place of a configuration with period p, n p + 2 places to each side are enough, if there are n nodes
IsFollowed-period : {r : LocalRule} {y : Config} {p : ℕ} → IsRule r → HasPeriod p y → (i : ℤ) → IsFollowed r y i (node_count r * p + 2)
IsFollowed-period {r} {y} {p} rule h i x hx agree =
    let left : RepeatsFarLeft y = record { place = i -ℤ pos 1; period = p; some = h.some; again = λ j l. RepeatsLeft-period h (j +ℤ pos 1) j (omega (arith, ints)) } in
    let right : RepeatsFarRight y = record { place = i; period = p; some = h.some; again = λ j l. h.again j } in
    Through-between (between_tails rule hx left right (omega (arith, ints)) (λ j low high. agree j (omega (arith, ints)) (omega (arith, ints)))).0 i (omega (arith, ints)) (omega (arith, ints))

-- if each periodic configuration has n preimages, and x is a preimage of what agrees around place i with a periodic configuration, then each periodic configuration that agrees with it there has a preimage with the node of x
through_periodic : {r : LocalRule} {n p q : ℕ} {y w x : Config} → IsRule r → IsToOneOnPeriodic r n → IsConfig r.states y → HasPeriod p y → IsConfig r.states w → HasPeriod q w → (i : ℤ)
    → AgreeAround i (node_count r * p + 2) (image_of r x) y → AgreeAround i (node_count r * p + 2) w y → IsConfig r.states x → Through r w i (node_under r x i)
through_periodic {r} {n} {p} {q} {y} {w} {x} rule each hy py hw pw i agree other hx =
    let (ws, first) = each w hw (q, pw) in
    let (ys, second) = each y hy (p, py) in
    let followed = IsFollowed-period rule py i in
    let (u, hu, mu, same) = followed x hx agree in
    let (v, hv, mv, node) = nodes_shared first second i (IsSeparated-period rule (IsSurjective-to_one rule each) pw i)
    (λ a l. followed (ws a) (first.configs a l) (λ j low high. ap (λ (c : Config). c j) (first.maps a l) ∙ other j low high)) u hu mu in
    (v, hv, mv, node ∙ same)

-- what repeats far to the left is there the letters of one period, again and again
left_rounds : {y : Config} → (left : RepeatsFarLeft y) → (k : ℤ) → k ≤ℤ left.place → rounds y (left.place -ℤ pos left.period +ℤ pos 1) left.period k ≡ y k
left_rounds {y} left k low =
    let p = left.period in
    let s : ℤ = left.place -ℤ pos p +ℤ pos 1 in
    let g : Config = rounds y s p in
    let again = HasPeriod-rounds {p = left.period} y s left.some in
    let turn : (i : ℤ) → pos 0 -ℤ (i +ℤ pos p) ≡ (pos 0 -ℤ i) -ℤ pos p = λ i. omega (arith, ints) in
    let same = same_right-period (λ i. g (pos 0 -ℤ i)) (λ i. y (pos 0 -ℤ i)) p (pos 0 -ℤ left.place) left.some
    (λ i l. ap g (turn i) ∙ RepeatsLeft-period again (pos 0 -ℤ i +ℤ pos 1) (pos 0 -ℤ i) (omega (arith, ints)))
    (λ i l. ap y (turn i) ∙ left.again (pos 0 -ℤ i) (omega (arith, ints)))
    (λ d l. at_run g y s p (rounds-first y s p) (pos 0 -ℤ (pos 0 -ℤ left.place +ℤ pos d)) (omega (arith, ints)) (omega (arith, ints)))
    (pos 0 -ℤ k) (omega (arith, ints)) in
    let back : pos 0 -ℤ (pos 0 -ℤ k) ≡ k = omega (arith, ints) in
    sym (ap g back) ∙ same ∙ ap y back

-- what repeats far to the right is there the letters of one period, again and again
right_rounds : {y : Config} → (right : RepeatsFarRight y) → (k : ℤ) → right.place ≤ℤ k → rounds y right.place right.period k ≡ y k
right_rounds {y} right k high =
    let again = HasPeriod-rounds {p = right.period} y right.place right.some in
    same_right-period (rounds y right.place right.period) y right.period right.place right.some (λ i l. again.again i) right.again (λ d l. rounds-first y right.place right.period d l) k high

-- what two configurations make if they meet has the image that their images make
image_of-meetings : (r : LocalRule) (x z : Config) (i : ℤ) → node_under r x i ≡ node_under r z i
    → (j : ℤ) → image_of r (meeting x z (i +ℤ r.offset)) j ≡ meeting (image_of r x) (image_of r z) i j
image_of-meetings r x z i node j =
    let e : ℤ = i +ℤ r.offset in
    let letters = same-run x z e e (r.width - 1) node in
    by_lt_z j i
    (λ l. image_of-window r (meeting x z e) x j j (λ a g.
    let q : ℤ = j +ℤ r.offset +ℤ pos a in
    by_lt_z q e (meeting-left x z e q) (λ h. meeting-right x z e q h ∙ sym (at_run x z e (r.width - 1) letters q h (omega (arith, ints)))))
    ∙ sym (meeting-left (image_of r x) (image_of r z) i j l))
    (λ l. image_of-window r (meeting x z e) z j j (λ a g. meeting-right x z e (j +ℤ r.offset +ℤ pos a) (omega (arith, ints)))
    ∙ sym (meeting-right (image_of r x) (image_of r z) i j l))

-- a preimage of w that agrees with x between place p and place q of the image
record Inside (r : LocalRule) (x w : Config) (p q : ℤ) : Type 0 where
  u : Config
  config : IsConfig r.states u
  maps : image_of r u ≡ w
  inside : (k : ℤ) → (p +ℤ r.offset) ≤ℤ k → k <ℤ (q +ℤ r.offset) → u k ≡ x k

-- if w has preimages with the nodes of x at two places, and agrees with the image of x between, it has one that agrees with x between
inside : {r : LocalRule} {x w : Config} (p q : ℤ) → p ≤ℤ q → IsConfig r.states x → Through r w p (node_under r x p) → Through r w q (node_under r x q)
    → ((j : ℤ) → p ≤ℤ j → j <ℤ q → image_of r x j ≡ w j) → Inside r x w p q
inside {r} {x} {w} p q order hx (a, ha, ma, na) (b, hb, mb, nb) agree =
    let left : Config = meeting a x (p +ℤ r.offset) in
    let whole : Config = meeting left b (q +ℤ r.offset) in
    let first : (j : ℤ) → j <ℤ q → image_of r left j ≡ w j = λ j l. image_of-meetings r a x p na j ∙ by_lt_z j p
    (λ h. meeting-left (image_of r a) (image_of r x) p j h ∙ ap (λ (c : Config). c j) ma)
    (λ h. meeting-right (image_of r a) (image_of r x) p j h ∙ agree j h l) in
    let node : node_under r left q ≡ node_under r b q = run-same left x (q +ℤ r.offset) (q +ℤ r.offset) (r.width - 1) (λ c l. meeting-right a x (p +ℤ r.offset) _ (omega (arith, ints))) ∙ sym nb in
    record {
      u = whole;
      config = IsConfig-meeting (IsConfig-meeting ha hx (p +ℤ r.offset)) hb (q +ℤ r.offset);
      maps = fun_ext (λ j. image_of-meetings r left b q node j ∙ by_lt_z j q
          (λ l. meeting-left (image_of r left) (image_of r b) q j l ∙ first j l)
          (λ l. meeting-right (image_of r left) (image_of r b) q j l ∙ ap (λ (c : Config). c j) mb));
      inside = λ k low high. meeting-left left b (q +ℤ r.offset) k high ∙ meeting-right a x (p +ℤ r.offset) k low;
    }

-- if each periodic configuration has n preimages, those of what repeats far out are separated: between two places far out two of them agree with preimages of a periodic configuration, which are separated
IsSeparated-tails : {r : LocalRule} {n : ℕ} {y : Config} → IsRule r → IsToOneOnPeriodic r n → IsConfig r.states y → HasTails y → (i : ℤ) → IsSeparated r y i
IsSeparated-tails {r} {n} {y} rule each hy (left, right) i x z hx hz mx mz node = fun_ext (λ j. equal j)
  where
    equal : (j : ℤ) → x j ≡ z j
    equal j =
        let far : ℕ = unsigned_abs i + unsigned_abs j + unsigned_abs r.offset + unsigned_abs left.place + unsigned_abs right.place + r.width in
        let ml : ℕ = node_count r * left.period + 2 in
        let mr : ℕ = node_count r * right.period + 2 in
        let p : ℤ = pos 0 -ℤ pos (far + ml) in
        let q : ℤ = pos (far + mr) in
        let s : ℤ = p -ℤ pos ml in
        let l : ℕ = far + ml + ml + far + mr + mr + 1 in
        let w : Config = rounds y s l in
        let hw = IsConfig-rounds {p = l} hy (omega arith) s in
        let pw = HasPeriod-rounds {p = l} y s (omega arith) in
        let agree : (k : ℤ) → s ≤ℤ k → k <ℤ (s +ℤ pos l) → w k ≡ y k = at_run w y s l (rounds-first y s l) in
        let sl : ℤ = left.place -ℤ pos left.period +ℤ pos 1 in
        let before : (k : ℤ) → (p -ℤ pos ml) ≤ℤ k → k ≤ℤ (p +ℤ pos ml) → y k ≡ rounds y sl left.period k = λ k low high. sym (left_rounds left k (omega (arith, ints))) in
        let behind : (k : ℤ) → (q -ℤ pos mr) ≤ℤ k → k ≤ℤ (q +ℤ pos mr) → y k ≡ rounds y right.place right.period k = λ k low high. sym (right_rounds right k (omega (arith, ints))) in
        let of : (u : Config) → IsConfig r.states u → image_of r u ≡ y → Inside r u w p q = λ u hu mu. inside p q (omega (arith, ints)) hu
        (through_periodic rule each (IsConfig-rounds hy left.some sl) (HasPeriod-rounds y sl left.some) hw pw p (λ k low high. ap (λ (c : Config). c k) mu ∙ before k low high)
        (λ k low high. agree k (omega (arith, ints)) (omega (arith, ints)) ∙ before k low high) hu)
        (through_periodic rule each (IsConfig-rounds hy right.some right.place) (HasPeriod-rounds y right.place right.some) hw pw q (λ k low high. ap (λ (c : Config). c k) mu ∙ behind k low high)
        (λ k low high. agree k (omega (arith, ints)) (omega (arith, ints)) ∙ behind k low high) hu)
        (λ k low high. ap (λ (c : Config). c k) mu ∙ sym (agree k (omega (arith, ints)) (omega (arith, ints)))) in
        let a = of x hx mx in
        let b = of z hz mz in
        let here : (u : Config) → (h : Inside r u w p q) → node_under r h.u i ≡ node_under r u i = λ u h. run-same h.u u _ _ (r.width - 1) (λ c l. h.inside _ (omega (arith, ints)) (omega (arith, ints))) in
        let same = IsSeparated-period rule (IsSurjective-to_one rule each) pw i a.u b.u a.config b.config a.maps b.maps (here x a ∙ node ∙ sym (here z b)) in
        sym (a.inside j (omega (arith, ints)) (omega (arith, ints))) ∙ ap (λ (c : Config). c j) same ∙ b.inside j (omega (arith, ints)) (omega (arith, ints))

-- the image of a configuration with periodic tails repeats far out
HasTails-image : {k : ℕ} (r : LocalRule) (t : TailConfig) → IsTail k t → HasTails (image_of r (cell t))
HasTails-image r t tail =
    let left = image_of-left_period r (cell t) (length t.left) (pos 0) (pos 0 -ℤ pos (r.width - 1) -ℤ r.offset) (cell-left_period t) (omega (arith, ints)) in (
      record { place = pos 0 -ℤ pos (r.width - 1) -ℤ r.offset -ℤ pos 1; period = length t.left; some = tail.left_some; again = λ i l. left i (omega (arith, ints)) },
      record {
        place = pos (length t.middle) -ℤ r.offset;
        period = length t.right;
        some = tail.right_some;
        again = image_of-right_period r (cell t) (length t.right) (pos (length t.middle)) (pos (length t.middle) -ℤ r.offset) (cell-right_period t) (omega (arith, ints));
      },
    )

-- a rule is closing on both sides if all periodic configurations have the same number of preimages
pub IsOpen-periodic : {r : LocalRule} {n : ℕ} → IsRule r → IsToOneOnPeriodic r n → IsOpen r
IsOpen-periodic {r} rule each = (
  λ s t hs ht share (p, left).
      let i : ℤ = p -ℤ pos r.width -ℤ r.offset in
      equal s t hs ht share i (λ a l. left (i +ℤ r.offset +ℤ pos a) (omega (arith, ints))),
  λ s t hs ht share (p, right).
      let i : ℤ = p +ℤ pos 1 -ℤ r.offset in
      equal s t hs ht share i (λ a l. right (i +ℤ r.offset +ℤ pos a) (omega (arith, ints))),
)
  where
    equal : (s t : TailConfig) → IsTail r.states s → IsTail r.states t → ShareImage r s t → (i : ℤ)
        → ((a : ℕ) → a < r.width - 1 → cell s (i +ℤ r.offset +ℤ pos a) ≡ cell t (i +ℤ r.offset +ℤ pos a)) → Same s t
    equal s t hs ht share i node j =
        let x : Config = cell s in
        let z : Config = cell t in
        ap (λ (c : Config). c j) (IsSeparated-tails rule each (IsConfig-image rule x) (HasTails-image r s hs) i x z (cell-below hs) (cell-below ht) refl (sym (fun_ext share))
        (run-same x z (i +ℤ r.offset) (i +ℤ r.offset) (r.width - 1) node))

-- a rule is closing on both sides exactly if all configurations have the same number of preimages
pub IsOpen-constant_to_one : {r : LocalRule} → IsRule r → IsOpen r ↔ IsConstantToOne r
IsOpen-constant_to_one rule = (IsConstantToOne-open rule, λ (n, each). IsOpen-periodic rule (λ y hy again. each y hy))

-- if each configuration has n preimages, n is at least 1 and at most the number of nodes: the preimages of what repeats have different nodes at a place
pub to_one-within : {r : LocalRule} {n : ℕ} → IsRule r → IsToOne r n → (1 ≤ n) × (n ≤ node_count r)
to_one-within {r} {n} rule each = (to_one-some rule (λ y hy again. each y hy), ⊎_elim (λ more. absurd (too_many more)) (λ few. few) (cases_lt (node_count r) n))
  where
    too_many : ¬ (node_count r < n)
    too_many more =
        let (xs, are) = each zeros (λ j. some_letter rule) in
        let word = λ (a : ℕ) (l : a < n). IsWord-run (are.configs a l) (pos 0 +ℤ r.offset) (r.width - 1) in
        let long = λ (a : ℕ). length-run (xs a) (pos 0 +ℤ r.offset) (r.width - 1) in
        let (a, b, c, order, most, one, two) = twice_marked (node_count r) (λ a c. value r.states (node_under r (xs a) (pos 0)) ≡ c) (λ a l.
        (value r.states (node_under r (xs a) (pos 0)), value-node r _ (word a (omega arith)) (long a), refl)) in
        absurd (omega (
          arith,
          same_number are (pos 0) (IsSeparated-period {p = 1} rule (IsSurjective-to_one rule (λ y hy again. each y hy)) (record { some = omega arith; again = λ j. refl }) (pos 0)) a b (omega arith) (omega arith)
              (value-injective r.states _ _ (word a (omega arith)) (word b (omega arith)) (long a ∙ sym (long b)) (one ∙ sym two)),
        ))
