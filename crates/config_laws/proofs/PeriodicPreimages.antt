-- A rule is surjective exactly if all preimages of periodic configurations are periodic: else more configurations than nodes have one image.
use Rattle.std.proofs.Common.{◌≡◌, ℕ, zero, suc, ◌-◌, ◌*◌, ◌≤◌, ◌↔◌, ⊎_elim, length, ℤ, pos, ◌+ℤ◌, ◌-ℤ◌, unsigned_abs, refl, sym, ap, ◌∙◌, subst, arith, ◌<ℤ◌, ◌≤ℤ◌}
use Rattle.word_image.proofs.Common.{cases_eq, ints, by_lt_z, mul-le, LocalRule, IsRule, node_count, IsSurjective}
use Rattle.garden_laws.proofs.GardenOfEden.{garden_of_eden}
use Rattle.tail_config.proofs.Common.{Config, IsConfig, image_of, RepeatsLeft-times, RepeatsRight, same_right-back}
use Rattle.config_laws.specs.Periodic.{HasPeriod, HasPeriodicPreimages}
use Rattle.config_laws.proofs.Joined.{meeting, meeting-left, meeting-right, IsConfig-meeting, image_of-meeting}
use Rattle.config_laws.proofs.Loops.{IsLoop, rounds-loop, image_of-rounds, SomeLoop, some_loop}
use Rattle.config_laws.proofs.Exchange.{AreMany-moved, not_periodic, broken}
use Rattle.config_laws.proofs.FewPreimages.{not_many}
use Rattle.config_laws.proofs.Periods.{rounds, IsConfig-rounds, HasPeriod-rounds, RepeatsLeft-period, RepeatsRight-period, HasPeriod-times}

-- under a surjective rule z has the letter of c at a place if it has the letters of c before it, and c and the image of z have one period: else z breaks the period of its image
same_next : {r : LocalRule} {z c : Config} {p : ℕ} → IsRule r → IsSurjective r → IsConfig r.states z → HasPeriod p (image_of r z) → HasPeriod p c
    → (i : ℤ) → ((j : ℤ) → j <ℤ i → z j ≡ c j) → z i ≡ c i
same_next {r} {z} {c} {p} rule every hz image period i before = ⊎_elim (λ e. e) (λ other. absurd (not_many rule every _ (AreMany-moved hz image (record {
  place = i;
  letter = c i;
  other = other;
  before = λ k some.
      before _ (omega (arith, ints, mul-le 1 1 k p some period.some)) ∙ RepeatsLeft-times k p c (i +ℤ pos 1) (RepeatsLeft-period period (i +ℤ pos 1)) i (omega (arith, ints));
}) (node_count r)))) (cases_eq (z i) (c i))

-- under a surjective rule z has the letters of c if it has them before some place, and c and the image of z have one period
same_up_to : {r : LocalRule} {z c : Config} {p : ℕ} → IsRule r → IsSurjective r → IsConfig r.states z → HasPeriod p (image_of r z) → HasPeriod p c
    → (s : ℤ) → ((j : ℤ) → j <ℤ s → z j ≡ c j) → (a : ℕ) (j : ℤ) → j <ℤ (s +ℤ pos a) → z j ≡ c j
same_up_to rule every hz image period s before zero j l = before j (omega (arith, ints))
same_up_to rule every hz image period s before (suc a) j l =
    let up_to = same_up_to rule every hz image period s before a in
    by_lt_z j (s +ℤ pos a) (up_to j) (λ h. same_next rule every hz image period j (λ k g. up_to k (omega (arith, ints))))

-- under a surjective rule a preimage of y has the period of a loop from the loop on, if y has that period
RepeatsRight-loop : {r : LocalRule} {x y : Config} {i : ℤ} {p : ℕ} → IsRule r → IsSurjective r → IsConfig r.states x → image_of r x ≡ y
    → HasPeriod p y → IsLoop r x y i p → RepeatsRight p x (i +ℤ r.offset)
RepeatsRight-loop {r} {x} {y} {i} {p} rule every hx image period h j l = at (j +ℤ pos p) (omega (arith, ints)) ∙ turns.again j ∙ sym (at j l)
  where
    s : ℤ
    s = i +ℤ r.offset

    c : Config
    c = rounds x s p

    turns : HasPeriod p c
    turns = HasPeriod-rounds x s h.some

    one : image_of r (meeting c x s) ≡ y
    one = image_of-meeting r c x i (rounds-loop h (r.width - 1) (omega arith)) (image_of-rounds h period) image

    at : (k : ℤ) → s ≤ℤ k → x k ≡ c k
    at k g =
        let hz : IsConfig r.states (meeting c x s) = IsConfig-meeting (IsConfig-rounds hx h.some s) hx s in
        sym (meeting-right c x s k g) ∙ same_up_to rule every hz (subst (HasPeriod p) (sym one) period) turns s (meeting-left c x s) (suc (unsigned_abs (k -ℤ s))) k (omega (arith, ints))

-- under a surjective rule each preimage of a periodic configuration is periodic, with a period of at most as many periods as there are nodes: a loop far on the left has a period too, so the period of one loop goes back to it
pub HasPeriod-preimage : {r : LocalRule} {x : Config} {p : ℕ} → IsRule r → IsSurjective r → IsConfig r.states x → HasPeriod p (image_of r x)
    → (l : ℕ) × (1 ≤ l) × (l ≤ node_count r) × HasPeriod (l * p) x
HasPeriod-preimage {r} {x} {p} rule every hx period =
    let at : SomeLoop r x (image_of r x) (pos 0) p = loop (pos 0) in
    (at.turns, at.some, at.few, record { some = at.loop.some; again = again at })
  where
    loop : (i : ℤ) → SomeLoop r x (image_of r x) i p
    loop i = some_loop rule hx i p period.some (RepeatsRight-period period i) (λ a l. refl)

    repeats : {i : ℤ} (at : SomeLoop r x (image_of r x) i p) → RepeatsRight (at.turns * p) x (at.place +ℤ r.offset)
    repeats at = RepeatsRight-loop rule every hx refl (HasPeriod-times at.turns at.some period) at.loop

    again : (at : SomeLoop r x (image_of r x) (pos 0) p) (j : ℤ) → x (j +ℤ pos (at.turns * p)) ≡ x j
    again at j =
        let q : ℕ = at.turns * p in
        let before : SomeLoop r x (image_of r x) (j -ℤ pos (node_count r * p) -ℤ r.offset) p = loop (j -ℤ pos (node_count r * p) -ℤ r.offset) in
        let t : ℕ = before.turns * p in
        let moved : RepeatsRight t (λ k. x (k +ℤ pos q)) (before.place +ℤ r.offset) = λ k l.
        let place : k +ℤ pos t +ℤ pos q ≡ k +ℤ pos q +ℤ pos t = omega (arith, ints) in
        ap x place ∙ repeats before (k +ℤ pos q) (omega (arith, ints)) in
        same_right-back (λ k. x (k +ℤ pos q)) x t t (before.place +ℤ r.offset) (at.place +ℤ r.offset) before.loop.some before.loop.some moved (repeats before)
        (λ k l. repeats at k (omega (arith, ints))) j (omega (arith, ints, before.within))

-- a rule is surjective exactly if each preimage of a periodic configuration is periodic
pub IsSurjective-periodic_preimages : {r : LocalRule} → IsRule r → IsSurjective r ↔ HasPeriodicPreimages r
IsSurjective-periodic_preimages {r} rule = (
  λ every x hx (p, period). let (l, some, few, times) = HasPeriod-preimage rule every hx period in (l * p, times),
  λ keeps. (garden_of_eden rule).1 (λ x y h.
      let (z, hz, period, breaks) = broken rule h in
      not_periodic breaks (keeps z hz (length x, period)).1),
)
