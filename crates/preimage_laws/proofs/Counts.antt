-- Under a rule that is closing on both sides all configurations have the same number of preimages.
use Rattle.std.proofs.Common.{◌≡◌, ◌≢◌, ℕ, ◌+◌, ◌-◌, ◌<◌, ◌≤◌, ⊎_elim, List, ℤ, pos, ◌+ℤ◌, ◌-ℤ◌, refl, sym, ap, ◌∙◌, subst, arith}
use Rattle.word_image.proofs.Common.{chosen_below, ints, cases_lt, LocalRule, IsRule, node_count, value, word_of, value-node, value-word_of, word_of-value, some_letter}
use Rattle.tail_config.proofs.Common.{Config, IsConfig, IsOpen, zeros, run, image_of, length-run, get_or-run, IsWord-run, DifferAt, differ_at}
use Rattle.garden_laws.proofs.Numbered.{Numbered, numbered}
use Rattle.config_laws.specs.Maps.{Differ}
use Rattle.config_laws.proofs.Joined.{meeting, meeting-left, meeting-right, IsConfig-meeting}
use Rattle.preimage_laws.specs.PreimageCounts.{ArePreimages, IsConstantToOne, HasSeparatedPreimages}
use Rattle.preimage_laws.proofs.Pigeons.{twice_marked}
use Rattle.preimage_laws.proofs.Separated.{IsOpen-separated}
use Rattle.preimage_laws.proofs.Followed.{node_under, Through, AgreeAround, IsFollowed, IsFollowed-open, through_or_not}

-- if runs differ the configurations do
pub Differ-run : (x y : Config) (i : ℤ) (n : ℕ) → run x i n ≢ run y i n → Differ x y
Differ-run x y i n other =
    let d : DifferAt (run x i n) (run y i n) = differ_at (run x i n) (run y i n) (length-run x i n ∙ sym (length-run y i n)) other in
    let within : d.place < n = omega (arith, d.within, length-run x i n) in
    (i +ℤ pos d.place, λ e. d.other (get_or-run x i _ n d.place within refl ∙ e ∙ sym (get_or-run y i _ n d.place within refl)))

-- if some places around 0 are enough, the preimages can be numbered, by the nodes that they have there
preimages_of : {r : LocalRule} {y : Config} → IsRule r → HasSeparatedPreimages r → (n : ℕ) → IsFollowed r y (pos 0) n
    → (d : ℕ) × (xs : ℕ → Config) × ArePreimages r y d xs
preimages_of {r} {y} rule apart n followed = (
  h.count,
  found.0,
  record {
    configs = λ i l. (found.1 i l).0;
    maps = λ i l. (found.1 i l).1;
    differ = λ i j l most. Differ-run (found.0 i) (found.0 j) _ (r.width - 1) (λ e.
        let same : h.at i ≡ h.at j = sym (back i (omega arith)) ∙ ap (value k) (sym (found.1 i (omega arith)).2 ∙ e ∙ (found.1 j most).2) ∙ back j most in
        absurd (omega (arith, sym (h.forth i (omega arith)) ∙ ap h.place same ∙ h.forth j most)));
    all = λ x hx maps.
        let w : List ℕ = node_under r x (pos 0) in
        let is : word_of k (r.width - 1) (value k w) ≡ w = ap (λ l. word_of k l (value k w)) (sym (length-run x _ (r.width - 1))) ∙ word_of-value k w (IsWord-run hx _ (r.width - 1)) in
        let at = h.back (value k w) (value-node r w (IsWord-run hx _ (r.width - 1)) (length-run x _ (r.width - 1))) (x, hx, maps, sym is) in
        let has = found.1 (h.place (value k w)) at.0 in (
          h.place (value k w),
          at.0,
          apart (found.0 (h.place (value k w))) x _ has.0 hx (has.1 ∙ sym maps) (has.2 ∙ ap (word_of k (r.width - 1)) at.1 ∙ is),
        );
  },
)
  where
    k : ℕ
    k = r.states

    P : ℕ → Type 0
    P v = Through r y (pos 0) (word_of k (r.width - 1) v)

    h : Numbered P (node_count r)
    h = numbered P (λ v. through_or_not rule (pos 0) n followed (word_of k (r.width - 1) v)) (node_count r)

    Q : ℕ → Config → Type 0
    Q i x = IsConfig k x × (image_of r x ≡ y) × (node_under r x (pos 0) ≡ word_of k (r.width - 1) (h.at i))

    found : (xs : ℕ → Config) × ((i : ℕ) → i < h.count → Q i (xs i))
    found = chosen_below Config Q h.count zeros (λ i l. let t = (h.holds i l).1 in (t.0, (t.1, t.2, t.3)))

    back : (i : ℕ) → i < h.count → value k (word_of k (r.width - 1) (h.at i)) ≡ h.at i
    back i l = value-word_of k (r.width - 1) (h.at i) (h.holds i l).0

-- preimages of y that have the same node under place i are equal
abbrev pub IsSeparated : LocalRule → Config → ℤ → Type 0
IsSeparated r y i = (x z : Config) → IsConfig r.states x → IsConfig r.states z → image_of r x ≡ y → image_of r z ≡ y → node_under r x i ≡ node_under r z i → x ≡ z

-- if preimages are separated, those with the same node have the same number
pub same_number : {r : LocalRule} {y : Config} {n : ℕ} {xs : ℕ → Config} → ArePreimages r y n xs → (i : ℤ) → IsSeparated r y i
    → (a b : ℕ) → a < n → b < n → node_under r (xs a) i ≡ node_under r (xs b) i → a ≡ b
same_number {r} {y} {n} {xs} are i apart a b first second e =
    ⊎_elim (λ l. absurd (differ a b l second e)) (λ h. ⊎_elim (λ l. absurd (differ b a l first (sym e))) (λ g. omega arith) (cases_lt b a)) (cases_lt a b)
  where
    differ : (c d : ℕ) → c < d → d < n → node_under r (xs c) i ≢ node_under r (xs d) i
    differ c d l most e =
        let at = are.differ c d l most in
        at.1 (ap (λ (x : Config). x at.0) (apart (xs c) (xs d) (are.configs c (omega arith)) (are.configs d most) (are.maps c (omega arith)) (are.maps d most) e))

-- what agrees around a place with y has as many preimages at least
no_fewer : {r : LocalRule} {y z : Config} {d e : ℕ} {xs zs : ℕ → Config} → HasSeparatedPreimages r → (i : ℤ) (n : ℕ) → IsFollowed r z i n
    → AgreeAround i n y z → ArePreimages r y d xs → ArePreimages r z e zs → d ≤ e
no_fewer {r} {y} {z} {d} {e} {xs} {zs} apart i n followed agree first second =
    ⊎_elim (λ less.
    let (a, b, c, order, most, one, two) = twice_marked e (λ a c. node_under r (xs a) i ≡ node_under r (zs c) i) (λ a l. mark a (omega arith)) in
    absurd (omega (arith, same_number first i (λ x w hx hw mx mw. apart x w (i +ℤ r.offset) hx hw (mx ∙ sym mw)) a b (omega arith) (omega arith) (one ∙ sym two))))
    (λ enough. enough) (cases_lt e d)
  where
    mark : (a : ℕ) → a < d → (c : ℕ) × (c < e) × (node_under r (xs a) i ≡ node_under r (zs c) i)
    mark a l =
        let t = followed (xs a) (first.configs a l) (λ j low high. ap (λ (x : Config). x j) (first.maps a l) ∙ agree j low high) in
        let (c, below, is) = second.all t.0 t.1 t.2 in
        (c, below, sym t.3 ∙ ap (λ (x : Config). node_under r x i) (sym is))

-- under a rule that is closing on both sides all configurations have the same number of preimages: of two configurations the left part of one and the right part of the other make one that agrees with both
pub IsConstantToOne-open : {r : LocalRule} → IsRule r → IsOpen r → IsConstantToOne r
IsConstantToOne-open {r} rule closing = (
  (of h0).0,
  λ y hy. subst (λ d. (xs : ℕ → Config) × ArePreimages r y d xs) (omega (arith, same hy h0, same h0 hy)) ((of hy).1, (of hy).2),
)
  where
    apart : HasSeparatedPreimages r
    apart = (IsOpen-separated rule).0 closing

    n : ℕ
    n = (IsFollowed-open rule closing).0

    followed : {y : Config} → IsConfig r.states y → (i : ℤ) → IsFollowed r y i n
    followed {y} hy i = (IsFollowed-open rule closing).1 y i hy

    of : {y : Config} → IsConfig r.states y → (d : ℕ) × (xs : ℕ → Config) × ArePreimages r y d xs
    of hy = preimages_of rule apart n (followed hy (pos 0))

    h0 : IsConfig r.states zeros
    h0 i = some_letter rule

    same : {y z : Config} → (hy : IsConfig r.states y) (hz : IsConfig r.states z) → (of hy).0 ≤ (of hz).0
    same {y} {z} hy hz =
        let x : Config = meeting y z (pos 0) in
        let hx : IsConfig r.states x = IsConfig-meeting hy hz (pos 0) in
        let left : ℤ = pos 0 -ℤ pos (n + 1) in
        let first = no_fewer apart left n (followed hx left) (λ j low high. sym (meeting-left y z (pos 0) j (omega (arith, ints)))) (of hy).2 (of hx).2 in
        let second = no_fewer apart (pos n) n (followed hz (pos n)) (λ j low high. meeting-right y z (pos 0) j (omega (arith, ints))) (of hx).2 (of hz).2 in
        omega (arith, first, second)
