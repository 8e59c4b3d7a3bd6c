-- Under a surjective rule no more configurations than there are nodes have one image (Hedlund 1969).
use Rattle.std.proofs.Common.{ℕ, zero, suc, ◌+◌, ◌-◌, ◌<◌, ◌≤◌, ⊎_elim, List, ℤ, pos, ◌-ℤ◌, neg_ℤ, unsigned_abs, sym, ap, ◌∙◌, subst, arith}
use Rattle.word_image.proofs.Common.{cases_eq, ints, LocalRule, IsRule, node_count, IsPreimage, IsSurjective}
use Rattle.garden_laws.proofs.Injections.{injective-le}
use Rattle.garden_laws.proofs.CountedPreimages.{counted, count_of}
use Rattle.garden_laws.proofs.Balance.{count_of-surjective}
use Rattle.tail_config.proofs.Common.{Config, run, image_of, IsWord-run, same-run, at_run}
use Rattle.config_laws.specs.Maps.{Differ, AreMany}
use Rattle.config_laws.proofs.Images.{IsConfig-image, IsPreimage-run}

-- what holds of each number below k from some bound on holds of all of them from one bound on
pub common : (Q : ℕ → ℕ → Type 0) (k : ℕ) → ((a : ℕ) → a < k → (n : ℕ) × ((b : ℕ) → n ≤ b → Q a b))
    → (n : ℕ) × ((b : ℕ) → n ≤ b → (a : ℕ) → a < k → Q a b)
common Q zero each = (0, λ b h a l. absurd (omega arith))
common Q (suc k) each =
    let (m, rest) = common Q k (λ a l. each a (omega arith)) in
    let (n, last) = each k (omega arith) in
    (m + n, λ b h a l. ⊎_elim (λ e. subst (λ x. Q x b) (sym e) (last b (omega arith))) (λ other. rest b (omega arith) a (omega arith)) (cases_eq a k))

-- two configurations differ within b places around place 0
abbrev pub DifferWithin : ℕ → Config → Config → Type 0
DifferWithin b x y = (d : Differ x y) × (unsigned_abs d.0 ≤ b)

-- the configurations 0 to n of a sequence differ within some b places around place 0
pub differ_within : {r : LocalRule} {n : ℕ} {xs : ℕ → Config} → AreMany r n xs
    → (b : ℕ) × ((j : ℕ) → j < suc n → (i : ℕ) → i < j → DifferWithin b (xs i) (xs j))
differ_within {r} {n} {xs} many =
    let (b, apart) = common (λ j b. (i : ℕ) → i < j → DifferWithin b (xs i) (xs j)) (suc n) (λ j most.
    common (λ i b. DifferWithin b (xs i) (xs j)) j (λ i less. let d = many.differ i j less (omega arith) in (unsigned_abs d.0, λ b h. (d, h)))) in
    (b, apart b (omega arith))

-- under a surjective rule no more configurations than there are nodes have one image: runs of them that reach far enough are different preimages of one word
pub not_many : {r : LocalRule} → IsRule r → IsSurjective r → (xs : ℕ → Config) → ¬ AreMany r (node_count r) xs
not_many {r} rule every xs many =
    let (b, apart) = differ_within many in
    let s : ℤ = neg_ℤ (pos b) in
    let l : ℕ = b + b + 1 in
    let w : List ℕ = run (image_of r (xs 0)) (s -ℤ r.offset) l in
    let c = counted r w in
    let z : ℕ → List ℕ = λ i. run (xs i) s (l + (r.width - 1)) in
    let is : (i : ℕ) → IsPreimage r w (z i) = λ i.
    subst (λ (x : Config). IsPreimage r (run x (s -ℤ r.offset) l) (z i)) (many.one_image i) (IsPreimage-run rule (many.configs i) (s -ℤ r.offset) s l (omega (arith, ints))) in
    let more = injective-le (suc (node_count r)) (count_of r w) (λ i. c.place (z i)) (λ i h. (c.back (z i) (is i)).0) (λ i j less last same.
    let (d, near) = apart j last i less in
    d.1 (at_run (xs i) (xs j) s (l + (r.width - 1)) (same-run (xs i) (xs j) s s (l + (r.width - 1)) (sym (c.back (z i) (is i)).1 ∙ ap c.at same ∙ (c.back (z j) (is j)).1)) d.0 (omega (arith, ints)) (omega (arith, ints)))) in
    omega (arith, more, count_of-surjective rule every w (IsWord-run (IsConfig-image rule (xs 0)) (s -ℤ r.offset) l))
