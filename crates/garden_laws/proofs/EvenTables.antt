-- Under a surjective rule each letter stands in the table equally often: its places are the words of which it is the image, by their values.
use Rattle.std.proofs.Common.{◌≡◌, ℕ, zero, suc, ◌+◌, ◌-◌, ◌*◌, ◌^◌, ◌<◌, ◌≤◌, List, [], ◌∷◌, length, take, slice_index, get_or, count_by, Bool, sym, ap, ◌∙◌, ⊎_elim, arith, mul_comm, ◌==◌, eq-eqb, take_all}
use Rattle.word_image.proofs.Common.{from_bool, cases_Bool, Decides-eqb, All-cons, All-nil, count_by_more_yes, count_by_more_no, LocalRule, IsRule, value, node_count, image, IsSurjective, windows-nodes}
use Rattle.pair_laws.proofs.Common.{image-window}
use Rattle.garden_laws.specs.Tables.{IsEven}
use Rattle.garden_laws.specs.ZeroPairs.{count_below}
use Rattle.garden_laws.proofs.Counts.{count_below-none, count_below-more}
use Rattle.garden_laws.proofs.TestedWords.{count_below-image}

-- how many of the first n letters of a list pass a test, by their places
count_below-places : (p : ℕ → Bool) (xs : List ℕ) (n : ℕ) → n ≤ length xs → count_below (λ v. p (slice_index xs v)) n ≡ count_by p (take n xs)
count_below-places p xs zero few = count_below-none (λ v. p (slice_index xs v))
count_below-places p xs (suc n) few =
    let at : ℕ → Bool = λ v. p (slice_index xs v) in
    let less : n < length xs = omega arith in
    let one : suc n ≡ n + 1 = omega arith in
    let before : count_below at n ≡ count_by p (take n xs) = count_below-places p xs n (omega arith) in
    ap (count_below at) one ∙ count_below-more at n
    ∙ ⊎_elim
    (λ yes. omega (arith, before, ap from_bool yes, count_by_more_yes p xs n 0 less yes))
    (λ no. omega (arith, before, ap from_bool no, count_by_more_no p xs n 0 less no))
    (cases_Bool (at n))
    ∙ ap (λ i. count_by p (take i xs)) (sym one)

-- under a surjective rule each letter stands in the table equally often
pub IsEven-surjective : {r : LocalRule} → IsRule r → IsSurjective r → IsEven r.states r.table
IsEven-surjective {r} rule every a letter =
    let k : ℕ = r.states in
    let n : ℕ = length r.table in
    let is : ℕ → Bool = λ b. b == a in
    let size : k ^ (1 + (r.width - 1)) ≡ n = ap (λ i. k ^ i) (omega arith) ∙ sym rule.entries in
    let places : count_below (λ v. is (slice_index r.table v)) (k ^ (1 + (r.width - 1))) ≡ node_count r =
    count_below-image rule every (a ∷ []) (All-cons (λ b. b < k) a [] letter (All-nil (λ b. b < k))) (λ v. is (slice_index r.table v)) (λ x word long.
    let given : image r x ≡ slice_index r.table (value k x) ∷ [] = image-window rule x long in (
      λ yes. given ∙ ap (λ b. b ∷ []) ((Decides-eqb (slice_index r.table (value k x)) a).0 yes),
      λ maps. eq-eqb (slice_index r.table (value k x)) a (ap (λ w. get_or w 0 0) (sym given ∙ maps)),
    )) in
    let often : count_by is r.table ≡ node_count r =
    ap (count_by is) (sym (take_all n r.table (omega arith))) ∙ sym (count_below-places is r.table n (omega arith)) ∙ ap (count_below (λ v. is (slice_index r.table v))) (sym size) ∙ places in
    ap (λ i. k * i) often ∙ mul_comm k (node_count r) ∙ sym (rule.entries ∙ windows-nodes rule)
