-- Orders of words, letter pairs and lists of these: what isn't greater, and what comes no later.
use Rattle.std.proofs.Common.{◌≡◌, ◌≢◌, ℕ, ◌<◌, ◌≤◌, ◌↔◌, List, [], ◌∷◌, ◌++◌, length, map, All, false, refl, ap, ap₂, ◌∙◌, subst, arith, sym, nat_cmp, is_gt, Ordering, Less, Equal, Greater}
use Rattle.std.specs.Ordering.{ordering_then, ordering_reverse, MatchOrdering}
use Rattle.std.specs.Cmp.{IsTotalOrder, nat_cmp_is}
use Rattle.std.proofs.lemmas.List.Elements.{All-head, All-tail}
use Rattle.std.proofs.lemmas.Cmp.{then_total, on_total, lists_total, nat_cmp_total, ranked, tied_itself, nat_list_cmp_total}
use Rattle.std.specs.Cmp.Lexicographic.{slice_cmp}
use Rattle.word_image.specs.Words.{word_cmp}
use Rattle.word_image.specs.Rings.{pair_cmp, pairs_cmp}

-- two comparisons in turn aren't greater where the first isn't, and where it is equal the second isn't
pub then_not_greater : (a b : Ordering) → a ≢ Greater → (a ≡ Equal → b ≢ Greater) → ordering_then a b ≢ Greater
then_not_greater Less b first second = first
then_not_greater Equal b first second = second refl
then_not_greater Greater b first second = first

-- what isn't greater, as a test
pub not_greater : (o : Ordering) → o ≢ Greater → is_gt o ≡ false
not_greater Less other = refl
not_greater Equal other = refl
not_greater Greater other = absurd (other refl)

-- a number that isn't more isn't greater
pub nat_cmp-le : (m n : ℕ) → m ≤ n → nat_cmp m n ≢ Greater
nat_cmp-le m n l e = let above : n < m = subst (λ o. MatchOrdering o (m < n) (m ≡ n) (n < m)) e (ranked m n (nat_cmp m n) refl) in omega arith

-- numbers that compare equal are equal
pub nat_cmp-equal : (m n : ℕ) → nat_cmp m n ≡ Equal → m ≡ n
nat_cmp-equal m n e = subst (λ o. MatchOrdering o (m < n) (m ≡ n) (n < m)) e (ranked m n (nat_cmp m n) refl)

-- two orderings in turn, the first of two numbers
key_by : (m n : ℕ) (first rest : Ordering) → MatchOrdering first (m < n) (m ≡ n) (n < m)
    → (ordering_then first rest ≢ Greater) ↔ ((m ≤ n) × (m ≡ n → rest ≢ Greater))
key_by m n Less rest l = (λ _. (omega arith, λ e. absurd (omega arith)), λ _ e. cc)
key_by m n Equal rest same = (λ h. (omega arith, λ _. h), λ h. h.1 same)
key_by m n Greater rest l = (λ h. absurd (h refl), λ h. absurd (omega (arith, h.0)))

-- a number and then the rest aren't greater exactly where the number isn't more, and where it is the same the rest isn't greater
pub key_not_greater : (m n : ℕ) (rest : Ordering) → (ordering_then (nat_cmp m n) rest ≢ Greater) ↔ ((m ≤ n) × (m ≡ n → rest ≢ Greater))
key_not_greater m n rest = key_by m n (nat_cmp m n) rest (ranked m n (nat_cmp m n) refl)

-- a number and then the rest are in the order of two numbers that rise with the first
number_by : (a b m n : ℕ) (first rest : Ordering) → MatchOrdering first (a < b) (a ≡ b) (b < a) → (a < b → m < n) → (a ≡ b → rest ≡ nat_cmp m n)
    → (b < a → n < m) → ordering_then first rest ≡ nat_cmp m n
number_by a b m n Less rest l less same more = nat_cmp_is m n Less (less l)
number_by a b m n Equal rest e less same more = same e
number_by a b m n Greater rest l less same more = nat_cmp_is m n Greater (more l)

pub key_number : (a b m n : ℕ) (rest : Ordering) → (a < b → m < n) → (a ≡ b → rest ≡ nat_cmp m n) → (b < a → n < m)
    → ordering_then (nat_cmp a b) rest ≡ nat_cmp m n
key_number a b m n rest = number_by a b m n (nat_cmp a b) rest (ranked a b (nat_cmp a b) refl)

-- three orderings in turn
pub then_assoc : (a b c : Ordering) → ordering_then (ordering_then a b) c ≡ ordering_then a (ordering_then b c)
then_assoc Equal b c = refl
then_assoc _ b c = refl

-- lists are compared by their beginnings, and then by what follows
pub slice_cmp-append : {K : Type 0} (R : K → K → Ordering) (a b c d : List K) → length a ≡ length c
    → slice_cmp R (a ++ b) (c ++ d) ≡ ordering_then (slice_cmp R a c) (slice_cmp R b d)
slice_cmp-append R [] b [] d e = refl
slice_cmp-append R (x ∷ a) b (y ∷ c) d e = ap (ordering_then (R x y)) (slice_cmp-append R a b c d (omega arith)) ∙ sym (then_assoc (R x y) (slice_cmp R a c) (slice_cmp R b d))
slice_cmp-append R _ b _ d e = absurd (omega arith)

-- lists of items that stand for others are in dictionary order as these are
pub slice_cmp-map : {K L : Type 0} (R : K → K → Ordering) (S : L → L → Ordering) (f : K → L) (P : K → Type 0)
    → ((a b : K) → P a → P b → S (f a) (f b) ≡ R a b) → (x y : List K) → All P x → All P y
    → slice_cmp S (map f x) (map f y) ≡ slice_cmp R x y
slice_cmp-map R S f P each (a ∷ x) (b ∷ y) h g =
    ap₂ ordering_then (each a b (All-head P a x h) (All-head P b y g)) (slice_cmp-map R S f P each x y (All-tail P a x h) (All-tail P b y g))
slice_cmp-map R S f P each [] [] h g = refl
slice_cmp-map R S f P each [] (b ∷ y) h g = refl
slice_cmp-map R S f P each (a ∷ x) [] h g = refl

-- in a total order what comes no later than y comes no later than what y comes no later than
pub no_later : {K : Type 0} {R : K → K → Ordering} → IsTotalOrder R → (x y z : K) → R x y ≢ Greater → R y z ≢ Greater → R x z ≢ Greater
no_later {R = R} order x y z first second greater = grind (arith, is_gt, not_greater)

-- in a total order y comes no later than x, where x doesn't come before y
pub not_before : {K : Type 0} {R : K → K → Ordering} → IsTotalOrder R → (x y : K) → R x y ≢ Less → R y x ≢ Greater
not_before {R = R} order x y other greater = other (order.antisymm x y ∙ ap ordering_reverse greater)

-- what isn't greater either way is equal
not_both_greater : (a b : Ordering) → b ≡ ordering_reverse a → a ≢ Greater → b ≢ Greater → a ≡ Equal
not_both_greater Less b e h g = absurd (g e)
not_both_greater Equal b e h g = refl
not_both_greater Greater b e h g = absurd (h refl)

-- in a total order two of which neither is greater are tied
pub tied : {K : Type 0} {R : K → K → Ordering} → IsTotalOrder R → (x y : K) → R x y ≢ Greater → R y x ≢ Greater → R x y ≡ Equal
tied {R = R} order x y = not_both_greater (R x y) (R y x) (order.antisymm y x)

-- letter pairs are in a total order
pub pair_cmp_total : IsTotalOrder pair_cmp
pair_cmp_total = then_total (on_total (λ (p : ℕ × ℕ). p.0) nat_cmp_total) (on_total (λ (p : ℕ × ℕ). p.1) nat_cmp_total)

-- words are in a total order
pub word_cmp_total : IsTotalOrder word_cmp
word_cmp_total = then_total (on_total (λ (w : List ℕ). length w) nat_cmp_total) nat_list_cmp_total

-- lists of letter pairs are in a total order
pub pairs_cmp_total : IsTotalOrder pairs_cmp
pairs_cmp_total = then_total (on_total (λ (w : List (ℕ × ℕ)). length w) nat_cmp_total) (lists_total pair_cmp_total)

-- words that are equal compare equal
pub slice_cmp-same : (x y : List ℕ) → x ≡ y → slice_cmp nat_cmp x y ≡ Equal
slice_cmp-same x y e = ap (slice_cmp nat_cmp x) (sym e) ∙ tied_itself nat_list_cmp_total x
