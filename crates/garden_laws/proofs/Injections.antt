-- Numbers that are mapped one to one, and sums part by part.
use Rattle.std.proofs.Common.{◌≡◌, ◌≢◌, ◌⊎◌, ℕ, zero, suc, ◌+◌, ◌*◌, ◌/◌, ◌%◌, ◌<◌, ◌≤◌, inl, inr, sym, subst, ⊎_elim, arith, mod-lt}
use Rattle.word_image.proofs.Common.{cases_eq, cases_lt, div_below, twice_below}

-- a number is less than another, or it isn't
pub less_or_not : (a b : ℕ) → (a < b) ⊎ ¬ (a < b)
less_or_not a b = ⊎_elim (λ l. inl l) (λ l. inr (λ h. omega arith)) (cases_lt a b)

-- numbers below a that are mapped one to one to numbers below b are no more than those
pub injective-le : (a b : ℕ) (f : ℕ → ℕ) → ((i : ℕ) → i < a → f i < b) → ((i j : ℕ) → i < j → j < a → f i ≢ f j) → a ≤ b
injective-le a b f below apart =
    ⊎_elim
    (λ more. let (i, j, less, last, same) = twice_below b f (λ i l. below i (omega arith)) in absurd (apart i j less (omega (arith, last)) same))
    (λ enough. enough)
    (cases_lt b a)

-- pairs of a number below a and one below e that are mapped one to one to numbers below b are no more than those
pub pairs-le : (a e b : ℕ) (f : ℕ → ℕ → ℕ) → ((u i : ℕ) → u < a → i < e → f u i < b)
    → ((u v i j : ℕ) → u < a → v < a → i < e → j < e → f u i ≡ f v j → (u ≡ v) × (i ≡ j)) → a * e ≤ b
pairs-le a zero b f below apart = omega arith
pairs-le a (suc e) b f below apart =
    let some : 0 < suc e = omega arith in
    let row : (t : ℕ) → t < a * suc e → t / suc e < a = λ t l. div_below t (suc e) a some l in
    injective-le (a * suc e) b (λ t. f (t / suc e) (t % suc e)) (λ t l. below (t / suc e) (t % suc e) (row t l) (mod-lt t some)) (grind arith)

-- of two sums with as many parts, part by part, the one with the lesser parts is no greater, and if it is no less then no part is
pub parts-le : (f g sum_f sum_g : ℕ → ℕ) (n : ℕ) → ((i : ℕ) → i < n → sum_f (suc i) ≡ sum_f i + f i)
    → ((i : ℕ) → i < n → sum_g (suc i) ≡ sum_g i + g i)
    → sum_f 0 ≡ sum_g 0 → ((i : ℕ) → i < n → f i ≤ g i) → (sum_f n ≤ sum_g n) × (sum_g n ≤ sum_f n → (i : ℕ) → i < n → g i ≤ f i)
parts-le f g sum_f sum_g zero of_f of_g start least = (omega arith, λ e i l. absurd (omega arith))
parts-le f g sum_f sum_g (suc n) of_f of_g start least =
    let (less, all) = parts-le f g sum_f sum_g n (λ i l. of_f i (omega arith)) (λ i l. of_g i (omega arith)) start (λ i l. least i (omega arith)) in
    (omega arith, λ e i l. ⊎_elim (λ is. subst (λ j. g j ≤ f j) (sym is) (omega arith)) (λ other. all (omega arith) i (omega arith)) (cases_eq i n))
