-- Words that are repeated, and the runs of a configuration that begin and end at whole periods.
use Rattle.std.proofs.Common.{◌≡◌, ℕ, zero, suc, ◌+◌, ◌-◌, ◌*◌, ◌<◌, List, ◌∷◌, ◌++◌, length, drop, slice_index, ℤ, pos, ◌+ℤ◌, ◌-ℤ◌, neg_ℤ, refl, sym, ap, ap₂, ◌∙◌, arith, length-append, append_assoc, drop-cons, suc-mul, zero-mul, add-mul, append-nil}
use Rattle.word_image.proofs.Common.{repeat, ints, All-nil, All-append, IsWord}
use Rattle.tail_config.proofs.Common.{Config, run, TailConfig, IsTail, cell, cells, run-same, run-append, cells-middle, cells-left, cells-right, RepeatsLeft-times, RepeatsRight-times, cell-left_period, cell-right_period}
use Rattle.tail_preimage.specs.Preimages.{stretch}

-- n copies of a list have n times its letters
pub length-repeat : {X : Type 0} (n : ℕ) (x : List X) → length (repeat n x) ≡ n * length x
length-repeat zero x = sym (zero-mul (length x))
length-repeat (suc n) x = omega (arith, length-append x (repeat n x), length-repeat n x, suc-mul n (length x))

-- copies in a row
pub repeat-add : {X : Type 0} (m n : ℕ) (x : List X) → repeat (m + n) x ≡ repeat m x ++ repeat n x
repeat-add zero n x = ap (λ i. repeat i x) (let e : zero + n ≡ n = omega arith in e)
repeat-add (suc m) n x =
    let next : suc m + n ≡ suc (m + n) = omega arith in
    ap (λ i. repeat i x) next ∙ ap (λ y. x ++ y) (repeat-add m n x) ∙ sym (append_assoc x (repeat m x) (repeat n x))

-- one copy more
pub repeat-more : {X : Type 0} (n : ℕ) (x : List X) → repeat (n + 1) x ≡ repeat n x ++ x
repeat-more n x = repeat-add n 1 x ∙ ap (λ y. repeat n x ++ y) (append-nil x)

-- a word from place n on begins with the letter there
pub drop-first : (w : List ℕ) (n : ℕ) → n < length w → drop n w ≡ slice_index w n ∷ drop (n + 1) w
drop-first w n inside = let more : suc n ≡ n + 1 = omega arith in drop-cons w n 0 inside ∙ ap (λ k. slice_index w n ∷ drop k w) more

-- the last n + 1 letters of a word begin with a letter
pub drop-more : (w : List ℕ) (n : ℕ) → n < length w → drop (length w - (n + 1)) w ≡ slice_index w (length w - 1 - n) ∷ drop (length w - n) w
drop-more w n inside = grind (arith, drop-first)

-- copies of copies
pub repeat-repeat : {X : Type 0} (m n : ℕ) (x : List X) → repeat m (repeat n x) ≡ repeat (m * n) x
repeat-repeat zero n x = ap (λ i. repeat i x) (sym (zero-mul n))
repeat-repeat (suc m) n x = grind (arith, repeat-add, repeat-repeat m n x)

-- copies of a word are a word
pub IsWord-repeat : {k : ℕ} (x : List ℕ) → IsWord k x → (n : ℕ) → IsWord k (repeat n x)
IsWord-repeat {k} x h zero = All-nil (λ a. a < k)
IsWord-repeat {k} x h (suc n) = All-append (λ a. a < k) x (repeat n x) h (IsWord-repeat x h n)

-- how many letters b left periods, the middle and a right periods have
abbrev pub stretch_length : TailConfig → ℕ → ℕ → ℕ
stretch_length t b a = b * length t.left + length t.middle + a * length t.right

pub length-stretch : (t : TailConfig) (b a : ℕ) → length (stretch t b a) ≡ stretch_length t b a
length-stretch t b a = grind (arith, length-append, length-repeat)

-- the letters between b left periods and a right ones are a word
pub IsWord-stretch : {k : ℕ} {t : TailConfig} → IsTail k t → (b a : ℕ) → IsWord k (stretch t b a)
IsWord-stretch {k} {t} h b a =
    All-append (λ c. c < k) (repeat b t.left ++ t.middle) (repeat a t.right)
    (All-append (λ c. c < k) (repeat b t.left) t.middle (IsWord-repeat t.left h.left_word b) h.middle_word) (IsWord-repeat t.right h.right_word a)

-- a run of n periods, each of which is w
run-repeats : (x : Config) (i : ℤ) (n : ℕ) (w : List ℕ) → ((m : ℕ) → m < n → run x (i +ℤ pos (m * length w)) (length w) ≡ w)
    → run x i (n * length w) ≡ repeat n w
run-repeats x i zero w each = ap (run x i) (zero-mul (length w))
run-repeats x i (suc n) w each =
    let p : ℕ = length w in
    let next : n + 1 ≡ suc n = omega arith in
    ap (run x i) (omega arith) ∙ run-append x i (i +ℤ pos (n * p)) (n * p) p refl
    ∙ ap₂ (λ (u v : List ℕ). u ++ v) (run-repeats x i n w (λ m l. each m (omega arith))) (each n (omega arith)) ∙ sym (repeat-more n w) ∙ ap (λ m. repeat m w) next

-- the place at which b left periods before place 0 begin
abbrev pub stretch_start : TailConfig → ℕ → ℤ
stretch_start t b = neg_ℤ (pos (b * length t.left))

-- n left periods that end b periods before place 0
pub cells-lefts : (t : TailConfig) (b n : ℕ) (i : ℤ) → i ≡ stretch_start t (n + b) → cells t i (n * length t.left) ≡ repeat n t.left
cells-lefts t b n i e = run-repeats (cell t) i n t.left (λ m l.
    let p : ℕ = length t.left in
    let c : ℕ = n + b - (m + 1) in
    let split : n + b ≡ suc c + m = omega arith in
    run-same (cell t) (cell t) (i +ℤ pos (m * p)) (neg_ℤ (pos p)) p (λ a g.
    let place : i +ℤ pos (m * p) +ℤ pos a ≡ neg_ℤ (pos p) +ℤ pos a -ℤ pos (c * p) = omega (arith, ints, ap (λ j. j * p) split, add-mul (suc c) m p, suc-mul c p) in
    ap (cell t) place ∙ RepeatsLeft-times c p (cell t) (pos 0) (cell-left_period t) (neg_ℤ (pos p) +ℤ pos a) (omega (arith, ints)))
    ∙ cells-left t)

-- n right periods from a periods after the middle on
pub cells-rights : (t : TailConfig) (a n : ℕ) (i : ℤ) → i ≡ pos (length t.middle + a * length t.right)
    → cells t i (n * length t.right) ≡ repeat n t.right
cells-rights t a n i e = run-repeats (cell t) i n t.right (λ m l.
    let p : ℕ = length t.right in
    let start : ℤ = pos (length t.middle) in
    run-same (cell t) (cell t) (i +ℤ pos (m * p)) start p (λ c g.
    let place : i +ℤ pos (m * p) +ℤ pos c ≡ start +ℤ pos c +ℤ pos ((a + m) * p) = omega (arith, ints, add-mul a m p) in
    ap (cell t) place ∙ RepeatsRight-times (a + m) p (cell t) start (cell-right_period t) (start +ℤ pos c) (omega (arith, ints)))
    ∙ cells-right t)

-- b left periods, the middle and a right periods are a run of the configuration
pub cells-stretch : (t : TailConfig) (b a : ℕ) → cells t (stretch_start t b) (stretch_length t b a) ≡ stretch t b a
cells-stretch t b a =
    let left : ℕ = b * length t.left in
    let m : ℕ = length t.middle in
    let start : ℤ = stretch_start t b in
    run-append (cell t) start (pos m) (left + m) (a * length t.right) (omega (arith, ints))
    ∙ ap₂ (λ (x y : List ℕ). x ++ y)
    (run-append (cell t) start (pos 0) left m (omega (arith, ints)) ∙ ap₂ (λ (x y : List ℕ). x ++ y) (cells-lefts t 0 b start (omega (arith, ints))) (cells-middle t))
    (cells-rights t 0 a (pos m) (omega (arith, ints, zero-mul (length t.right))))
