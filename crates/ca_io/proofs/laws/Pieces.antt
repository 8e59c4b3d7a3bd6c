-- How the pieces of an output that a sink takes one after another add up.
use Rattle.std.proofs.Common.{◌≡◌, ◌∙◌, ◌+◌, ◌-◌, ◌≤◌, ℕ, List, ◌++◌, length, take, drop, Option, ap, ap₂, sym, subst, length-drop, take-append-drop, append_assoc, arith}
use Rattle.std.proofs.Math.Seq.{take-add, take-length}
use Rattle.std.proofs.lemmas.List.{drop-drop, drop-take}
use Rattle.std.specs.Io.KnownBytes.{Appends}
use Rattle.std.proofs.KnownBytes.{Appends-trans}

-- the first i + n: the first i, and then the first n of the slice from i on
take-add-slice : (i n : ℕ) (xs : List ℕ) → take (i + n) xs ≡ take i xs ++ take n (take (length xs - i) (drop i xs))
take-add-slice i n xs =
    let whole = subst (λ (k : ℕ). take k (drop i xs) ≡ drop i xs) (length-drop i xs) (take-length (drop i xs)) in
    take-add i n xs ∙ ap (λ (l : List ℕ). take i xs ++ take n l) (sym whole)

-- the first i bytes, and then n of the slice from i on, are the first i + n
pub Appends-slice : (a b c : Option (List ℕ)) (xs : List ℕ) (i n : ℕ) → Appends a b (take i xs)
    → Appends b c (take n (take (length xs - i) (drop i xs))) → Appends a c (take (i + n) xs)
Appends-slice a b c xs i n first then =
    subst (Appends a c) (sym (take-add-slice i n xs)) (Appends-trans a b c _ _ first then)

pub ruleset piece_steps = Appends-slice

-- what follows some bytes past the first n of a buffer, where the buffer is cut anywhere later
pub drop-cut : (n most : ℕ) (given buf : List ℕ) → n ≤ most → (given ++ drop n (take most buf)) ++ drop most buf ≡ given ++ drop n buf
drop-cut n most given buf within =
    let j = most - n in
    let e : n + j ≡ most = omega arith in
    let first : drop n (take most buf) ≡ take j (drop n buf) = subst (λ (k : ℕ). drop n (take k buf) ≡ take j (drop n buf)) e (drop-take n j buf) in
    let second : drop most buf ≡ drop j (drop n buf) = ap (λ (k : ℕ). drop k buf) (sym e) ∙ sym (drop-drop j n buf) in
    append_assoc given (drop n (take most buf)) (drop most buf)
    ∙ ap (λ x. given ++ x) (ap₂ (λ (x y : List ℕ). x ++ y) first second ∙ take-append-drop j (drop n buf))
