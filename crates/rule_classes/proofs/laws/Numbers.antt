-- Of rules of one shape the Wolfram numbers are in the order of the tables, read from the greatest window on.
use Rattle.std.proofs.Common.{◌≡◌, ℕ, ◌+◌, ◌-◌, ◌*◌, ◌^◌, ◌<◌, List, length, reverse, take, drop, get_or, sym, ap, ap₂, ◌∙◌, arith, length-drop, length-take-le, take-append-drop, get_or-drop, ext_get_or}
use Rattle.word_image.proofs.Common.{length-reverse, reverse-reverse, reverse-append, All-take, LocalRule, IsRule, IsWord, value, wolfram_number, value-append, value-below, value-injective, IsWord-reverse, rule_from_parts, digits-lt}
use Rattle.rule_text.proofs.laws.Numbers.{value-reverse_drop, wolfram_number-value}

-- rules of one shape and offset with one number are one rule
pub same_number : {f g : LocalRule} → IsRule f → IsRule g → f.states ≡ g.states → f.width ≡ g.width → f.offset ≡ g.offset
    → wolfram_number f ≡ wolfram_number g → f ≡ g
same_number {f} {g} first second states width offset number =
    let long = length-reverse f.table ∙ first.entries ∙ ap₂ (λ (k m : ℕ). k ^ m) states width
    ∙ sym (length-reverse g.table ∙ second.entries) in
    let words : IsWord f.states (reverse g.table) = rw states (IsWord-reverse g.states g.table second.letters) in
    let backwards = value-injective f.states (reverse f.table) (reverse g.table) (IsWord-reverse f.states f.table first.letters) words long
    (sym (wolfram_number-value first) ∙ number ∙ wolfram_number-value second ∙ ap (λ k. value k (reverse g.table)) (sym states)) in
    rule_from_parts states width offset (sym (reverse-reverse f.table) ∙ ap reverse backwards ∙ reverse-reverse g.table)

-- the number of a table, by its letters from the greatest window down to one and by those of the lesser windows
value-split : (k : ℕ) (t : List ℕ) (v : ℕ) → v < length t
    → value k (reverse t) ≡ (value k (reverse (drop (v + 1) t)) * k + get_or t v 0) * k ^ v + value k (reverse (take v t))
value-split k t v l =
    let less : v + 1 - 1 ≡ v = omega arith in
    let here = rw less at (value-reverse_drop k t (v + 1) (omega arith) (omega arith)) in
    let long : length (reverse (take v t)) ≡ v = length-reverse (take v t) ∙ length-take-le v t (omega arith) in
    ap (λ x. value k (reverse x)) (sym (take-append-drop v t)) ∙ ap (value k) (reverse-append (take v t) (drop v t))
    ∙ value-append k (reverse (drop v t)) (reverse (take v t))
    ∙ ap₂ (λ (a n : ℕ). a * k ^ n + value k (reverse (take v t))) here long

-- the table with the lesser letter at the greatest window on which two tables differ has the lesser number
pub value-less : (k : ℕ) (t u : List ℕ) (v : ℕ) → IsWord k t → length t ≡ length u → v < length t
    → ((i : ℕ) → v < i → i < length t → get_or t i 0 ≡ get_or u i 0) → get_or t v 0 < get_or u v 0
    → value k (reverse t) < value k (reverse u)
value-less k t u v word long l same less =
    let rest : drop (v + 1) t ≡ drop (v + 1) u =
    ext_get_or 0 _ _ (omega (arith, length-drop (v + 1) t, length-drop (v + 1) u)) (λ i h. grind (arith, get_or-drop, length-drop)) in
    let fewer = rw (length-reverse (take v t), length-take-le v t (omega arith))
    at (value-below k (reverse (take v t)) (IsWord-reverse k (take v t) (All-take (λ c. c < k) v t word))) in
    rw (value-split k t v l, value-split k u v (omega arith), rest) (digits-lt _ _ _ _ (k ^ v) fewer (omega arith))
