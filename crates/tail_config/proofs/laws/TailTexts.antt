-- How a text is cut at its bars, and where it leaves the grammar.
use Rattle.std.proofs.lemmas.Grind.{common_steps}
use Rattle.std.proofs.Common.{◌≡◌, ◌≢◌, ◌↔◌, ℕ, zero, suc, ◌+◌, ◌-◌, ◌<◌, ◌≤◌, List, [], ◌∷◌, ◌++◌, length, map, replicate, take, drop, get_or, slice_get, slice_range, codes, Option, None, Some, unwrap_or, All, refl, sym, ap, subst, ◌∙◌, arith, append_assoc, append-nil, length-drop, take-add, take_all, take-append-drop}
use Rattle.std.proofs.lemmas.Option.{slice_get_within}
use Rattle.word_image.proofs.Common.{nat_tests, get_or_past, get_or_from_slice_get, slice_get-get_or, drop-append_seam, unwrap_or-slice_get, All-nil, All-drop, All-head, All-tail, hex_value, lower_digit, IsHexDigit, letter_at, word_text, IsFormFault, IsFormFault-next}
use Rattle.tail_config.specs.Tails.{TailConfig}
use Rattle.tail_config.specs.TailTexts.{Spells, HasParts}
use Rattle.tail_config.specs.TailFaults.{HasForm}
use Rattle.tail_config.specs.TailTextFaults.{IsDigitsEnd, IsBarAfter, LacksBar, IsCut, letters_of, bar}

-- what is some value is its value
some_value : (o : Option ℕ) → o ≢ None → o ≡ Some (unwrap_or o 0)
some_value None other = absurd (other refl)
some_value (Some a) other = refl

-- digits stand for their letters
Spells-letters : (d : List ℕ) → All IsHexDigit d → Spells d (map letter_at d)
Spells-letters [] all = refl
Spells-letters (b ∷ d) all = cc (some_value (hex_value b) (All-head IsHexDigit b d all), Spells-letters d (All-tail IsHexDigit b d all))

-- what stands for letters is their digits
letters-Spells : (d w : List ℕ) → Spells d w → All IsHexDigit d × (map letter_at d ≡ w)
letters-Spells [] [] e = (All-nil IsHexDigit, refl)
letters-Spells [] (a ∷ w) e = absurd (cc)
letters-Spells (b ∷ d) [] e = absurd (cc)
letters-Spells (b ∷ d) (a ∷ w) e = grind (arith, letters-Spells d w cc)

-- a text that is cut into rows of digits stands for their letters
pub HasParts-cut : {text left middle right : List ℕ} → IsCut text left middle right → HasParts text (letters_of left middle right)
HasParts-cut {left = left} {middle = middle} {right = right} cut = grind (arith, Spells-letters)

-- a text that stands for a configuration is cut into the rows of its letters' digits
cut-HasParts : {text : List ℕ} {t : TailConfig} → (p : HasParts text t)
    → IsCut text p.left p.middle p.right × (t ≡ letters_of p.left p.middle p.right)
cut-HasParts {t = t} p =
    let (left, l) = letters-Spells p.left t.left p.left_spells in
    let (middle, m) = letters-Spells p.middle t.middle p.middle_spells in
    let (right, r) = letters-Spells p.right t.right p.right_spells in
    (record { parts = p.parts; left_digits = left; middle_digits = middle; right_digits = right }, rw (l, m, r) refl)

-- the lower-case digits of letters below 16 stand for them
pub Spells-word_text : (w : List ℕ) → All (λ a. a < 16) w → Spells (word_text w) w
Spells-word_text [] all = refl
Spells-word_text (a ∷ w) all =
    let below : a < 16 = All-head (λ a. a < 16) a w all in
    let first : hex_value (lower_digit a) ≡ Some a = grind (arith, nat_tests) in
    cc (first, Spells-word_text w (All-tail (λ a. a < 16) a w all))

-- rows of digits end where no digit follows: two texts that are equal have the same first row, if a bar follows one of them
row_ends : (d e x y : List ℕ) → All IsHexDigit d → All IsHexDigit e → ¬ IsHexDigit (get_or x 0 0) → d ++ x ≡ e ++ bar ∷ y → (d ≡ e) × (x ≡ bar ∷ y)
row_ends [] [] x y hd he stop same = (refl, same)
row_ends [] (b ∷ e) x y hd he stop same = absurd (stop (rw same (All-head IsHexDigit b e he)))
row_ends (a ∷ d) [] x y hd he stop same = let at : a ≡ bar = cc in absurd (All-head IsHexDigit a d hd (ap hex_value at))
row_ends (a ∷ d) (b ∷ e) x y hd he stop same =
    let rest = row_ends d e x y (All-tail IsHexDigit a d hd) (All-tail IsHexDigit b e he) stop cc in (cc, rest.1)

-- the parts of a text, grouped to the right
grouped : (l m r : List ℕ) → l ++ codes "|" ++ m ++ codes "|" ++ r ≡ l ++ bar ∷ (m ++ bar ∷ r)
grouped l m r = simp append_assoc

-- a text is one of at most one configuration
pub HasParts-unique : {text : List ℕ} {t u : TailConfig} → HasParts text t → HasParts text u → t ≡ u
HasParts-unique {t = t} {u = u} p q =
    let a = cut-HasParts p in
    let b = cut-HasParts q in
    let first = row_ends p.left q.left _ _ a.0.left_digits b.0.left_digits (λ digit. digit refl)
    (sym (grouped p.left p.middle p.right) ∙ sym p.parts ∙ q.parts ∙ grouped q.left q.middle q.right) in
    let second : (p.middle ≡ q.middle) × (bar ∷ p.right ≡ bar ∷ q.right) = row_ends p.middle q.middle _ _ a.0.middle_digits b.0.middle_digits (λ digit. digit refl) cc in
    cc (a.1, b.1, first.0, second.0, second.1)

-- n rows of digits with a bar after each, and one more row
abbrev pub Rows : ℕ → List ℕ → Type 0
Rows zero x = All IsHexDigit x
Rows (suc n) x = (d : List ℕ) × (y : List ℕ) × All IsHexDigit d × Rows n y × (x ≡ d ++ bar ∷ y)

-- digits and n bars are n rows and one more
some_rows : (n : ℕ) (d : List ℕ) → All IsHexDigit d → Rows n (d ++ replicate n bar)
some_rows zero d h = rw (append-nil d) h
some_rows (suc n) d h = (d, replicate n bar, h, some_rows n [] (All-nil IsHexDigit), refl)

-- the texts of the grammar that begin with x go on with n rows, a bar after each, and one more row
pub record Leads (n : ℕ) (x : List ℕ) : Type 0 where
  pub on : (y : List ℕ) → HasForm (x ++ y) ↔ Rows n y

-- a text of the grammar has two bars
pub Leads-start : Leads 2 []
Leads-start = record {
  on = λ x. (
    λ (t, p).
        let c = (cut-HasParts p).0 in
        (p.left, p.middle ++ bar ∷ p.right, c.left_digits, (p.middle, p.right, c.middle_digits, c.right_digits, refl), p.parts ∙ grouped p.left p.middle p.right),
    λ (l, _, hl, (m, r, hm, hr, rest), first).
        let parts = first ∙ ap (λ y. l ++ bar ∷ y) rest ∙ sym (grouped l m r) in
        (letters_of l m r, HasParts-cut (record { parts = parts; left_digits = hl; middle_digits = hm; right_digits = hr })),
  );
}

-- the bytes up to a place are those up to an earlier one and those between
take-between : (text y : List ℕ) (start end : ℕ) → start ≤ end → take end text ++ y ≡ take start text ++ (slice_range text start end ++ y)
take-between text y start end h =
    ap (λ n. take n text ++ y) (omega arith) ∙ ap (λ x. x ++ y) (take-add start (end - start) text) ∙ append_assoc (take start text) (slice_range text start end) y

-- the bytes up to a bar are those up to its row, the row and the bar
take-bar : {text : List ℕ} {start place : ℕ} → IsBarAfter text start place → (y : List ℕ)
    → take (place + 1) text ++ y ≡ take start text ++ (slice_range text start place ++ bar ∷ y)
take-bar b y = grind (arith, common_steps, take-between)

-- one row less comes after a bar
pub Leads-bar : {text : List ℕ} {n start place : ℕ} → IsBarAfter text start place → Leads (suc n) (take start text) → Leads n (take (place + 1) text)
Leads-bar b leads = record {
  on = λ y. (
    λ form.
        let (e, z, he, rows, same) = (leads.on _).0 (subst HasForm (take-bar b y) form) in
        grind (arith, row_ends),
    λ rows. subst HasForm (sym (take-bar b y)) ((leads.on _).1 (_, y, b.digits.digits, rows, refl)),
  );
}

-- a text goes wrong after digits if what follows them can't follow
IsFormFault-digits : {text : List ℕ} {n start end : ℕ} → Leads n (take start text) → IsDigitsEnd text start end
    → ((rest : List ℕ) → slice_get rest 0 ≡ slice_get text end → ¬ Rows n (slice_range text start end ++ rest)) → IsFormFault HasForm text end
IsFormFault-digits {text} {n} {start} {end} leads h none =
    let cut = λ (rest : List ℕ). take-between text rest start end h.from in
    IsFormFault-next text end h.within (record { more = replicate n bar; whole = subst HasForm (sym (cut _)) ((leads.on _).1 (some_rows n _ h.digits)) })
    (λ rest same form. none rest same ((leads.on _).0 (subst HasForm (cut rest) form)))

-- no digit follows the last one
no_digit : {text : List ℕ} {start end : ℕ} → IsDigitsEnd text start end → ¬ IsHexDigit (get_or text end 0)
no_digit h digit = grind (arith, get_or_past)

-- a text goes wrong after a row of digits that lacks its bar
pub IsFormFault-row : {text : List ℕ} {n start end : ℕ} → Leads (suc n) (take start text) → LacksBar text start end → IsFormFault HasForm text end
IsFormFault-row {text} {n} {start} {end} leads lacks = IsFormFault-digits leads lacks.digits (λ rest same (e, z, he, _, parts).
    let byte : get_or rest 0 0 ≡ get_or text end 0 = sym (unwrap_or-slice_get rest 0 0) ∙ ap (λ o. unwrap_or o 0) same ∙ unwrap_or-slice_get text end 0 in
    let stop = (row_ends _ e rest z lacks.digits.digits he (subst (λ b. ¬ IsHexDigit b) (sym byte) (no_digit lacks.digits)) parts).1 in
    lacks.other (slice_get_within text end bar (sym same ∙ ap (λ x. slice_get x 0) stop)) (sym byte ∙ ap (λ x. get_or x 0 0) stop))

-- a text goes wrong after the digits of its last row, where more follows
pub IsFormFault-last : {text : List ℕ} {start end : ℕ} → Leads 0 (take start text) → IsDigitsEnd text start end → end < length text
    → IsFormFault HasForm text end
IsFormFault-last {text} {start} {end} leads h inside = IsFormFault-digits leads h (λ rest same all.
    let at : slice_get rest 0 ≡ Some (get_or text end 0) = same ∙ slice_get-get_or text end 0 inside in
    let digits = subst (All IsHexDigit) (drop-append_seam (slice_range text start end) rest) (All-drop IsHexDigit (length (slice_range text start end)) _ all) in
    h.stop inside (subst IsHexDigit (get_or_from_slice_get rest 0 _ 0 at) (digits 0 0 (slice_get_within rest 0 _ at))))

-- a text whose digits after its second bar go on to its end is cut into its three parts
pub IsCut-right : {text : List ℕ} {first second end : ℕ} → IsBarAfter text 0 first → IsBarAfter text (first + 1) second
    → IsDigitsEnd text (second + 1) end
    → length text ≤ end → IsCut text (take first text) (slice_range text (first + 1) second) (slice_range text (second + 1) (length text))
IsCut-right {text} {first} {second} {end} left middle d past =
    let start : first - 0 ≡ first = omega arith in
    let rest : drop (second + 1) text ≡ slice_range text (second + 1) end = sym (take_all (end - (second + 1)) (drop (second + 1) text) (omega (arith, length-drop (second + 1) text))) in
    subst (λ n. IsCut text (take first text) (slice_range text (first + 1) second) (slice_range text (second + 1) n)) (omega arith)
    (subst (λ n. IsCut text (take n text) (slice_range text (first + 1) second) (slice_range text (second + 1) end)) start (record {
      parts = sym (take-append-drop (second + 1) text) ∙ take-bar middle _ ∙ take-bar left _
          ∙ ap (λ x. slice_range text 0 first ++ bar ∷ (slice_range text (first + 1) second ++ bar ∷ x)) rest ∙ sym (grouped _ _ _);
      left_digits = left.digits.digits;
      middle_digits = middle.digits.digits;
      right_digits = d.digits;
    }))
