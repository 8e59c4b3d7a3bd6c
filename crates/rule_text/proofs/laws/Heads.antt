-- The texts of the grammar by their parts: each is a row of digits, or a head and its entries.
use Rattle.std.proofs.Common.{◌≡◌, ◌≢◌, ℕ, ◌+◌, ◌⊎◌, inl, inr, Bool, true, false, List, ◌++◌, length, take, drop, get_or, get_or-drop, take-append-drop, refl, sym, ap, subst, ◌∙◌, arith, append_assoc, length-append, All, ℤ, codes}
use Rattle.word_image.proofs.Common.{cases_lt, get_or_past, get_or-append_seam}
use Rattle.rule_text.specs.declared.head.Kind.{Kind}
use Rattle.rule_text.specs.declared.head.Kind.TheVariants as kind
use Rattle.rule_text.specs.RuleTexts.{IsDigit, IsDecimal, IsOffset, Plain, Minus, Entries, Said, Says, Bare, InTable, InNumber, bare, decimal_value}
use Rattle.rule_text.specs.PrintedRules.{head}
use Rattle.rule_text.specs.Heads.{IsEntries, colon, entries_of, kind_text, sign, signed}
use Rattle.rule_text.proofs.laws.Parts.{Field, AfterStates, saying, same_signed, Part-unique, IsCut-field, IsCut-signed, IsCut-kind, Field-text}

-- what a text says, said with parts that are known by other names
pub Says-same : {x text : List ℕ} {a b p states width place : ℕ} {z : ℤ} {entries : Entries} → Says x (saying a b z entries p)
    → x ≡ text → states ≡ a → width ≡ b → p ≡ place → Says text (saying states width z entries place)
Says-same {x = x} {text = text} {a = a} {b = b} {p = p} {states = states} {width = width} {place = place} {z = z} {entries = entries} says whole states_is width_is long =
    grind (arith, saying)

-- an offset is a sign, or none, and digits
record IsOffsetText (o : List ℕ) (z : ℤ) : Type 0 where
  minus : Bool
  digits : List ℕ
  decimal : IsDecimal 1 2 digits
  text : o ≡ sign minus ++ digits
  value : z ≡ signed minus (decimal_value digits)

-- each offset of the grammar is of this form
IsOffsetText-IsOffset : {o : List ℕ} {z : ℤ} → IsOffset o z → IsOffsetText o z
IsOffsetText-IsOffset (Plain digits d) = record { minus = false; digits = digits; decimal = d; text = refl; value = refl }
IsOffsetText-IsOffset (Minus digits d) = record { minus = true; digits = digits; decimal = d; text = refl; value = refl }

-- each sign and row of digits, as the grammar has them, is an offset
IsOffset-signed : (minus : Bool) (digits : List ℕ) → IsDecimal 1 2 digits → IsOffset (sign minus ++ digits) (signed minus (decimal_value digits))
IsOffset-signed true digits d = Minus digits d
IsOffset-signed false digits d = Plain digits d

-- an offset's text after its sign, or after none where it doesn't begin with one, is digits
IsOffset-after : (minus : Bool) (digits : List ℕ) (z : ℤ) → (minus ≡ false → get_or digits 0 0 ≢ 45) → IsOffset (sign minus ++ digits) z
    → IsDecimal 1 2 digits × (signed minus (decimal_value digits) ≡ z)
IsOffset-after minus digits z plain offset = grind (arith, IsOffsetText-IsOffset, same_signed)

-- a text by its sign, or none, and what comes after it
by_sign : (text : List ℕ) (start : ℕ) (minus : Bool) → take start text ≡ sign minus → text ≡ sign minus ++ drop start text
by_sign text start minus over = sym (take-append-drop start text) ∙ ap (λ x. x ++ drop start text) over

-- digits after a sign or none are an offset
pub IsOffset-at : (text : List ℕ) (start : ℕ) (minus : Bool) → take start text ≡ sign minus → IsDecimal 1 2 (drop start text)
    → IsOffset text (signed minus (decimal_value (drop start text)))
IsOffset-at text start minus over decimal =
    subst (λ x. IsOffset x (signed minus (decimal_value (drop start text)))) (sym (by_sign text start minus over)) (IsOffset-signed minus (drop start text) decimal)

-- an offset is digits after a sign or none, and nothing else
pub IsOffset-only : (text : List ℕ) (start : ℕ) (minus : Bool) (z : ℤ) → take start text ≡ sign minus → (minus ≡ false → get_or text start 0 ≢ 45)
    → IsOffset text z
    → IsDecimal 1 2 (drop start text) × (signed minus (decimal_value (drop start text)) ≡ z)
IsOffset-only text start minus z over plain offset =
    let here : start + 0 ≡ start = omega arith in
    IsOffset-after minus (drop start text) z (λ none first. plain none (ap (λ i. get_or text i 0) (sym here) ∙ sym (get_or-drop start text 0 0) ∙ first))
    (subst (λ x. IsOffset x z) (by_sign text start minus over) offset)

-- the parts of a head with its entries are the head and the entries after it
head-parts : (k m o kt y a b c d : List ℕ) → a ≡ k ++ codes ":" → b ≡ m ++ codes ":" → c ≡ o ++ codes ":" → d ≡ kt
    → head k m o kt ++ y ≡ a ++ (b ++ (c ++ (d ++ y)))
head-parts k m o kt y a b c d states width offset kd = rw (states, width, offset, kd) (simp append_assoc)

-- the place where the entries begin, by the parts, is where the head ends
head-place : (k m o kt a b c d : List ℕ) → a ≡ k ++ codes ":" → b ≡ m ++ codes ":" → c ≡ o ++ codes ":" → d ≡ kt
    → length (head k m o kt) ≡ 0 + length a + length b + length c + length d
head-place k m o kt a b c d states width offset kd = rw (states, width, offset, kd) (simp length-append (omega arith))

-- what a head says with entries of its kind
Says-kind : (k m o : List ℕ) (z : ℤ) (kd : Kind) (y : List ℕ) → IsDecimal 1 2 k → IsDecimal 1 2 m → IsOffset o z → IsEntries kd y
    → Says (head k m o (kind_text kd) ++ y) (saying (decimal_value k) (decimal_value m) z (entries_of kd y) (length (head k m o (kind_text kd))))
Says-kind k m o z kind.Table y states width offset entries = InTable k m o y z states width offset entries
Says-kind k m o z kind.Number y states width offset entries = InNumber k m o y z states width offset entries

-- what the parts say, the text says
pub Says-parts : (text : List ℕ) (said : Said) → Field AfterStates 0 text said → Says text said
Says-parts text said k =
    let m = k.after in
    let o = m.after in
    let e = o.after in
    let offset = sign o.is.minus ++ o.is.digits in
    let is = subst (IsOffset offset) (sym o.is.value) (IsOffset-signed o.is.minus o.is.digits o.is.decimal) in
    let whole = k.parts ∙ ap (λ x. k.token ++ x) (m.parts ∙ ap (λ x. m.token ++ x) (o.parts ∙ ap (λ x. o.token ++ x) e.parts)) in
    subst (Says text) (sym e.after.1) (Says-same (Says-kind k.is.digits m.is.digits offset o.meaning e.meaning e.rest k.is.decimal m.is.decimal is e.after.0)
    (head-parts k.is.digits m.is.digits offset (kind_text e.meaning) e.rest k.token m.token o.token e.token k.is.written m.is.written o.is.written e.is ∙ sym whole) k.is.value m.is.value
    (head-place k.is.digits m.is.digits offset (kind_text e.meaning) k.token m.token o.token e.token k.is.written m.is.written o.is.written e.is))

-- a text with a head has the parts of the head
Field-head : (k m o y : List ℕ) (z : ℤ) (kd : Kind) (place : ℕ) → IsDecimal 1 2 k → IsDecimal 1 2 m → IsOffset o z → IsEntries kd y
    → place ≡ length (head k m o (kind_text kd))
    → Field AfterStates 0 (head k m o (kind_text kd) ++ y) (saying (decimal_value k) (decimal_value m) z (entries_of kd y) place)
Field-head k m o y z kd place states width offset entries long =
    let p = IsOffsetText-IsOffset offset in
    grind (arith, codes, head-parts, saying, head-place)

-- each text of the grammar is a row of digits, or has a head
pub parts-Says : {text : List ℕ} {said : Said} → Says text said
    → (IsDecimal 1 39 text × (said ≡ bare (decimal_value text))) ⊎ Field AfterStates 0 text said
parts-Says (Bare digits d) = inl (d, refl)
parts-Says (InTable k m o digits z states width offset all) = inr (Field-head k m o digits z kind.Table _ states width offset all refl)
parts-Says (InNumber k m o digits z states width offset all) = inr (Field-head k m o digits z kind.Number _ states width offset all refl)

-- no digit is a colon
pub no_colon : (x : List ℕ) → All IsDigit x → (i : ℕ) → get_or x i 0 ≢ colon
no_colon x digits i at = grind (arith, cases_lt, get_or_past)

-- a text with a head is no row of digits: it has a colon after one or two
pub no_digits : {text : List ℕ} {said : Said} → All IsDigit text → Field AfterStates 0 text said → ⊥
no_digits {text} digits f =
    no_colon text digits (length f.is.digits) (ap (λ x. get_or x (length f.is.digits) 0) (Field-text f) ∙ get_or-append_seam f.is.digits colon f.rest 0)

-- the grammar gives a text one meaning
pub Says-unique : {text : List ℕ} {s t : Said} → Says text s → Says text t → s ≡ t
Says-unique {text} {s} {t} f g = elim (parts-Says f) [
  | inl a ↦ elim (parts-Says g) [ inl b ↦ a.1 ∙ sym b.1 | inr b ↦ absurd (no_digits a.0.digits b) ]
  | inr a ↦ elim (parts-Says g) [
    | inl b ↦ absurd (no_digits b.0.digits a)
    | inr b ↦ Part-unique IsCut-field (λ k. Part-unique IsCut-field (λ m. Part-unique IsCut-signed (λ o. Part-unique IsCut-kind (λ kd place y s t f g. f.1 ∙ sym g.1)))) 0 text s t a b
  ]
]
