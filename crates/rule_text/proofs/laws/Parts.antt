-- The grammar of a head part by part: a field, an offset and a kind, and what may come after each.
use Rattle.std.proofs.Common.{◌≡◌, ◌≢◌, ℕ, ◌+◌, ◌≤◌, ◌⊎◌, inl, inr, Bool, true, false, List, [], ◌∷◌, ◌++◌, length, drop, get_or, refl, sym, ap, ap₂, subst, ◌∙◌, arith, append_assoc, append-nil, All, ℤ, codes, get_or-append-add}
use Rattle.word_image.proofs.Common.{cases_order, get_or_append_left, get_or-append_seam, All-nil, All-cons, All-tail, IsHexDigit, Begins}
use Rattle.rule_text.specs.declared.head.Kind.{Kind}
use Rattle.rule_text.specs.declared.head.Kind.TheVariants as kind
use Rattle.rule_text.specs.RuleTexts.{IsDigit, IsDecimal, Entries, Said, decimal_value}
use Rattle.rule_text.specs.Heads.{IsEntries, IsNoKind, colon, entries_of, kind_text, sign, signed}

-- a token, and then what may come after its meaning
pub record Part {X : Type 0} (Token : List ℕ → X → Type 0) (After : X → ℕ → List ℕ → Said → Type 0) (place : ℕ) (text : List ℕ) (said : Said) : Type 0 where
  pub token : List ℕ
  pub rest : List ℕ
  pub meaning : X
  pub is : Token token meaning
  pub parts : text ≡ token ++ rest
  pub after : After meaning (place + length token) rest said

-- a text begins with at most one token, which has one meaning
abbrev pub IsCut : {X : Type 0} → (List ℕ → X → Type 0) → Type 0
IsCut {X} Token = (x y u v : List ℕ) (a b : X) → Token x a → Token y b → x ++ u ≡ y ++ v → (x ≡ y) × (a ≡ b) × (u ≡ v)

-- after a token comes what may come after its meaning
pub Part-after : {X : Type 0} {Token : List ℕ → X → Type 0} {After : X → ℕ → List ℕ → Said → Type 0} {place : ℕ} {said : Said} → IsCut Token
    → (x : List ℕ) (a : X) (y : List ℕ) → Token x a
    → Part Token After place (x ++ y) said → After a (place + length x) y said
Part-after {After = After} {place = place} {said = said} cut x a y is p = grind arith

-- a text of a part says one thing where what comes after does
pub Part-unique : {X : Type 0} {Token : List ℕ → X → Type 0} {After : X → ℕ → List ℕ → Said → Type 0} → IsCut Token
    → ((a : X) (place : ℕ) (y : List ℕ) (s t : Said) → After a place y s → After a place y t → s ≡ t) → (place : ℕ) (x : List ℕ) (s t : Said)
    → Part Token After place x s → Part Token After place x t → s ≡ t
Part-unique {Token = Token} {After = After} cut unique place x s t f g = grind (arith, Part-after)

-- the beginning of a token goes on to a text of the part
Part-more : {X : Type 0} {Token : List ℕ → X → Type 0} {After : X → ℕ → List ℕ → Said → Type 0}
    → ((a : X) (place : ℕ) → (y : List ℕ) × (s : Said) × After a place y s)
    → (place : ℕ) (x e : List ℕ) (a : X) → Token (x ++ e) a → (y : List ℕ) × (s : Said) × Part Token After place (x ++ y) s
Part-more more place x e a is =
    let next = more a (place + length (x ++ e)) in
    (e ++ next.0, next.1, record { token = x ++ e; rest = next.0; meaning = a; is = is; parts = sym (append_assoc x e next.0); after = next.2 })

-- one or two digits and a colon
pub record IsField (text : List ℕ) (n : ℕ) : Type 0 where
  pub digits : List ℕ
  pub decimal : IsDecimal 1 2 digits
  pub written : text ≡ digits ++ codes ":"
  pub value : n ≡ decimal_value digits

-- a sign or none, and then a field
pub record IsSigned (text : List ℕ) (z : ℤ) : Type 0 where
  pub minus : Bool
  pub digits : List ℕ
  pub decimal : IsDecimal 1 2 digits
  pub written : text ≡ sign minus ++ digits ++ codes ":"
  pub value : z ≡ signed minus (decimal_value digits)

-- the byte of a kind
abbrev pub IsKind : List ℕ → Kind → Type 0
IsKind text kd = text ≡ kind_text kd

abbrev pub Field : (ℕ → ℕ → List ℕ → Said → Type 0) → ℕ → List ℕ → Said → Type 0
Field After = Part IsField After

abbrev pub Signed : (ℤ → ℕ → List ℕ → Said → Type 0) → ℕ → List ℕ → Said → Type 0
Signed After = Part IsSigned After

-- what is said with these parts
abbrev pub saying : ℕ → ℕ → ℤ → Entries → ℕ → Said
saying states width offset entries place = record { states = states; width = width; offset = offset; entries = entries; place = place }

-- entries of a kind, and what is said with them
abbrev pub Tells : ℕ → ℕ → ℤ → Kind → ℕ → List ℕ → Said → Type 0
Tells k m o kd place text said = IsEntries kd text × (said ≡ saying k m o (entries_of kd text) place)

-- a kind and its entries
abbrev pub Kinds : ℕ → ℕ → ℤ → ℕ → List ℕ → Said → Type 0
Kinds k m o = Part IsKind (Tells k m o)

-- what may come after K:
abbrev pub AfterStates : ℕ → ℕ → List ℕ → Said → Type 0
AfterStates k = Field (λ m. Signed (λ o. Kinds k m o))

-- two rows of digits with a colon after each are one where their texts are
same_field : (d e y z : List ℕ) → All IsDigit d → All IsDigit e → d ++ colon ∷ y ≡ e ++ colon ∷ z → (d ≡ e) × (y ≡ z)
same_field [] [] y z h g p = (refl, ap (drop 1) p)
same_field [] (b ∷ e) y z h g p = let digit : IsDigit b = g 0 0 (omega arith) in let same = ap (λ x. get_or x 0 0) p in absurd (omega (arith, digit.1))
same_field (a ∷ d) [] y z h g p = let digit : IsDigit a = h 0 0 (omega arith) in let same = ap (λ x. get_or x 0 0) p in absurd (omega (arith, digit.1))
same_field (a ∷ d) (b ∷ e) y z h g p =
    grind (arith, All-tail, (same_field d e y z (All-tail IsDigit a d h) (All-tail IsDigit b e g) (ap (drop 1) p)))

-- a field is one or two digits
pub IsCut-field : IsCut IsField
IsCut-field x y u v a b f g p = grind (arith, same_field, append_assoc, codes)

-- no digits and colon come after too few digits, or after all of them with anything but a colon
colon_lacks : (x y d z : List ℕ) (b : ℕ) → get_or y 0 0 ≡ b → IsDecimal 0 2 x → IsDecimal 1 2 d → (length x ≡ 2) ⊎ ¬ IsDigit b
    → (1 ≤ length x → b ≢ colon) → x ++ y ≢ d ++ colon ∷ z
colon_lacks x y d z b next decimal other longest no_colon parts =
    let at : (i : ℕ) → get_or (x ++ y) i 0 ≡ get_or (d ++ colon ∷ z) i 0 = λ i. ap (λ t. get_or t i 0) parts in
    let here : get_or (x ++ y) (length x + 0) 0 ≡ b = get_or-append-add x y 0 0 ∙ next in
    let there : get_or (d ++ colon ∷ z) (length d) 0 ≡ colon = get_or-append_seam d colon z 0 in
    elim (cases_order (length d) (length x)) [
      | inl same ↦
          let whole : length x + 0 ≡ length d = omega arith in
          no_colon (omega arith) (sym here ∙ at (length x + 0) ∙ ap (λ i. get_or (d ++ colon ∷ z) i 0) whole ∙ there)
      | inr (inl less) ↦
          let byte = sym (get_or_append_left x y 0 (length d) less) ∙ at (length d) ∙ there in
          omega (arith, (decimal.digits (length d) 0 less).1)
      | inr (inr more) ↦
          let whole : length x + 0 ≡ length x = omega arith in
          let byte : b ≡ get_or d (length x) 0 = sym here ∙ at (length x + 0) ∙ ap (λ i. get_or (d ++ colon ∷ z) i 0) whole ∙ get_or_append_left d (colon ∷ z) 0 (length x) more in
          elim longest [ inl two ↦ omega arith | inr none ↦ none (subst IsDigit (sym byte) (other.digits (length x) 0 more)) ]
    ]

-- a text of a field by its digits
pub Field-text : {After : ℕ → ℕ → List ℕ → Said → Type 0} {place : ℕ} {text : List ℕ} {said : Said} (f : Field After place text said)
    → text ≡ f.is.digits ++ colon ∷ f.rest
Field-text f = f.parts ∙ ap (λ t. t ++ f.rest) f.is.written ∙ append_assoc f.is.digits (codes ":") f.rest

-- no field goes on from too few digits, or from all of them with anything but a colon
pub Field-lacks : {After : ℕ → ℕ → List ℕ → Said → Type 0} {place : ℕ} {said : Said} (x y : List ℕ) (b : ℕ) → get_or y 0 0 ≡ b → IsDecimal 0 2 x
    → (length x ≡ 2) ⊎ ¬ IsDigit b → (1 ≤ length x → b ≢ colon) → ¬ Field After place (x ++ y) said
Field-lacks x y b next decimal longest no_colon f = colon_lacks x y f.is.digits f.rest b next decimal f.is.decimal longest no_colon (Field-text f)

-- the row of one zero
pub zero_digit : IsDecimal 1 2 (codes "0")
zero_digit = record { digits = All-cons IsDigit 48 [] (omega arith, omega arith) (All-nil IsDigit); least = omega arith; most = omega arith }

-- the empty row
no_digits : IsDecimal 0 2 []
no_digits = record { digits = All-nil IsDigit; least = omega arith; most = omega arith }

-- a row of few digits goes on to one of at least one
pub row_with : (high : ℕ) → 1 ≤ high → (x : List ℕ) → IsDecimal 0 high x → Begins (IsDecimal 1 high) x
row_with high some [] decimal = record { more = codes "0"; whole = record { digits = zero_digit.digits; least = omega arith; most = omega arith } }
row_with high some (b ∷ x) decimal = record { more = []; whole = rw append-nil (record { digits = decimal.digits; least = omega arith; most = decimal.most }) }

-- each row of at most two digits goes on to a field
pub Field-more : {After : ℕ → ℕ → List ℕ → Said → Type 0} → ((n place : ℕ) → (y : List ℕ) × (s : Said) × After n place y s)
    → (place : ℕ) (x : List ℕ) → IsDecimal 0 2 x → (y : List ℕ) × (s : Said) × Field After place (x ++ y) s
Field-more more place x decimal =
    let r = row_with 2 (omega arith) x decimal in
    Part-more more place x (r.more ++ codes ":") (decimal_value (x ++ r.more)) (record { digits = x ++ r.more; decimal = r.whole; written = sym (append_assoc x r.more (codes ":")); value = refl })

-- two texts after a sign or none are one, or one of them begins with a minus sign
pub same_signed : (a b : Bool) (y z : List ℕ) → sign a ++ y ≡ sign b ++ z
    → ((a ≡ b) × (y ≡ z)) ⊎ ((b ≡ false) × (get_or z 0 0 ≡ 45)) ⊎ ((a ≡ false) × (get_or y 0 0 ≡ 45))
same_signed true true y z p = inl (refl, ap (drop 1) p)
same_signed true false y z p = inr (inl (refl, ap (λ x. get_or x 0 0) (sym p)))
same_signed false true y z p = inr (inr (refl, ap (λ x. get_or x 0 0) p))
same_signed false false y z p = inl (refl, p)

-- no digits begin with a minus sign
no_sign : (d y : List ℕ) → IsDecimal 1 2 d → get_or (d ++ y) 0 0 ≢ 45
no_sign d y decimal minus = grind (arith, get_or_append_left)

-- the text of an offset, and what comes after it
signed_text : (g d y : List ℕ) → (g ++ d ++ codes ":") ++ y ≡ g ++ (d ++ colon ∷ y)
signed_text g d y = append_assoc (g ++ d) (codes ":") y ∙ append_assoc g d (colon ∷ y)

-- an offset is a sign or none, and one or two digits
pub IsCut-signed : IsCut IsSigned
IsCut-signed x y u v a b f g p =
    elim (same_signed f.minus g.minus (f.digits ++ colon ∷ u) (g.digits ++ colon ∷ v)
    (sym (ap (λ t. t ++ u) f.written ∙ signed_text (sign f.minus) f.digits u) ∙ p ∙ ap (λ t. t ++ v) g.written ∙ signed_text (sign g.minus) g.digits v)) [
      | inl same ↦
          let (digits, rest) = same_field f.digits g.digits u v f.decimal.digits g.decimal.digits same.1 in (
            f.written ∙ ap₂ (λ (m : Bool) (d : List ℕ). sign m ++ d ++ codes ":") same.0 digits ∙ sym g.written,
            f.value ∙ ap₂ (λ (m : Bool) (d : List ℕ). signed m (decimal_value d)) same.0 digits ∙ sym g.value,
            rest,
          )
      | inr (inl other) ↦ absurd (no_sign g.digits (colon ∷ v) g.decimal other.1)
      | inr (inr other) ↦ absurd (no_sign f.digits (colon ∷ u) f.decimal other.1)
    ]

-- no offset goes on from a sign or none and too few digits, or all of them with anything but a colon
pub Signed-lacks : {After : ℤ → ℕ → List ℕ → Said → Type 0} {place : ℕ} {said : Said} (minus : Bool) (x y : List ℕ) (b : ℕ) → get_or y 0 0 ≡ b
    → IsDecimal 0 2 x
    → (length x ≡ 2) ⊎ ¬ IsDigit b → (1 ≤ length x → b ≢ colon) → (minus ≡ false → length x ≡ 0 → b ≢ 45)
    → ¬ Signed After place (sign minus ++ x ++ y) said
Signed-lacks minus x y b next decimal longest no_colon unsigned h =
    let d = h.is.digits in
    elim (same_signed minus h.is.minus (x ++ y) (d ++ colon ∷ h.rest) (sym (append_assoc (sign minus) x y) ∙ h.parts ∙ ap (λ t. t ++ h.rest) h.is.written ∙ signed_text (sign h.is.minus) d h.rest)) [
      | inl same ↦ colon_lacks x y d h.rest b next decimal h.is.decimal longest no_colon same.1
      | inr (inl other) ↦ no_sign d (colon ∷ h.rest) h.is.decimal other.1
      | inr (inr other) ↦ begins x decimal (unsigned other.0) other.1
    ]
  where
    begins : (w : List ℕ) → IsDecimal 0 2 w → (length w ≡ 0 → b ≢ 45) → get_or (w ++ y) 0 0 ≢ 45
    begins [] few none minus = none refl (sym next ∙ minus)
    begins (a ∷ w) few none minus = let digit : IsDigit a = few.digits 0 0 (omega arith) in omega (arith, digit.0)

-- each sign and row of at most two digits goes on to an offset
pub Signed-more : {After : ℤ → ℕ → List ℕ → Said → Type 0} → ((z : ℤ) (place : ℕ) → (y : List ℕ) × (s : Said) × After z place y s)
    → (place : ℕ) (minus : Bool) (x : List ℕ) → IsDecimal 0 2 x → (y : List ℕ) × (s : Said) × Signed After place (sign minus ++ x ++ y) s
Signed-more more place minus x decimal =
    let r = row_with 2 (omega arith) x decimal in
    Part-more more place (sign minus ++ x) (r.more ++ codes ":") (signed minus (decimal_value (x ++ r.more)))
    (record { minus = minus; digits = x ++ r.more; decimal = r.whole; written = simp append_assoc; value = refl })

-- the byte of a kind tells it
same_kind : (a b : Kind) (y z : List ℕ) → kind_text a ++ y ≡ kind_text b ++ z → (a ≡ b) × (y ≡ z)
same_kind kind.Table kind.Table y z p = (refl, ap (drop 1) p)
same_kind kind.Table kind.Number y z p = let byte = ap (λ x. get_or x 0 0) p in absurd (omega arith)
same_kind kind.Number kind.Table y z p = let byte = ap (λ x. get_or x 0 0) p in absurd (omega arith)
same_kind kind.Number kind.Number y z p = (refl, ap (drop 1) p)

-- a kind is one byte
pub IsCut-kind : IsCut IsKind
IsCut-kind x y u v a b f g p = let (kd, rest) = same_kind a b u v (ap (λ t. t ++ u) (sym f) ∙ p ∙ ap (λ t. t ++ v) g) in (f ∙ ap kind_text kd ∙ sym g, kd, rest)

-- no entries come after another byte
pub Kinds-lacks : {k m place : ℕ} {o : ℤ} {said : Said} (y : List ℕ) → IsNoKind (get_or y 0 0) → ¬ Kinds k m o place y said
Kinds-lacks y none h = grind arith

-- an empty table may come
pub Kinds-more : (k m : ℕ) (o : ℤ) (place : ℕ) → (y : List ℕ) × (s : Said) × Kinds k m o place y s
Kinds-more k m o place = (codes "t", _, record { token = codes "t"; rest = []; meaning = kind.Table; is = refl; parts = refl; after = (All-nil IsHexDigit, refl) })

-- something may come after M:
pub AfterWidth-more : (k m place : ℕ) → (y : List ℕ) × (s : Said) × Signed (λ o. Kinds k m o) place y s
AfterWidth-more k m place = Signed-more {After = λ o. Kinds k m o} (λ o. Kinds-more k m o) place false [] no_digits
