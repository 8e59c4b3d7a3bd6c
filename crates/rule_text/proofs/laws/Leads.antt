-- From the parts of a text to the whole: what its beginning leads to, and where it goes wrong.
use Rattle.std.proofs.Common.{◌≡◌, ℕ, ◌+◌, ◌≤◌, inl, inr, List, [], ◌∷◌, ◌++◌, length, take, drop, get_or, None, refl, sym, ap, subst, ◌∙◌, arith, append_assoc, take-append-drop, length-append, length-take-le, get_or-take, get_or-drop, All, ℤ, codes, unwrap_or, slice_get, get_or-append-add, take-take}
use Rattle.word_image.proofs.Common.{cases_eq, cases_lt, none-some, slice_get-get_or, unwrap_or-slice_get, get_or_past, get_or_append_left, take-append-le, All-append, All-nil, get_or-append_seam, IsHexDigit, IsFormFault, IsFormFault-next, IsFormFault-rest}
use Rattle.rule_text.specs.declared.text_fault.TextFault.{TextFault}
use Rattle.rule_text.specs.declared.text_fault.TextFault.TheVariants as fault
use Rattle.rule_text.specs.declared.head.Kind.{Kind}
use Rattle.rule_text.specs.RuleTexts.{IsDigit, IsDecimal, Said, Says, Bare, IsSaid, IsTextFault, NoForm}
use Rattle.rule_text.specs.Heads.{GoesOver, GoesOverField, GoesOverOffset, LacksField, LacksOffset, IsRuleFormAt, IsNoKind, IsEntries, IsDecimalStop, IsHexStop, colon, entries_of, kind_text, sign}
use Rattle.rule_text.proofs.laws.Parts.{Part, IsCut, Part-after, IsField, IsCut-field, IsCut-signed, IsCut-kind, Field, Signed, Kinds, Tells, AfterStates, saying, Field-lacks, Field-more, Signed-lacks, Signed-more, Kinds-lacks, Kinds-more, row_with}
use Rattle.rule_text.proofs.laws.Heads.{Says-parts, parts-Says, no_colon}

-- the text was gone over up to this place: with what may come after, and with nothing else, it is a text of the grammar
pub record TextLeads (text : List ℕ) (from : ℕ) (After : ℕ → List ℕ → Said → Type 0) : Type 0 where
  pub whole : (y : List ℕ) (s : Said) → After (length (take from text)) y s → Says (take from text ++ y) s
  pub only : (y : List ℕ) (s : Said) → Says (take from text ++ y) s → After (length (take from text)) y s

-- a token more of a text was gone over
TextLeads-part : {text : List ℕ} {from to : ℕ} {X : Type 0} {Token : List ℕ → X → Type 0} {After : X → ℕ → List ℕ → Said → Type 0} → IsCut Token
    → TextLeads text from (Part Token After)
    → (x : List ℕ) (a : X) → Token x a → GoesOver text from to x → TextLeads text to (After a)
TextLeads-part {text} {from} {to} {After = After} cut l x a is over = grind (arith, length-append, append_assoc, Part-after)

-- a text goes wrong where what the beginning leads to doesn't go on
TextLeads-stuck : {text : List ℕ} {from : ℕ} {After : ℕ → List ℕ → Said → Type 0} → TextLeads text from After → (join : List ℕ → List ℕ) (place : ℕ)
    → place ≤ length text
    → ((y : List ℕ) → take place text ++ y ≡ take from text ++ join y) → ((p : ℕ) → (y : List ℕ) × (s : Said) × After p (join y) s)
    → ((p : ℕ) (y : List ℕ) (s : Said) → slice_get y 0 ≡ slice_get text place → ¬ After p (join y) s) → IsFormFault IsSaid text place
TextLeads-stuck {text} l join place within cut more none =
    let next = more _ in
    IsFormFault-next text place within
    (record { more = next.0; whole = (next.1, subst (λ z. Says z next.1) (sym (cut next.0)) (l.whole (join next.0) next.1 next.2)) })
    (λ y same said. none _ y said.0 same (l.only (join y) said.0 (subst (λ z. Says z said.0) (cut y) said.1)))

-- a text was gone over as far as K and its colon
pub TextLeads-states : {text : List ℕ} {to n : ℕ} → GoesOverField text 0 to n → TextLeads text to (AfterStates n)
TextLeads-states {text} {to} {n} h =
    let d = h.digits in
    let x : List ℕ = d ++ codes ":" in
    let is : IsField x n = record { digits = d; decimal = h.decimal; written = refl; value = h.value } in
    let joined : (y : List ℕ) → take to text ++ y ≡ x ++ y = λ y. ap (λ z. z ++ y) h.over in
    let long : length (take to text) ≡ 0 + length x = omega (arith, ap length h.over) in
    record {
      whole = λ y s after. Says-parts _ s (record { token = x; rest = y; meaning = n; is = is; parts = joined y; after = subst (λ p. AfterStates n p y s) long after });
      only = λ y s says. elim (parts-Says (subst (λ z. Says z s) (joined y) says)) [
        | inl bare ↦ absurd (no_colon (x ++ y) bare.0.digits (length d) (ap (λ t. get_or t (length d) 0) (append_assoc d (codes ":") y) ∙ get_or-append_seam d colon y 0))
        | inr f ↦ subst (λ p. AfterStates n p y s) (sym long) (Part-after {After = AfterStates} IsCut-field x n y is f)
      ];
    }

-- a text was gone over as far as M and its colon
pub TextLeads-field : {text : List ℕ} {from to n : ℕ} {After : ℕ → ℕ → List ℕ → Said → Type 0} → TextLeads text from (Field After)
    → GoesOverField text from to n
    → TextLeads text to (After n)
TextLeads-field {text} {from} l h =
    TextLeads-part IsCut-field l (h.digits ++ codes ":") _ (record { digits = h.digits; decimal = h.decimal; written = refl; value = h.value }) (h.over ∙ append_assoc (take from text) h.digits (codes ":"))

-- a text was gone over as far as O and its colon
pub TextLeads-offset : {text : List ℕ} {from to : ℕ} {z : ℤ} {After : ℤ → ℕ → List ℕ → Said → Type 0} → TextLeads text from (Signed After)
    → GoesOverOffset text from to z
    → TextLeads text to (After z)
TextLeads-offset l h =
    TextLeads-part IsCut-signed l (sign h.minus ++ h.digits ++ codes ":") _ (record { minus = h.minus; digits = h.digits; decimal = h.decimal; written = refl; value = h.value }) (h.over ∙ simp append_assoc)

-- a text was gone over as far as a kind
pub TextLeads-kind : {text : List ℕ} {from to k m : ℕ} {o : ℤ} → TextLeads text from (Kinds k m o) → (kd : Kind)
    → GoesOver text from to (kind_text kd)
    → TextLeads text to (Tells k m o kd)
TextLeads-kind l kd over = TextLeads-part IsCut-kind l (kind_text kd) kd refl over

-- the byte with which a text goes on at a place
byte_at : (y text : List ℕ) (place : ℕ) → slice_get y 0 ≡ slice_get text place → get_or y 0 0 ≡ get_or text place 0
byte_at y text place same = sym (unwrap_or-slice_get y 0 0) ∙ ap (λ b. unwrap_or b 0) same ∙ unwrap_or-slice_get text place 0

-- where nothing comes, the text has ended
end_at : (y text : List ℕ) (place : ℕ) → slice_get y 0 ≡ slice_get text place → length y ≡ 0 → length text ≤ place
end_at y text place same empty = elim (cases_lt place (length text)) [
  | inl within ↦ absurd (none-some _ (sym (past y empty) ∙ same ∙ slice_get-get_or text place 0 within))
  | inr end ↦ end
]
  where
    past : (w : List ℕ) → length w ≡ 0 → slice_get w 0 ≡ None
    past [] e = refl
    past (b ∷ w) e = absurd (omega arith)

-- the fault of a form, by another name
named : {text : List ℕ} {f : TextFault} {place : ℕ} → f ≡ fault.Form place → IsFormFault IsSaid text place → IsTextFault text f
named {text} {f} {place} is form = subst (λ (g : TextFault). IsTextFault text g) (sym is) (NoForm place form)

-- a text goes wrong where M or its colon is lacking
pub TextLeads-lacks_field : {text : List ℕ} {from : ℕ} {f : TextFault} {After : ℕ → ℕ → List ℕ → Said → Type 0} → TextLeads text from (Field After)
    → ((n p : ℕ) → (y : List ℕ) × (s : Said) × After n p y s) → IsRuleFormAt text f (LacksField text from) → IsTextFault text f
TextLeads-lacks_field {text} {from} {f} {After} l more (place, is, within, h) =
    named is (TextLeads-stuck l (λ y. h.digits ++ y) place within (λ y. ap (λ x. x ++ y) h.over ∙ append_assoc (take from text) h.digits y)
    (λ p. Field-more {After = After} more p h.digits h.decimal)
    (λ p y s same. Field-lacks {After = After} h.digits y (get_or text place 0) (byte_at y text place same) h.decimal h.longest h.no_colon))

-- a text goes wrong where O or its colon is lacking
pub TextLeads-lacks_offset : {text : List ℕ} {from : ℕ} {e : TextFault} {After : ℤ → ℕ → List ℕ → Said → Type 0} → TextLeads text from (Signed After)
    → ((z : ℤ) (p : ℕ) → (y : List ℕ) × (s : Said) × After z p y s) → IsRuleFormAt text e (LacksOffset text from) → IsTextFault text e
TextLeads-lacks_offset {text} {from} {e} {After} l more (place, is, within, h) =
    let f = h.field in
    let g = sign h.minus in
    let t = take from text in
    named is (TextLeads-stuck l (λ y. g ++ f.digits ++ y) place within
    (λ y. ap (λ x. x ++ y) (f.over ∙ ap (λ x. x ++ f.digits) h.over ∙ append_assoc t g f.digits) ∙ append_assoc t (g ++ f.digits) y)
    (λ p. Signed-more {After = After} more p h.minus f.digits f.decimal)
    (λ p y s same. Signed-lacks {After = After} h.minus f.digits y (get_or text place 0) (byte_at y text place same) f.decimal f.longest f.no_colon
    (λ plain none minus. h.no_sign plain (ap (λ i. get_or text i 0) (sym (f.stays none)) ∙ minus))))

-- a text goes wrong where neither kind comes
pub TextLeads-lacks_kind : {text : List ℕ} {from k m : ℕ} {o : ℤ} {f : TextFault} → TextLeads text from (Kinds k m o)
    → IsRuleFormAt text f (λ place. (place ≡ from) × IsNoKind (get_or text place 0)) → IsTextFault text f
TextLeads-lacks_kind {text} {from} {k} {m} {o} {f} l (place, is, within, at_none) =
    named is (TextLeads-stuck l (λ y. y) place within (λ y. ap (λ j. take j text ++ y) at_none.0) (λ p. Kinds-more k m o p)
    (λ p y s same. Kinds-lacks y (subst IsNoKind (sym (byte_at y text place same)) at_none.1)))

-- what a head leads to is what it says, and it goes wrong where its entries do
pub TextLeads-head : {text : List ℕ} {from k m : ℕ} {z : ℤ} (kd : Kind) (o : ℤ) → o ≡ z → TextLeads text from (Tells k m z kd) → from ≤ length text
    → (IsEntries kd (drop from text) → Says text (saying k m o (entries_of kd (drop from text)) from))
    × ((n : ℕ) → IsFormFault (IsEntries kd) (drop from text) n → IsFormFault IsSaid text (from + n))
TextLeads-head {text} {from} {k} {m} {z} kd o is leads within =
    let l = subst (λ (y : ℤ). TextLeads text from (Tells k m y kd)) (sym is) leads in
    let says : (y : List ℕ) → IsEntries kd y → Says (take from text ++ y) (saying k m o (entries_of kd y) from) = λ y entries.
    l.whole y _ (entries, ap (saying k m o (entries_of kd y)) (sym (length-take-le from text within))) in (
      λ entries. subst (λ x. Says x (saying k m o (entries_of kd (drop from text)) from)) (take-append-drop from text) (says (drop from text) entries),
      λ n f. IsFormFault-rest text from n within (λ y entries. (_, says y entries)) (λ y said. (l.only y said.0 said.1).0) f,
    )

-- the byte after a row
at_seam : (x y : List ℕ) (n : ℕ) → length x ≡ n → get_or (x ++ y) n 0 ≡ get_or y 0 0
at_seam x y n long = let whole : n ≡ length x + 0 = omega arith in ap (λ i. get_or (x ++ y) i 0) whole ∙ get_or-append-add x y 0 0

-- the digits of a number go wrong at the first that may not come
pub IsFormFault-decimal : (digits : List ℕ) (n : ℕ) → IsDecimalStop digits n → IsFormFault (IsDecimal 1 39) digits n
IsFormFault-decimal digits n stop =
    let x = take n digits in
    let long : length x ≡ n = length-take-le n digits stop.within in
    IsFormFault-next digits n stop.within (row_with 39 (omega arith) x (record { digits = stop.before; least = omega arith; most = omega (arith, stop.few) })) (λ y same d.
    let whole = length-append x y in
    let least = d.least in
    let most = d.most in
    elim (cases_eq (length y) 0) [
      | inl none ↦
          let end = end_at y digits n same none in
          elim stop.stop [ inl empty ↦ omega (arith, stop.within) | inr other ↦ omega (arith, other.0) ]
      | inr some ↦
          let digit : IsDigit (get_or digits n 0) = subst IsDigit (at_seam x y n long ∙ byte_at y digits n same) (d.digits n 0 (omega arith)) in
          elim stop.stop [
            | inl empty ↦ let none : get_or digits n 0 ≡ 0 = get_or_past digits n 0 (omega arith) in omega (arith, digit.0)
            | inr other ↦ elim other.1 [ inl full ↦ omega arith | inr no_digit ↦ no_digit digit ]
          ]
    ])

-- the digits of a table go wrong at the first that is no hexadecimal one
pub IsFormFault-hex : (digits : List ℕ) (n : ℕ) → IsHexStop digits n → IsFormFault (All IsHexDigit) digits n
IsFormFault-hex digits n stop =
    let x = take n digits in
    let long : length x ≡ n = length-take-le n digits (omega arith) in
    IsFormFault-next digits n (omega arith) (record { more = []; whole = All-append IsHexDigit x [] stop.before (All-nil IsHexDigit) }) (λ y same all.
    elim (cases_eq (length y) 0) [
      | inl none ↦ omega (arith, end_at y digits n same none)
      | inr some ↦ stop.stop (subst IsHexDigit (at_seam x y n long ∙ byte_at y digits n same) (all n 0 (omega (arith, length-append x y))))
    ])

-- a text that begins with no field is of the bare form, or goes wrong where a row of digits does
pub IsFormFault-bare : (text : List ℕ) (place n : ℕ) → place ≤ length text → LacksField text 0 place → IsFormFault (IsDecimal 1 39) text n
    → IsFormFault IsSaid text n
IsFormFault-bare text place n inside h f =
    let first : take place text ≡ h.digits = h.over in
    let early : place ≤ n = grind (arith, cases_lt, row_with) in
    let no_field : (z : List ℕ) → take place z ≡ take place text → get_or z place 0 ≡ get_or text place 0 → (s : Said) → ¬ Field AfterStates 0 z s = λ z same byte s field.
    let split : z ≡ h.digits ++ drop place z = sym (take-append-drop place z) ∙ ap (λ x. x ++ drop place z) (same ∙ first) in
    let here : place + 0 ≡ place = omega arith in
    let next : get_or (drop place z) 0 0 ≡ get_or text place 0 = get_or-drop place z 0 0 ∙ ap (λ i. get_or z i 0) here ∙ byte in
    Field-lacks {After = AfterStates} h.digits (drop place z) _ next h.decimal h.longest h.no_colon (subst (λ x. Field AfterStates 0 x s) split field) in
    record {
      outside = λ said. elim (parts-Says said.1) [ inl bare ↦ f.outside bare.0 | inr field ↦ no_field text refl refl said.0 field ];
      within = f.within;
      begins = record { more = f.begins.more; whole = (_, Bare _ f.begins.whole) };
      longest = λ m past within longer. elim (parts-Says longer.whole.1) [
        | inl bare ↦ f.longest m past within (record { more = longer.more; whole = bare.0 })
        | inr field ↦
            let x = take m text in
            let wide : length x ≡ m = length-take-le m text within in
            no_field (x ++ longer.more) (take-append-le place x longer.more (omega arith) ∙ take-take place m text (omega arith))
            (get_or_append_left x longer.more 0 place (omega arith) ∙ get_or-take m text place 0 (omega arith)) longer.whole.0 field
      ];
    }
