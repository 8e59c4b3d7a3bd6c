-- The prefixes that begin a text of a grammar, whatever the grammar is.
use Rattle.std.proofs.Common.{◌≡◌, ℕ, ◌+◌, ◌-◌, ◌<◌, ◌≤◌, List, [], ◌∷◌, ◌++◌, length, take, drop, get_or, inl, inr, sym, ap, subst, ◌∙◌, arith, append_assoc, append-nil, take-append-drop, length-drop, take-add, slice_get, take-take, take_all}
use Rattle.std.proofs.lemmas.Bool.{cases_order, cases_lt}
use Rattle.std.proofs.lemmas.Option.{slice_get-get_or, slice_get_past}
use Rattle.std.proofs.lemmas.List.{take_more}
use Rattle.word_image.specs.Grammars.{Begins, IsFormFault}

-- a prefix of what begins a text begins it too
pub Begins-prefix : {IsText : List ℕ → Type 0} (x y : List ℕ) → Begins IsText (x ++ y) → Begins IsText x
Begins-prefix {IsText} x y b = record { more = y ++ b.more; whole = subst IsText (append_assoc x y b.more) b.whole }

-- a text goes wrong at one place
pub IsFormFault-unique : {IsText : List ℕ → Type 0} {text : List ℕ} {p q : ℕ} → IsFormFault IsText text p → IsFormFault IsText text q → p ≡ q
IsFormFault-unique {p = p} {q = q} f g = grind (arith, cases_order)

-- a shorter prefix of a prefix that begins a text begins it too
Begins-take : {IsText : List ℕ → Type 0} (text : List ℕ) (i n : ℕ) → i ≤ n → Begins IsText (take n text) → Begins IsText (take i text)
Begins-take {IsText} text i n h begins =
    let cut = sym (take-append-drop i (take n text)) ∙ ap (λ x. x ++ drop i (take n text)) (take-take i n text h) in
    Begins-prefix (take i text) (drop i (take n text)) (subst (Begins IsText) cut begins)

-- a text goes wrong after a prefix that begins some text of the grammar, where no text of the grammar goes on with its next byte
pub IsFormFault-stuck : {IsText : List ℕ → Type 0} (text : List ℕ) (place : ℕ) → place ≤ length text → Begins IsText (take place text)
    → (place < length text → ¬ Begins IsText (take (place + 1) text)) → (length text ≤ place → ¬ IsText text) → IsFormFault IsText text place
IsFormFault-stuck {IsText} text place within begins stuck unfinished = record {
  outside = λ whole. elim (cases_lt place (length text)) [
    | inl more ↦ stuck more (record { more = drop (place + 1) text; whole = subst IsText (sym (take-append-drop (place + 1) text)) whole })
    | inr end ↦ unfinished end whole
  ];
  within = within;
  begins = begins;
  longest = λ n past inside longer. stuck (omega arith) (Begins-take text (place + 1) n (omega arith) longer);
}

-- a text goes wrong where no text of the grammar goes on as it does: with its next byte, or with its end
pub IsFormFault-next : {IsText : List ℕ → Type 0} (text : List ℕ) (place : ℕ) → place ≤ length text → Begins IsText (take place text)
    → ((rest : List ℕ) → slice_get rest 0 ≡ slice_get text place → ¬ IsText (take place text ++ rest)) → IsFormFault IsText text place
IsFormFault-next {IsText} text place within begins none =
    let b = get_or text place 0 in
    IsFormFault-stuck text place within begins
    (λ more longer.
    let cut = ap (λ x. x ++ longer.more) (take_more text place 0 more) ∙ append_assoc (take place text) (b ∷ []) longer.more in
    none (b ∷ longer.more) (sym (slice_get-get_or text place 0 more)) (subst IsText cut longer.whole))
    (λ end whole. none [] (sym (slice_get_past text place end)) (subst IsText (sym (append-nil (take place text) ∙ take_all place text end)) whole))

-- where the rest of a text goes wrong, the text does
pub IsFormFault-rest : {IsText IsRest : List ℕ → Type 0} (text : List ℕ) (i n : ℕ) → i ≤ length text
    → ((rest : List ℕ) → IsRest rest → IsText (take i text ++ rest)) → ((rest : List ℕ) → IsText (take i text ++ rest) → IsRest rest)
    → IsFormFault IsRest (drop i text) n → IsFormFault IsText text (i + n)
IsFormFault-rest {IsText} text i n inside whole only f =
    let rest = drop i text in
    let left = length-drop i text in
    let cut : (m : ℕ) (more : List ℕ) → take (i + m) text ++ more ≡ (take i text) ++ (take m rest ++ more) = grind (arith, take-add, append_assoc) in
    record {
      outside = λ text_is. f.outside (only rest (subst IsText (sym (take-append-drop i text)) text_is));
      within = omega arith;
      begins = record { more = f.begins.more; whole = subst IsText (sym (cut n f.begins.more)) (whole _ f.begins.whole) };
      longest = λ m past within longer.
          let there = subst IsText (ap (λ j. take j text ++ longer.more) (omega arith) ∙ cut (m - i) longer.more) longer.whole in
          f.longest (m - i) (omega arith) (omega arith) (record { more = longer.more; whole = only _ there });
    }
