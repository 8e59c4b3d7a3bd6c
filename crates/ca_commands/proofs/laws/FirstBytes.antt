-- The first place of a byte in a text.
use Rattle.std.proofs.Common.{◌≡◌, ◌≢◌, ℕ, suc, ◌+◌, ◌<◌, ◌≤◌, List, ◌∷◌, ◌++◌, length, take, drop, get_or, All, None, Some, sym, ap, ◌∙◌, arith, take-append-drop, drop-cons, eqb-true, inl, inr, ◌==◌, nat_lt, cond, position}
use Rattle.std.proofs.lemmas.List.Quantifiers.{position-Some}
use Rattle.std.proofs.lemmas.List.{get_or-take, length-take-le}
use Rattle.word_image.proofs.Common.{position_or_len, eqb-false, leb_tells, none-some, All-from_get_or, fails_before_first}

-- the byte stands first at this place
pub record IsFirstByte (byte : ℕ) (text : List ℕ) (place : ℕ) : Type 0 where
  pub within : place < length text
  pub cut : text ≡ take place text ++ byte ∷ drop (place + 1) text
  pub others : All (λ b. b ≢ byte) (take place text)

-- a place that a search finds is the first
pub IsFirstByte-position : (byte : ℕ) (text : List ℕ) (place : ℕ) → position (λ b. b == byte) text ≡ Some place → IsFirstByte byte text place
IsFirstByte-position byte text place found =
    let at = position-Some (λ b. b == byte) text place 0 found in
    let is : get_or text place 0 ≡ byte = eqb-true (get_or text place 0) byte at.1 in
    let next : suc place ≡ place + 1 = omega arith in
    let begins : drop place text ≡ get_or text place 0 ∷ drop (place + 1) text = rw next at (drop-cons text place 0 at.0) in
    record {
      within = at.0;
      cut = sym (take-append-drop place text) ∙ ap (λ (v : List ℕ). take place text ++ v) (rw is at begins);
      others = All-from_get_or (λ b. b ≢ byte) (take place text) 0 (λ k lt.
          let short : k < place = omega (arith, length-take-le place text (omega arith)) in
          rw (get_or-take place text k 0 short) (eqb-false (get_or text k 0) byte (at.2 k short)));
    }

-- a search that finds nothing has passed the end
past_end : (a b : ℕ) → cond (nat_lt a b) (Some a) None ≡ None → b ≤ a
past_end a b none = elim (leb_tells (suc a) b) [ inl less ↦ absurd (none-some a (sym none ∙ ap (λ t. cond t (Some a) None) less.0)) | inr more ↦ omega (arith, more.1) ]

-- where a search finds no place, the byte isn't in the text
pub others-position : (byte : ℕ) (text : List ℕ) → position (λ b. b == byte) text ≡ None → All (λ b. b ≢ byte) text
others-position byte text none = λ k d below.
    let end = past_end (position_or_len (λ b. b == byte) text) (length text) none in
    eqb-false (get_or text k d) byte (fails_before_first (λ b. b == byte) text k d (omega (arith, end)))
