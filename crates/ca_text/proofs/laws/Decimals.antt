-- Decimal digits that are written from the end.
use Rattle.std.proofs.Common.{◌≡◌, ℕ, ◌+◌, ◌-◌, ◌/◌, ◌%◌, ◌^◌, ◌<◌, ◌≤◌, List, [], ◌∷◌, ◌++◌, length, drop, set, sym, ap, ◌∙◌, arith, append_assoc, length-append, decimal}
use Rattle.std.proofs.lemmas.Fmt.{decimal_digit, decimal_step_wide, decimal_is_IsNumeral_wide}
use Rattle.word_image.proofs.Common.{drop-set}

-- the digits of `left` are still to be written before this place of some bytes, and those after them in `number` stand there
pub record AreLeft (number left place end : ℕ) (bytes before : List ℕ) : Type 0 where
  pub room : length (decimal left) ≤ place
  pub within : place ≤ end
  pub first : place + length (decimal number) ≡ end + length (decimal left)
  pub digits : decimal left ++ drop place bytes ≡ decimal number ++ drop end before

-- a number has a digit
pub some_digit : (n : ℕ) → n < 2 ^ 128 → 0 < length (decimal n)
some_digit n fits = (decimal_is_IsNumeral_wide n (omega arith)).0.0

-- a digit that is still to be written has a place
pub some_place : {number left place end : ℕ} {bytes before : List ℕ} → AreLeft number left place end bytes before → left < 2 ^ 128 → 1 ≤ place
some_place {left = n} are fits = omega (arith, are.room, some_digit n fits)

-- if a number has two digits or more, its last digit can be written, and those of its tenth are left
pub AreLeft-step : {number left place end : ℕ} {bytes before : List ℕ} → AreLeft number left place end bytes before → 10 ≤ left → left < 2 ^ 128
    → place ≤ length bytes
    → AreLeft number (left / 10) (place - 1) end (set bytes (place - 1) (48 + left % 10)) before
AreLeft-step {left = n} {place = place} {bytes = bytes} are more fits long =
    let step = decimal_step_wide n more (omega arith) in
    let longer : length (decimal n) ≡ length (decimal (n / 10)) + 1 = ap length step ∙ length-append _ _ in
    let some = some_digit (n / 10) (omega arith) in
    let last = 48 + n % 10 in
    let back : place - 1 + 1 ≡ place = omega (arith, longer, some, are.room) in
    record {
      room = omega (arith, longer, are.room);
      within = omega (arith, are.within);
      first = omega (arith, back, longer, are.first);
      digits = ap (λ (x : List ℕ). decimal (n / 10) ++ x) (drop-set bytes (place - 1) last (omega (arith, back)) ∙ ap (λ i. last ∷ drop i bytes) back)
          ∙ sym (append_assoc (decimal (n / 10)) (last ∷ []) (drop place bytes)) ∙ ap (λ (x : List ℕ). x ++ drop place bytes) (sym step) ∙ are.digits;
    }

-- the only digit of a number is written, so none is left
pub AreLeft-last : {number left place end : ℕ} {bytes before : List ℕ} → AreLeft number left place end bytes before → left < 10 → place ≤ length bytes
    → (place - 1 + length (decimal number) ≡ end) × (drop (place - 1) (set bytes (place - 1) (48 + left)) ≡ decimal number ++ drop end before)
AreLeft-last {left = n} {place = place} {bytes = bytes} are one long =
    let digit = decimal_digit n one in
    let back : place - 1 + 1 ≡ place = omega (arith, some_place are (omega arith)) in (
      omega (arith, ap length digit, back, are.first),
      drop-set bytes (place - 1) (48 + n) (omega (arith, back)) ∙ ap (λ i. (48 + n) ∷ drop i bytes) back ∙ ap (λ (x : List ℕ). x ++ drop place bytes) (sym digit) ∙ are.digits,
    )
