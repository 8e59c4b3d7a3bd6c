-- The printed form of a rule is a text of it.
use Rattle.std.proofs.Common.{◌≡◌, ℕ, suc, ◌+◌, ◌*◌, ◌<◌, List, [], ◌∷◌, ◌++◌, length, map, Some, refl, sym, ap, ap₂, subst, ◌∙◌, arith, add-one, mod-lt, All, ℤ, pos, negsuc, neg_ℤ, codes, unwrap_or, option_map, decimal, div-add-mod'}
use Rattle.std.proofs.lemmas.Fmt.{decimal_digit, decimal_step}
use Rattle.word_image.proofs.Common.{cases_lt, nat_tests, ints, div_below, none-some, All-nil, All-cons, All-head, All-tail, All-map, All-weaker, LocalRule, IsShape, IsRule, lower_digit, hex_value, IsHexDigit, letter_at, table_fault-IsWord}
use Rattle.rule_text.specs.RuleTexts.{IsDigit, IsDecimal, IsOffset, Plain, Minus, Says, InTable, Table, IsRuleText, decimal_value, as_text_fault}
use Rattle.rule_text.specs.PrintedRules.{offset_text, printed_rule, head}
use Rattle.rule_text.proofs.laws.Parts.{saying}
use Rattle.rule_text.proofs.laws.Heads.{Says-same}
use Rattle.rule_text.proofs.laws.Numbers.{fault_of-shape}

-- a text of one or two digits for a number
record Writes (text : List ℕ) (n : ℕ) : Type 0 where
  decimal : IsDecimal 1 2 text
  value : decimal_value text ≡ n

-- the digit of a number below 10
is_digit : (d : ℕ) → d < 10 → IsDigit (48 + d)
is_digit d h = (omega arith, omega arith)

-- a number of one digit
Writes-one : (n : ℕ) → n < 10 → Writes ((48 + n) ∷ []) n
Writes-one n h = grind (arith, decimal, All-cons, is_digit, All-nil)

-- a number of two digits
Writes-two : (a b : ℕ) → a < 10 → b < 10 → Writes ((48 + a) ∷ (48 + b) ∷ []) (a * 10 + b)
Writes-two a b h g = grind (arith, decimal, All-cons, is_digit, All-nil)

-- the text of a number below 100
Writes-decimal : (n : ℕ) → n < 100 → Writes (decimal n) n
Writes-decimal n h =
    grind (arith, cases_lt, decimal_digit, Writes-one, div_below, decimal_step, div-add-mod', Writes-two, mod-lt)

-- the text of an offset of an accepted shape
IsOffset-offset_text : (k m : ℕ) (o : ℤ) → IsShape k m o → IsOffset (offset_text o) o
IsOffset-offset_text k m (pos n) shape =
    let w = Writes-decimal n (grind (arith, ints)) in
    subst (λ (j : ℕ). IsOffset (decimal n) (pos j)) w.value (Plain (decimal n) w.decimal)
IsOffset-offset_text k m (negsuc n) shape =
    let w = Writes-decimal (n + 1) (grind (arith, ints)) in
    let value : decimal_value (decimal (n + 1)) ≡ suc n = w.value ∙ add-one n in
    subst (λ (j : ℕ). IsOffset (codes "-" ++ decimal (n + 1)) (neg_ℤ (pos j))) value (Minus (decimal (n + 1)) w.decimal)

-- the digit of a letter below 16 stands for it
hex_value-lower_digit : (a : ℕ) → a < 16 → hex_value (lower_digit a) ≡ Some a
hex_value-lower_digit a h = grind (arith, nat_tests)

-- the digit of a letter below 16 is a hexadecimal digit
IsHexDigit-lower_digit : (a : ℕ) → a < 16 → IsHexDigit (lower_digit a)
IsHexDigit-lower_digit a h none = none-some a (sym none ∙ hex_value-lower_digit a h)

-- the letters of a table's digits are the table
letters-lower_digits : (table : List ℕ) → All (λ a. a < 16) table → map letter_at (map lower_digit table) ≡ table
letters-lower_digits [] all = refl
letters-lower_digits (a ∷ table) all =
    ap₂ (λ (b : ℕ) (x : List ℕ). b ∷ x) (ap (λ o. unwrap_or o 0) (hex_value-lower_digit a (All-head (λ a. a < 16) a table all)))
    (letters-lower_digits table (All-tail (λ a. a < 16) a table all))

-- the printed form of an accepted rule says the rule
pub IsRuleText-printed_rule : (r : LocalRule) → IsRule r → IsRuleText (printed_rule r) r
IsRuleText-printed_rule r rule =
    let shape = rule.shape in
    let k = Writes-decimal r.states (omega arith) in
    let m = Writes-decimal r.width (omega arith) in
    let small : All (λ a. a < 16) r.table = All-weaker (λ a. a < r.states) (λ a. a < 16) (λ a h. omega arith) r.table rule.letters in
    let digits : All IsHexDigit (map lower_digit r.table) = All-map IsHexDigit lower_digit r.table (All-weaker (λ a. a < 16) (λ a. IsHexDigit (lower_digit a)) IsHexDigit-lower_digit r.table small) in
    let begin = head (decimal r.states) (decimal r.width) (offset_text r.offset) (codes "t") in
    let in_table = InTable (decimal r.states) (decimal r.width) (offset_text r.offset) (map lower_digit r.table) r.offset k.decimal m.decimal
    (IsOffset-offset_text r.states r.width r.offset shape) digits in
    let says = Says-same in_table refl (sym k.value) (sym m.value) refl in
    record {
      said = saying r.states r.width r.offset (Table r.table) (length begin);
      says = subst (λ (t : List ℕ). Says (printed_rule r) (saying r.states r.width r.offset (Table t) (length begin))) (letters-lower_digits r.table small) says;
      accepted = fault_of-shape (saying r.states r.width r.offset (Table r.table) (length begin)) shape
          ∙ ap (option_map (as_text_fault (length begin))) (table_fault-IsWord r.states r.width r.table rule.entries rule.letters);
      rule = refl;
    }
