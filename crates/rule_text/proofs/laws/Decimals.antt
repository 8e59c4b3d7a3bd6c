-- The number of a row of decimal digits.
use Rattle.std.proofs.Common.{◌≡◌, ℕ, ◌+◌, ◌-◌, ◌*◌, ◌<◌, List, length, map, take, get_or, ap, ◌∙◌}
use Rattle.word_image.proofs.Common.{map_more, value, value-snoc}
use Rattle.rule_text.specs.RuleTexts.{decimal_value}

-- one digit more
pub decimal_value-more : (text : List ℕ) (i : ℕ) → i < length text
    → decimal_value (take (i + 1) text) ≡ decimal_value (take i text) * 10 + (get_or text i 0 - 48)
decimal_value-more text i h =
    ap (value 10) (map_more (λ b. b - 48) text i 0 h) ∙ value-snoc 10 (map (λ b. b - 48) (take i text)) (get_or text i 0 - 48)
