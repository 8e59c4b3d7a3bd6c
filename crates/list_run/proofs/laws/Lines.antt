-- Lines behind lines.
use Rattle.std.proofs.Common.{◌≡◌, ℕ, ◌+◌, ◌<◌, List, [], ◌∷◌, ◌++◌, length, take, Option, sym, ap, ◌∙◌, arith}
use Rattle.std.proofs.KnownBytes.{Appends-trans}
use Rattle.std.specs.Io.KnownBytes.{Appends}
use Rattle.word_image.proofs.Common.{take-append-add, LocalRule}
use Rattle.std.proofs.lemmas.List.{append_assoc, append-nil, length-append}
use Rattle.list_run.specs.Lines.{rule_line, rule_lines}

-- the lines of rules with one rule more are one line more
pub rule_lines-next : (shape : LocalRule) (rs : List LocalRule) (r : LocalRule)
    → rule_lines shape (rs ++ r ∷ []) ≡ rule_lines shape rs ++ rule_line shape r
rule_lines-next shape [] r = append-nil (rule_line shape r)
rule_lines-next shape (q ∷ rs) r = ap (λ (xs : List ℕ). rule_line shape q ++ xs) (rule_lines-next shape rs r) ∙ sym (append_assoc (rule_line shape q) (rule_lines shape rs) (rule_line shape r))

-- the lines of some rules, and behind them one more line, are the lines of all
pub whole_line : (shape : LocalRule) (rs : List LocalRule) (r : LocalRule) (bytes : List ℕ) (a b c : Option (List ℕ)) → bytes ≡ rule_line shape r
    → Appends a b (rule_lines shape rs) → Appends b c bytes
    → Appends a c (rule_lines shape (rs ++ r ∷ []))
whole_line shape rs r bytes a b c is p q =
    rw (rule_lines-next shape rs r) (Appends-trans a b c (rule_lines shape rs) (rule_line shape r) p (rw is at q))

-- a last piece was taken in part
pub cut_behind : (out bytes tail : List ℕ) (n : ℕ) (a b c : Option (List ℕ)) → bytes ≡ tail → n < length bytes → Appends a b out
    → Appends b c (take n bytes)
    → (m : ℕ) × (m < length (out ++ tail)) × Appends a c (take m (out ++ tail))
cut_behind out bytes tail n a b c is less p q =
    (length out + n, omega (arith, less, ap length is, length-append out tail), rw (take-append-add out tail n) (Appends-trans a b c out (take n tail) p (rw is at q)))

-- the lines of some rules, and behind them a part of one more line
pub cut_line : (shape : LocalRule) (rs : List LocalRule) (r : LocalRule) (bytes : List ℕ) (n : ℕ) (a b c : Option (List ℕ))
    → bytes ≡ rule_line shape r → n < length bytes → Appends a b (rule_lines shape rs) → Appends b c (take n bytes)
    → (m : ℕ) × (m < length (rule_lines shape (rs ++ r ∷ []))) × Appends a c (take m (rule_lines shape (rs ++ r ∷ [])))
cut_line shape rs r bytes n a b c is less p q =
    rw (rule_lines-next shape rs r) (cut_behind (rule_lines shape rs) bytes (rule_line shape r) n a b c is less p q)
