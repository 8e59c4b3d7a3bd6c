-- A rule by its parts, as they are passed.
use Rattle.std.proofs.Common.{◌≡◌, ℕ, ◌^◌, List, ℤ, ◌+ℤ◌, ap₂, ◌∙◌, w8, w16, FitsSigned, to_z, of_z, arith}
use Rattle.std.proofs.lemmas.Int.{to_z-of_z}
use Rattle.word_image.proofs.Common.{ints, LocalRule, IsRule, FitsSigned-offset, rule_from_parts}

-- parts that are those of an accepted rule make that rule
pub rule_of_parts : (r : LocalRule) (k m : ℕ) (o : ℤ) (table : List ℕ) → IsRule r → k ≡ r.states → m ≡ r.width → o ≡ r.offset → table ≡ r.table
    → record { states = k; width = m; offset = to_z w8 (of_z w8 o); table = table } ≡ r
rule_of_parts r k m o table rule states width offset entries = grind (arith, rule_from_parts, to_z-of_z, FitsSigned-offset)

-- two numbers of an i8 are added without a loss as those of an i16
pub sum-in_w16 : (o p a b : ℤ) → FitsSigned w8 o → FitsSigned w8 p → a ≡ to_z w8 (of_z w8 o) → b ≡ to_z w8 (of_z w8 p)
    → to_z w16 (of_z w16 (to_z w16 (of_z w16 a) +ℤ to_z w16 (of_z w16 b))) ≡ o +ℤ p
sum-in_w16 o p a b first second e f = omega (arith, ints)

-- a power, by its base and exponent
pub power_of : (k m base exponent v : ℕ) → v ≡ base ^ exponent → base ≡ k → exponent ≡ m → v ≡ k ^ m
power_of k m base exponent v is same also = is ∙ ap₂ (λ (b e : ℕ). b ^ e) same also

-- the offsets of two accepted rules are added as they are
pub offsets_of : {r s : LocalRule} → IsRule r → IsRule s → (o p : ℤ) → o ≡ r.offset → p ≡ s.offset
    → to_z w8 (of_z w8 o) +ℤ to_z w8 (of_z w8 p) ≡ r.offset +ℤ s.offset
offsets_of {r} {s} first second o p e f = grind (arith, to_z-of_z, FitsSigned-offset)
