-- No limit is broken exactly where the rule is accepted.
use Rattle.std.proofs.lemmas.Grind.{common_steps}
use Rattle.std.proofs.Common.{◌≡◌, ℕ, ◌+◌, ◌-◌, ◌^◌, ◌≤◌, List, length, take, leb, None, ℤ, pos, ◌+ℤ◌, ◌≤ℤ◌, ◌∙◌, arith, length-take-le, nat_le, position}
use Rattle.std.proofs.Math.Nat.{pow-le-pow_left, pow-le-pow_right}
use Rattle.std.proofs.lemmas.Bool.Decides.{nat_tests}
use Rattle.std.proofs.lemmas.Int.{ints}
use Rattle.std.specs.List.{position_or_len}
use Rattle.std.proofs.lemmas.List.Sums.{position_or_len_is, fails_before_first}
use Rattle.word_image.specs.LocalRules.{IsWord, IsShape, most_states, most_width, most_sets, least_place, greatest_place}
use Rattle.word_image.specs.RuleFaults.{shape_fault, table_fault}

-- a power that is taken before it is known to be small: at most 16^4
pub power-few : {k : ℕ} (j : ℕ) → k ≤ most_states → j + 1 ≤ most_width → k ^ j ≤ most_sets
power-few j few short = grind (arith, pow-le-pow_left, pow-le-pow_right)

-- a shape with no fault is accepted
pub IsShape-shape_fault : (k m : ℕ) (o : ℤ) → shape_fault k m o ≡ None → IsShape k m o
IsShape-shape_fault k m o none = grind arith

-- an accepted shape has no fault
pub shape_fault-IsShape : (k m : ℕ) (o : ℤ) → IsShape k m o → shape_fault k m o ≡ None
shape_fault-IsShape k m o shape = grind (arith, nat_tests, ints)

-- an accepted shape is accepted at each offset within the limits
pub IsShape-offset : {k m : ℕ} {o : ℤ} (p : ℤ) → IsShape k m o → least_place ≤ℤ p → (p +ℤ pos (m - 1)) ≤ℤ greatest_place → IsShape k m p
IsShape-offset p shape least most = grind arith

-- a list with no letter that is not below k is a word
pub IsWord-position : (k : ℕ) (w : List ℕ) → position (λ a. nat_le k a) w ≡ None → IsWord k w
IsWord-position k w none = grind (arith, fails_before_first)

-- a table with no fault has a letter for each window
pub IsWord-table_fault : (k m : ℕ) (table : List ℕ) → table_fault k m table ≡ None → (length table ≡ k ^ m) × IsWord k table
IsWord-table_fault k m table none = grind (arith, fails_before_first)

-- a table with a letter for each window has no fault
pub table_fault-IsWord : (k m : ℕ) (table : List ℕ) → length table ≡ k ^ m → IsWord k table → table_fault k m table ≡ None
table_fault-IsWord k m table long word =
    let none : position_or_len (λ a. leb k a) table ≡ length table =
    position_or_len_is (λ a. leb k a) table (length table) 0 (omega arith) (λ i h. grind (arith, nat_tests, word i 0 h)) (λ h. absurd (omega arith)) in
    grind (arith, nat_tests)

-- an accepted shape has at most 256 windows
pub window_count-le : (k m : ℕ) (o : ℤ) → IsShape k m o → k ^ m ≤ 256
window_count-le k m o shape = grind (arith, common_steps)

-- a part of the room for a table
pub part_long : (size windows : ℕ) (room : List ℕ) → length room ≡ 256 → size ≡ windows → windows ≤ 256 → length (take size room) ≡ windows
part_long size windows room all same few = length-take-le size room (omega arith) ∙ same
