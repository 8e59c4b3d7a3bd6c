-- The image cells under a widened rule.
use Rattle.std.proofs.Common.{◌≡◌, ℕ, ◌-◌, ◌/◌, ◌^◌, ◌<◌, ◌≤◌, take, slice_index, ℤ, ◌+ℤ◌, sym, ap, ◌∙◌}
use Rattle.word_image.proofs.Common.{LocalRule, IsRule, IsShape, local_map, word_of, entry-below, value-take-word_of}
use Rattle.tail_config.proofs.Common.{cells, cell, length-run, IsWord-run, take-run, cell-below}
use Rattle.rule_algebra.specs.Algebra.{KeepsImages}
use Rattle.rule_algebra.specs.Tables.{widened}
use Rattle.rule_algebra.proofs.laws.Tables.{IsRule-table_by, table_by-at}

-- a widened rule is accepted if its shape is
pub IsRule-widened : {r : LocalRule} → IsRule r → (m : ℕ) → IsShape r.states m r.offset → IsRule (widened r m)
IsRule-widened {r} rule m shape =
    IsRule-table_by r.states m r.offset (λ w. local_map r (take r.width w)) shape (λ w. entry-below rule _)

-- the image cells under a widened rule are the old ones
pub KeepsImages-widened : (r : LocalRule) (m : ℕ) → r.width ≤ m → KeepsImages r (widened r m)
KeepsImages-widened r m h = λ t i tail.
    let j : ℤ = i +ℤ r.offset in
    table_by-at r.states m (λ w. local_map r (take r.width w)) (cells t j m) (IsWord-run (cell-below tail) j m) (length-run (cell t) j m)
    ∙ ap (local_map r) (take-run (cell t) j m r.width h)

-- the widened table's letter for a window is the old one for the first digits of the window's value
pub widened-entry : (r : LocalRule) (m v : ℕ) → r.width ≤ m → v < r.states ^ m
    → slice_index r.table (v / r.states ^ (m - r.width)) ≡ local_map r (take r.width (word_of r.states m v))
widened-entry r m v h below = ap (slice_index r.table) (sym (value-take-word_of r.states r.width m v h below))
