-- Rows of zeros.
use Rattle.std.proofs.Common.{◌≡◌, ℕ, zero, suc, replicate, pos, refl}
use Rattle.kept_sums.specs.Rows.{at}
use Rattle.kept_sums.specs.Spans.{entry}

-- a row of zeros has 0 at each place, also past its end
pub at-replicate : (n a : ℕ) → at (replicate n (pos 0)) a ≡ pos 0
at-replicate zero a = refl
at-replicate (suc n) zero = refl
at-replicate (suc n) (suc a) = at-replicate n a

-- n rows of zeros have 0 at each place of each row, also past the last row
pub entry-zeros : (n i a : ℕ) → entry (replicate n (replicate 16 (pos 0))) i a ≡ pos 0
entry-zeros zero i a = refl
entry-zeros (suc n) zero a = at-replicate 16 a
entry-zeros (suc n) (suc i) a = entry-zeros n i a
