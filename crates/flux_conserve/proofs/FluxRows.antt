-- The walks' gains in a row of 16.
use Rattle.std.proofs.Common.{◌≡◌, ℕ, ◌-◌, ◌↔◌, List, ◌++◌, take, replicate, ℤ, pos, sym, ◌∙◌, take_at, drop_at}
use Rattle.word_image.proofs.Common.{length-map-range_with_len, LocalRule, IsRule, node_count, IsFlux, IsConserving, slice_get-append}
use Rattle.ring_laws.proofs.FluxWalks.{walk_gain, walk_gains, walk_gains-zero, IsFlux-unique}
use Rattle.ring_laws.proofs.LossyRings.{IsConserving-walk_gains}
use Rattle.flux_conserve.specs.Keepings.{IsFluxRow}

-- the gains, and zeros after the last node
abbrev pub gains_row : (ℕ → ℕ) → LocalRule → List ℤ
gains_row weight r = walk_gains weight r ++ replicate (16 - node_count r) (pos 0)

-- the gains stand first
take-gains_row : (weight : ℕ → ℕ) (r : LocalRule) → take (node_count r) (gains_row weight r) ≡ walk_gains weight r
take-gains_row weight r = take_at (walk_gains weight r) (replicate (16 - node_count r) (pos 0)) (node_count r) (length-map-range_with_len (walk_gain weight r) 0 (node_count r))

-- a rule is conserving exactly where the gains at the front of the row are a flux
pub IsConserving-gains_row : {r : LocalRule} → IsRule r → (weight : ℕ → ℕ)
    → IsConserving weight r ↔ IsFlux weight r (take (node_count r) (gains_row weight r))
IsConserving-gains_row {r} rule weight = rw (take-gains_row weight r) (IsConserving-walk_gains rule weight)

-- where the first numbers of the row are a flux, the row is what is answered
pub IsFluxRow-gains_row : {r : LocalRule} → IsRule r → (weight : ℕ → ℕ) → IsFlux weight r (take (node_count r) (gains_row weight r))
    → IsFluxRow weight r (gains_row weight r)
IsFluxRow-gains_row {r} rule weight flux =
    let zeros : List ℤ = replicate (16 - node_count r) (pos 0) in
    record {
      flux = flux;
      starts = slice_get-append (walk_gains weight r) zeros 0 (pos 0) (walk_gains-zero rule (rw (take-gains_row weight r) at flux));
      zeros = drop_at (walk_gains weight r) zeros (node_count r) (length-map-range_with_len (walk_gain weight r) 0 (node_count r));
      only = λ phi other zeroth. IsFlux-unique rule other zeroth ∙ sym (take-gains_row weight r);
    }
