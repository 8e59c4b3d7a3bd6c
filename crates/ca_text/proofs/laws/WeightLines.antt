-- The line of weights.
use Rattle.std.proofs.Common.{◌≡◌, ℕ, List, [], ◌++◌, length, true, false, cond, codes, bytes_eq, refl, decimal}
use Rattle.std.proofs.lemmas.Slice.Eq.{bytes_eq-Decides}
use Rattle.word_image.proofs.Common.{join_by, own_weights}
use Rattle.ca_text.specs.Reports.{line}
use Rattle.ca_text.specs.StatusLines.{weights_lines}

-- weights that are not own ones have a line
pub weights_lines-other : (weights : List ℕ) → ¬ (weights ≡ own_weights (length weights))
    → weights_lines weights ≡ line (codes "weights " ++ join_by decimal (codes ",") weights)
weights_lines-other weights other =
    let same = bytes_eq-Decides weights (own_weights (length weights)) in
    let text = line (codes "weights " ++ join_by decimal (codes ",") weights) in
    elim (bytes_eq weights (own_weights (length weights))) as (λ b. bytes_eq weights (own_weights (length weights)) ≡ b → cond b [] text ≡ text) [
      | true ↦ (λ is. absurd (other (same.0 is)))
      | false ↦ (λ is. refl)
    ] refl
