-- The least orphan has no more letters than there are sets of nodes: between two visits to one set it could be cut.
use Rattle.std.proofs.Common.{ℕ, ◌^◌, ◌<◌, ◌≤◌, List, length, ⊎_elim, arith}
use Rattle.word_image.proofs.Common.{pow-le-pow_right, LocalRule, IsRule, node_count, IsLeastOrphan, full_set, IsStep, key_not_greater}
use Rattle.search_laws.proofs.Common.{Walk-shortened}
use Rattle.cert_conditions.proofs.laws.StepConditions.{IsOrphan-read}
use Rattle.cert_conditions.proofs.Common.{LeadsTo-orphan}

-- the least orphan has at most 65,536 letters
pub length-IsLeastOrphan : {r : LocalRule} {w : List ℕ} → IsRule r → IsLeastOrphan r w → length w ≤ 65536
length-IsLeastOrphan {r} {w} rule least =
    let most : 2 ^ node_count r ≤ 2 ^ 16 = pow-le-pow_right (omega arith) rule.shape.most_nodes in
    ⊎_elim (λ short. omega (arith, short, most))
    (λ h. omega (arith, h.less, ((key_not_greater (length w) (length h.shorter) _).0 (least.least h.shorter (IsOrphan-read rule h.letters h.walk))).0))
    (Walk-shortened (IsStep r) (λ a. a < r.states) (2 ^ node_count r) (λ s a t step. step.within) w (full_set r) 0 least.orphan.word (LeadsTo-orphan rule least.orphan))
