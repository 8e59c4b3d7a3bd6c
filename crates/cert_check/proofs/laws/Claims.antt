-- Claims that fall, read on the steps of a pair.
use Rattle.std.proofs.Common.{◌≡◌, ℕ, ◌<◌, ◌↔◌, List, Option, Some, arith}
use Rattle.word_image.proofs.Common.{LocalRule, IsRule, pair_count}
use Rattle.word_image.specs.declared.side.Side.{Side}
use Rattle.pair_laws.proofs.Common.{LeadsOn-follows}
use Rattle.cert_conditions.proofs.Common.{EachBelow, claim, Falls}
use Rattle.cert_check.specs.SideWindows.{FallsBy}

-- the claim of a pair falls exactly where it falls on all letters
pub Falls-steps : (side : Side) {r : LocalRule} → IsRule r → (row : List (Option ℕ)) (p n : ℕ) → claim row p ≡ Some n → p < pair_count r
    → EachBelow r.states (λ a. EachBelow r.states (FallsBy side r row p n a)) ↔ Falls side r row p
Falls-steps side {r} rule row p n has pair = grind (arith, LeadsOn-follows)
