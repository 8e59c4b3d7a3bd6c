-- A rule is open exactly where its evidence has a look-ahead on both sides.
use Rattle.std.proofs.Common.{refl, ◌↔◌, IsTrue}
use Rattle.word_image.proofs.Common.{false≢true, LocalRule}
use Rattle.tail_config.proofs.Common.{IsOpen}
use Rattle.cert_values.proofs.Common.{SideEvidence, Ahead, Split}
use Rattle.cert_values.specs.Evidence.{says_open}
use Rattle.certificate_laws.specs.LeastEvidence.{IsRightPart, IsLeftPart}

-- where a side has a split it doesn't close, so the rule isn't open
pub IsOpen-says_open : (r : LocalRule) (right left : SideEvidence) → IsRightPart r right → IsLeftPart r left
    → IsTrue (says_open right left) ↔ IsOpen r
IsOpen-says_open r (Ahead n) (Ahead m) right left = ((λ _. (right.0, left.0)), (λ _. refl))
IsOpen-says_open r (Ahead n) (Split x y) right left = ((λ no. absurd (false≢true no)), (λ both. absurd (left.0 both.1)))
IsOpen-says_open r (Split x y) side right left = ((λ no. absurd (false≢true no)), (λ both. absurd (right.0 both.0)))
