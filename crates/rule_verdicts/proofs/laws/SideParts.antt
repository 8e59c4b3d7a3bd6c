-- The evidence that a rule closes on a side, or that it doesn't, is the least evidence of a report.
use Rattle.word_image.proofs.Common.{LocalRule}
use Rattle.closing_test.specs.Closing.{IsRightAnswer, IsLeftAnswer, closing_of}
use Rattle.closing_test.specs.declared.split_room.LentClosing.{LentClosing}
use Rattle.closing_test.specs.declared.split_room.LentClosing.TheVariants.{Ahead, Split}
use Rattle.certificate_laws.specs.LeastEvidence.{IsRightPart, IsLeftPart}
use Rattle.rule_verdicts.specs.Reports.{side_in}

-- the evidence about the right side
pub IsRightPart-answer : (r : LocalRule) (found : LentClosing) → IsRightAnswer r (closing_of found) → IsRightPart r (side_in found)
IsRightPart-answer r (Ahead n) h = (h.0, h.1)
IsRightPart-answer r (Split x y) h = (h.0, h.1.least)

-- the evidence about the left side
pub IsLeftPart-answer : (r : LocalRule) (found : LentClosing) → IsLeftAnswer r (closing_of found) → IsLeftPart r (side_in found)
IsLeftPart-answer r (Ahead n) h = (h.0, h.1)
IsLeftPart-answer r (Split x y) h = (h.0, h.1.least)
