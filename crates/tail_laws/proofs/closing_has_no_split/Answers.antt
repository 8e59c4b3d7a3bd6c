use Rattle.word_image.proofs.Common.{IsRule-mirrored}
use Rattle.tail_laws.proofs.Certainty.{IsLeftClosing-mirrored, IsRightClosing-no_normal}
use Rattle.tail_laws.proofs.closing_has_no_split.Goals as goal

pub returns-clause-right : goal.returns-clause-right
returns-clause-right c r rule = IsRightClosing-no_normal rule

pub returns-clause-left : goal.returns-clause-left
returns-clause-left c r rule =
    let side = IsLeftClosing-mirrored rule in
    let normal = IsRightClosing-no_normal (IsRule-mirrored rule) in
    ((λ closing. normal.0 (side.0 closing)), (λ none. side.1 (normal.1 none)))
