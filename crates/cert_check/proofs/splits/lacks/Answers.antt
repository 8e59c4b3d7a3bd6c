use Rattle.std.proofs.Common.{◌≡◌, Option, None, Some, true, not, is_some, IfSome, ℤ, ap, sym, ◌∙◌, rules}
use Rattle.word_image.proofs.Common.{false≢true}
use Rattle.tail_config.proofs.Common.{TailConfig, Different, IsNearestDifference}
use Rattle.cert_conditions.specs.Refusals.IsSplitBreach.{Same, Apart, Image}
use Rattle.cert_check.proofs.splits.lacks.Goals as goal

-- configurations with a nearest difference are different
different : (x y : TailConfig) (found : Option ℤ) → is_some found ≡ true → IfSome found (IsNearestDifference x y) → Different x y
different x y None some nearest = absurd (cc)
different x y (Some i) some nearest = (i, nearest.other)

pub returns-then-is_none : goal.returns-then-is_none
returns-then-is_none c = Same (λ d. d.1 (c.differ.ensures.same.0 (search rules) d.0))

pub returns-then-not-agree_behind : goal.returns-then-not-agree_behind
returns-then-not-agree_behind c =
    Apart (different _ _ c.differ.result (c.is_none.ensures ∙ ap not c.if-is_none.false) c.differ.ensures.nearest)
    (λ agree. false≢true (sym c.if-not-agree_behind.true ∙ c.agree_behind.ensures.1 agree))

pub returns-then-not-share : goal.returns-then-not-share
returns-then-not-share c =
    Image (different _ _ c.differ.result (c.is_none.ensures ∙ ap not c.if-is_none.false) c.differ.ensures.nearest) (c.agree_behind.ensures.0 c.if-not-agree_behind.false)
    (λ share. false≢true (sym c.if-not-share.true ∙ c.share.ensures.1 share))

pub returns : goal.returns
returns c = (
  different _ _ c.differ.result (c.is_none.ensures ∙ ap not c.if-is_none.false) c.differ.ensures.nearest,
  c.agree_behind.ensures.0 c.if-not-agree_behind.false,
  c.share.ensures.0 c.if-not-share.false,
)
