-- What pairs of configurations say of a rule: that it isn't injective, right-closing or left-closing.
use Rattle.std.proofs.Common.{◌↔◌, arith}
use Rattle.word_image.proofs.Common.{LocalRule, IsRule}
use Rattle.tail_config.proofs.Common.{TailConfig, IsRightSplit, IsRightClosing, IsLeftClosing, IsLeftSplit, IsLeastRightSplit, IsLeastLeftSplit}
use Rattle.tail_laws.proofs.Sides.{IsLeftSplit-mirror}

-- a rule is right-closing exactly where it has no right split
pub IsRightClosing-none : (r : LocalRule) → IsRightClosing r ↔ ((x y : TailConfig) → ¬ IsRightSplit r x y)
IsRightClosing-none r = grind arith

-- a rule is left-closing exactly where it has no left split
pub IsLeftClosing-none : (r : LocalRule) → IsLeftClosing r ↔ ((x y : TailConfig) → ¬ IsLeftSplit r x y)
IsLeftClosing-none r = grind arith

-- the least right split forbids right-closing
pub no_right_closing : {r : LocalRule} {x y : TailConfig} → IsLeastRightSplit r x y → ¬ IsRightClosing r
no_right_closing {r} {x} {y} least closing = (IsRightClosing-none r).0 closing x y least.split.split

-- the least left split is a left split
pub IsLeftSplit-least : {r : LocalRule} {x y : TailConfig} → IsRule r → IsLeastLeftSplit r x y → IsLeftSplit r x y
IsLeftSplit-least {r} {x} {y} rule least =
    rw (least.x_is, least.y_is) (IsLeftSplit-mirror rule least.right.split.middles least.right.split.split)
