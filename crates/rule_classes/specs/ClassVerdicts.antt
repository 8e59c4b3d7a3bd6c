-- Rules of the same class have the same verdicts. The class of a rule consists of the rule and its mirrored rule, each
-- with all renamings of the letters.
use Rattle.std.specs.Prelude.{◌↔◌, Bool, IsTrue, IsFalse}
use Rattle.word_image.specs.LocalRules.{LocalRule}
use Rattle.word_image.specs.Words.{IsSurjective}
use Rattle.tail_config.specs.Tails.{IsInjective, IsRightClosing, IsLeftClosing}

-- r and g have the same verdicts on surjective, injective, right-closing and left-closing, except that right-closing and left-closing change places if `mirror` is true
pub record HaveOneVerdict (r : LocalRule) (mirror : Bool) (g : LocalRule) : Type 0 where
  pub surjective : IsSurjective r ↔ IsSurjective g
  pub injective : IsInjective r ↔ IsInjective g
  pub right : IsFalse mirror → (IsRightClosing r ↔ IsRightClosing g)
  pub left : IsFalse mirror → (IsLeftClosing r ↔ IsLeftClosing g)
  pub right_mirrored : IsTrue mirror → (IsRightClosing r ↔ IsLeftClosing g)
  pub left_mirrored : IsTrue mirror → (IsLeftClosing r ↔ IsRightClosing g)
