use Rattle.std.proofs.Common.{sym, subst}
use Rattle.word_image.specs.LocalRules.{IsWord}
use Rattle.word_image.proofs.laws.RuleFaults.{IsWord-position}
use Rattle.word_image.proofs.images.image.Goals as goal

pub windows_image-requires-clause-word : goal.windows_image-requires-clause-word
windows_image-requires-clause-word c =
    subst (λ k. IsWord k c.args.word.now) c.k.ensures.states (IsWord-position c.k.result c.args.word.now (sym c.in_default.ensures.place))
