use Rattle.std.proofs.Common.{ℕ, List, ◌++◌, length, ap₂}
use Rattle.word_image.proofs.Common.{drop-replicate}
use Rattle.rule_text.proofs.beginnings.filled.Goals as goal

pub returns : goal.returns
returns c = ap₂ (λ (xs ys : List ℕ). xs ++ ys) c.write_letters.ensures (drop-replicate (length c.args.digits.now) 256 0)
