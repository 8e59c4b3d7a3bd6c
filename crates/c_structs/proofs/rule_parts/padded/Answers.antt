use Rattle.std.proofs.Common.{ℕ, List, ◌++◌, length, ap₂}
use Rattle.word_image.proofs.Common.{drop-replicate}
use Rattle.c_structs.proofs.rule_parts.padded.Goals as goal

pub returns : goal.returns
returns c = ap₂ (λ (xs ys : List ℕ). xs ++ ys) c.copy_from_slice.ensures.after (drop-replicate (length c.args.letters.now) 256 0)
