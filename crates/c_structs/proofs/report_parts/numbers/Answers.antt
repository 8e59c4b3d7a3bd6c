use Rattle.std.proofs.Common.{ℤ, List, ◌++◌, length, pos, ap₂}
use Rattle.word_image.proofs.Common.{drop-replicate}
use Rattle.c_structs.proofs.report_parts.numbers.Goals as goal

pub returns : goal.returns
returns c = ap₂ (λ (xs ys : List ℤ). xs ++ ys) c.copy_from_slice.ensures.after (drop-replicate (length c.args.flows.now) 16 (pos 0))
