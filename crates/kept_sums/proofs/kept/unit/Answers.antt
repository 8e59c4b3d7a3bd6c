use Rattle.std.proofs.Common.{replicate, get_or-set_other, get_or-set_same, pos, ◌∙◌, arith}
use Rattle.word_image.proofs.Common.{length-replicate}
use Rattle.kept_sums.proofs.laws.Zeros.{at-replicate}
use Rattle.kept_sums.proofs.kept.unit.Goals as goal

pub returns : goal.returns
returns c = rw c.from.ensures (record {
  one = get_or-set_same (replicate 16 (pos 0)) c.args.place (pos 1) (pos 0) (omega (arith, c.requires, length-replicate 16 (pos 0)));
  others = λ a other. get_or-set_other (replicate 16 (pos 0)) c.args.place a (pos 1) (pos 0) other ∙ at-replicate 16 a;
})
