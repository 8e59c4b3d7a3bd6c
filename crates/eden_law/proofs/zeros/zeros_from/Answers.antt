use Rattle.std.proofs.Common.{◌+◌, slice_index, sym, arith, ◌==◌}
use Rattle.word_image.proofs.Common.{nat_tests}
use Rattle.garden_laws.proofs.Counts.{count_below-none, count_below-more}
use Rattle.eden_law.proofs.zeros.zeros_from.Goals as goal

pub loop-letter-init : goal.loop-letter-init
loop-letter-init c = record { count = sym (count_below-none (λ a. slice_index c.args.table.now (c.args.first + a) == 0)); few = omega arith }

pub loop-letter-preserved : goal.loop-letter-preserved
loop-letter-preserved c =
    grind (arith, nat_tests, count_below-more (λ a. slice_index c.args.table.now (c.args.first + a) == 0) c.loop-letter.letter)
