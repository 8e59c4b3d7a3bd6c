use Rattle.std.proofs.Common.{arith}
use Rattle.word_image.proofs.Common.{window_count-le}
use Rattle.rule_lists.proofs.cuts.rules_out_start.Goals as goal

pub returns-then-has_other : goal.returns-then-has_other
returns-then-has_other c told q of begins same has = grind arith

pub returns : goal.returns
returns c told q of begins same = grind (arith, window_count-le)
