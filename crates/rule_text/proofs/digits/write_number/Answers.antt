use Rattle.std.proofs.Common.{eq-eqb, arith}
use Rattle.word_image.proofs.Common.{take_more_set, nat_tests, one-le-pow}
use Rattle.rule_text.proofs.laws.Numbers.{div-is_zero}
use Rattle.rule_text.proofs.laws.Letters.{reverse-word_of-more, div-pow-more}
use Rattle.rule_text.proofs.digits.write_number.Goals as goal

pub loop-letter-preserved : goal.loop-letter-preserved
loop-letter-preserved c = grind (arith, take_more_set, reverse-word_of-more, div-pow-more)

pub returns-clause-fits : goal.returns-clause-fits
returns-clause-fits c = grind (arith, div-is_zero, one-le-pow, nat_tests, eq-eqb)
