use Rattle.std.proofs.Common.{arith}
use Rattle.tail_config.proofs.laws.TailTexts.{Spells-word_text}
use Rattle.tail_config.proofs.texts.printed_text_is_read.Goals as goal

pub returns : goal.returns
returns c t accepted = grind (arith, Spells-word_text)
