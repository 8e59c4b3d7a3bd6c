use Rattle.std.proofs.Common.{refl, rules}
use Rattle.c_structs.proofs.laws.LetterRows.{IsRow-added}
use Rattle.c_structs.proofs.letter_rows.add_word.Goals as goal

pub returns-clause-row : goal.returns-clause-row
returns-clause-row c = IsRow-added c.args.letters.now.items c.in-Ok.ensures.items (search rules) refl
