use Rattle.std.proofs.Common.{List, ℕ, ◌++◌, refl, ap₂, ◌∙◌}
use Rattle.c_structs.proofs.laws.LetterRows.{IsRow-grown}
use Rattle.c_structs.proofs.rule_degrees.numbers_of.Goals as goal

pub returns-clause-numbers : goal.returns-clause-numbers
returns-clause-numbers c =
    record {
      last = c.run-right.new.self;
      first = c.run-left.new.self;
      fault = refl;
      numbers = c.degree_or_zeros-numbers.ensures;
      right = c.run-right.ensures.fewest;
      left = c.run-left.ensures.fewest;
      right_row = IsRow-grown (record { more = c.word-2.result.now; whole = c.add_word-left_word.ensures.letters }) (rw c.word.ensures at c.add_word-right_word.ensures.row);
      left_row = rw c.word-2.ensures at c.add_word-left_word.ensures.row;
      words = c.add_word-left_word.ensures.letters
          ∙ ap₂ (λ (x y : List ℕ). x ++ y) (c.add_word-right_word.ensures.letters ∙ ap₂ (λ (x y : List ℕ). x ++ y) c.requires.empty c.word.ensures) c.word-2.ensures;
      reserved = refl;
    }
