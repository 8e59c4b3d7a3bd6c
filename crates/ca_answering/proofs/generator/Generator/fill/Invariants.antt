use Rattle.std.proofs.Common.{◌≡◌, take, map}
use Rattle.word_image.proofs.Common.{range_with_len}
use Rattle.ca_questions.specs.Samples.{state_after, drawn}
use Rattle.ca_answering.proofs.generator.Generator.fill.Given as goal

-- the letters so far, and the state that they leave
abbrev pub invariant-loop-letter : goal.invariant-loop-letter
invariant-loop-letter l =
    let i = l.letter-index in record {
      letters : take i l.letters ≡ map (drawn l.k l.fn.self) (range_with_len 0 i);
      state : l.self ≡ state_after l.fn.self i;
    }
