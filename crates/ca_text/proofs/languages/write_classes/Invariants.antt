use Rattle.std.proofs.Common.{◌≡◌, ◌+◌, ◌*◌, ◌≤◌, ◌++◌, length, take, flat_map}
use Rattle.word_image.proofs.Common.{range_with_len}
use Rattle.ca_questions.proofs.Common.{automaton_of}
use Rattle.ca_text.specs.Lines.{class_line}
use Rattle.ca_text.specs.Rooms.{most_text}
use Rattle.ca_text.proofs.languages.write_classes.Given as goal

-- the lines so far, at most 96 bytes each
abbrev pub invariant-loop-class : goal.invariant-loop-class
invariant-loop-class l = (l.output ≡ l.fn.output ++ flat_map (class_line (automaton_of l.automaton)) (take l.class (range_with_len 0 l.automaton.classes)))
    × (length l.fn.output + 96 * l.automaton.classes ≤ most_text → length l.output ≤ length l.fn.output + 96 * l.class)
