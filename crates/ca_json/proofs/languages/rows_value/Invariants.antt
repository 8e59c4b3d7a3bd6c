use Rattle.std.proofs.Common.{◌≡◌, map}
use Rattle.word_image.proofs.Common.{range_with_len}
use Rattle.serde_json.specs.View.{view}
use Rattle.ca_questions.proofs.Common.{automaton_of}
use Rattle.ca_json.specs.Findings.{row_json}
use Rattle.ca_json.proofs.languages.rows_value.Given as goal

-- the rows so far
abbrev pub invariant-loop-class : goal.invariant-loop-class
invariant-loop-class l = map view l.rows.items ≡ map (row_json (automaton_of l.automaton)) (range_with_len 0 l.class)
