use Rattle.std.proofs.Common.{ℕ, ◌++◌, ap, ◌∙◌, flat_map}
use Rattle.word_image.proofs.Common.{range_with_len}
use Rattle.ca_questions.proofs.Common.{automaton_of}
use Rattle.ca_text.specs.Lines.{class_line, classes_line, dead_line}
use Rattle.ca_text.proofs.laws.Appended.{IsAppended-then, appended_twice}
use Rattle.ca_text.proofs.languages.write_automaton.Goals as goal

pub returns-clause-appended : goal.returns-clause-appended
returns-clause-appended c =
    let a = automaton_of c.args.automaton.now in
    let before = c.args.output.now in
    let head = appended_twice before (classes_line a.classes) (dead_line a.dead) (c.in_ok-push_line_with_number.ensures.appended.0 ∙ ap (λ (n : ℕ). before ++ classes_line n) c.from.ensures) c.in_ok-write_dead.ensures.appended.0 in
    IsAppended-then c.write_classes.result before c.write_classes.new.output _ (flat_map (class_line a) (range_with_len 0 a.classes)) head c.write_classes.ensures.appended
