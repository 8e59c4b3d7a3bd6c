use Rattle.std.proofs.Common.{◌≡◌, ℕ, ◌++◌, length, length-append, take, get_or, refl, sym, ap, ◌∙◌, arith, flat_map}
use Rattle.std.proofs.lemmas.List.{take_all}
use Rattle.word_image.proofs.Common.{false≢true, range_with_len, get_or-range_with_len, length-range_with_len}
use Rattle.ca_questions.proofs.Common.{automaton_of}
use Rattle.ca_text.specs.Lines.{class_line}
use Rattle.ca_text.proofs.laws.Appended.{IsAppended-failed}
use Rattle.ca_text.proofs.laws.Rows.{rows-fit, rows-next}
use Rattle.ca_text.proofs.languages.write_classes.Goals as goal

pub loop-class-preserved : goal.loop-class-preserved
loop-class-preserved c =
    let a = automaton_of c.args.automaton.now in
    let i : ℕ = c.loop-class.class in
    let classes = range_with_len 0 a.classes in
    let here : get_or classes i 0 ≡ i = get_or-range_with_len 0 a.classes i 0 c.loop-class-test.true ∙ omega arith in (
      rows-next (class_line a) c.args.output.now classes i 0 (omega (arith, length-range_with_len 0 a.classes, c.loop-class-test.true)) c.loop-class.invariant.0
          (c.in_ok-write_class.ensures.appended.0 ∙ ap (λ j. c.loop-class.output ++ class_line a j) (sym here)),
      λ room. let few = c.in_ok-write_class.ensures.few (omega (arith, c.loop-class.invariant.1 room, room, c.loop-class-test.true)) in omega (arith, few.1, c.loop-class.invariant.1 room),
    )

pub returns-in_err-write_class-clause-appended : goal.returns-in_err-write_class-clause-appended
returns-in_err-write_class-clause-appended c =
    let a = automaton_of c.args.automaton.now in
    let i : ℕ = c.loop-class.class in
    let classes = range_with_len 0 a.classes in
    let here : get_or classes i 0 ≡ i = get_or-range_with_len 0 a.classes i 0 c.loop-class-test.true ∙ omega arith in
    let long = ap length c.loop-class.invariant.0 ∙ length-append c.args.output.now _ in
    let fit = rows-fit (class_line a) classes i 0 (omega (arith, length-range_with_len 0 a.classes, c.loop-class-test.true)) in
    IsAppended-failed c.from_residual.result c.args.output.now c.write_class.new.output _ c.from_residual.ensures.0 (λ room.
    false≢true (c.in_err-write_class.ensures.appended.1 (omega (arith, long, fit, ap (λ j. length (class_line a j)) here, room))))

pub returns-clause-appended : goal.returns-clause-appended
returns-clause-appended c =
    let a = automaton_of c.args.automaton.now in
    let classes = range_with_len 0 a.classes in
    let all : c.loop-class.class ≡ a.classes = omega (arith, c.loop-class-test.false, c.loop-class.auto.class-end) in
    (c.loop-class.invariant.0 ∙ ap (λ l. c.args.output.now ++ flat_map (class_line a) l) (ap (λ n. take n classes) all ∙ take_all a.classes classes (omega (arith, length-range_with_len 0 a.classes))), λ room. refl)
