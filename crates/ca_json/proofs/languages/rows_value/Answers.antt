use Rattle.std.proofs.Common.{List, [], ◌∷◌, ◌++◌, map, ap, ap₂, sym, ◌∙◌, arith}
use Rattle.word_image.proofs.Common.{map-append, map-range_with_len_more}
use Rattle.serde_json.specs.Data.{Data}
use Rattle.serde_json.specs.View.{view}
use Rattle.ca_questions.proofs.Common.{automaton_of}
use Rattle.ca_json.specs.Findings.{row_json}
use Rattle.ca_json.proofs.languages.rows_value.Goals as goal

pub loop-class-preserved : goal.loop-class-preserved
loop-class-preserved c =
    let row = row_json (automaton_of c.args.automaton.now) in
    let i = c.loop-class.class in
    ap (map view) c.in_ok-push.ensures.items ∙ map-append view c.loop-class.rows.items (c.in_ok-row_value.field-0 ∷ [])
    ∙ ap₂ (λ (xs : List Data) (x : Data). xs ++ x ∷ []) c.loop-class.invariant c.in_ok-row_value.ensures ∙ sym (map-range_with_len_more row 0 i i (omega arith))
