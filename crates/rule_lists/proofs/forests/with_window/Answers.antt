use Rattle.std.proofs.Common.{◌≡◌, ℕ, ◌+◌, ◌/◌, ◌%◌, ◌-ℤ◌, pos, slice_index, slice_index_or, refl, sym, ap, ap₂, ◌∙◌, arith}
use Rattle.word_image.proofs.Common.{node_count}
use Rattle.rule_lists.proofs.Flows.{AreLevels-joined}
use Rattle.rule_lists.proofs.forests.with_window.Goals as goal

pub returns : goal.returns
returns c =
    let r = c.args.shape.now in
    let w = c.args.window in
    let rule = c.end_node.ensures.rule in
    let trees = c.args.forest.now.trees in
    let levels = c.args.forest.now.levels in
    let first : ℕ = c.from-first.result in
    let last : ℕ = c.from-last.result in
    let ef : first ≡ w / r.states = c.from-first.ensures ∙ c.end_node.ensures.value in
    let el : last ≡ w % node_count r = c.from-last.ensures ∙ c.end_node-2.ensures.value in
    let is_rise : slice_index levels last + c.from.result ≡ slice_index levels last + c.args.letter = ap (λ x. slice_index levels last + x) c.from.ensures in
    let is_other : slice_index levels first + c.from-2.result ≡ slice_index levels first + c.end_letter.result = ap (λ x. slice_index levels first + x) c.from-2.ensures in
    record {
      levels = λ phi gains old.
          AreLevels-joined (node_count r) trees levels c.joined.result.trees c.joined.result.levels phi first last c.args.letter c.end_letter.result
          (slice_index trees first) (slice_index levels last + c.from.result) (slice_index trees last) (slice_index levels first + c.from-2.result)
          rule.shape.most_nodes (omega arith) (omega arith)
          (ap (λ (b : ℕ). pos c.args.letter -ℤ pos b) c.end_letter.ensures.value ∙ gains ∙ sym (ap₂ (λ (x y : ℕ). slice_index_or phi x (pos 0) -ℤ slice_index_or phi y (pos 0)) ef el))
          refl is_rise refl is_other c.joined.ensures old;
      small = grind arith;
    }
