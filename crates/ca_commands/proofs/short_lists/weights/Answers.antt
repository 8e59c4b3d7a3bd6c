use Rattle.std.proofs.Common.{[], ◌∷◌, ◌++◌, map, length, append_assoc, length-append, sym, ap, ◌∙◌, arith}
use Rattle.rule_text.specs.RuleTexts.{decimal_value}
use Rattle.ca_commands.specs.WeightTexts.{weights_said}
use Rattle.ca_commands.proofs.laws.WeightTexts.{IsLeft-more, IsLeft-none}
use Rattle.ca_commands.proofs.short_lists.weights.Goals as goal

pub loop-i-preserved : goal.loop-i-preserved
loop-i-preserved c =
    let list = c.loop-i.list in
    let others = c.in-Some.others.now in
    let cut = c.in-Some.ensures in
    let weight = c.in_ok-weight-2.ensures in
    let more = IsLeft-more c.loop-i.rest.now c.in-Some.piece.now others c.loop-i._i cut weight.0 in
    let pushed = c.push-in-loop-i.ensures ∙ ap (λ w. list ++ w ∷ []) weight.1 in
    let is = c.loop-i.invariant in record {
      left = ((λ are. more.0 (is.left.0 are)), (λ left. is.left.1 (more.1 left)));
      said = is.said ∙ ap (λ all. list ++ map decimal_value all) cut ∙ sym (append_assoc list (decimal_value c.in-Some.piece.now ∷ []) (weights_said others)) ∙ ap (λ items. items ++ weights_said others) (sym pushed);
      many = omega (arith, is.many, ap length pushed, length-append list (decimal_value c.in-Some.piece.now ∷ []));
    }

pub returns : goal.returns
returns c are = IsLeft-none c.loop-i.rest.now c.loop-i._i (omega (arith, c.loop-i-test.false)) (c.loop-i.invariant.left.0 are)
