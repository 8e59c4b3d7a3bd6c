use Rattle.std.proofs.Common.{◌≡◌, ◌++◌, length, ap, sym, ◌∙◌, codes, decimal}
use Rattle.word_image.proofs.Common.{join_by, false≢true, on_ok_weaker, own_weights}
use Rattle.ca_text.proofs.laws.Appended.{appended_twice}
use Rattle.ca_text.proofs.laws.WeightLines.{weights_lines-other}
use Rattle.ca_text.proofs.verdicts.write_weights.Goals as goal

pub returns-clause-appended : goal.returns-clause-appended
returns-clause-appended c =
    let before = c.args.output.now in
    let weights = c.args.weights.now in
    let numbers = c.in_ok-write_numbers.ensures.appended ∙ ap (λ ns. c.push.new.self ++ join_by decimal (codes ",") ns) c.as_slice.ensures.weights in
    let named = appended_twice before (codes "weights ") (join_by decimal (codes ",") weights) c.in_ok-push.ensures.0 numbers in
    let other : ¬ (weights ≡ own_weights (length weights)) = λ own. false≢true (sym c.if-is_own.false ∙ c.is_own.ensures.1 own) in
    on_ok_weaker c.push-2.result (λ last. appended_twice before _ (codes "\n") named last ∙ ap (λ t. before ++ t) (sym (weights_lines-other weights other))) c.push-2.ensures.0
