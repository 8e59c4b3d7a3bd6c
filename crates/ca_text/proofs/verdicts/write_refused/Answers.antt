use Rattle.std.proofs.Common.{◌≤◌, length, length-append, codes, sym, ap, ◌∙◌, subst, arith}
use Rattle.ca_text.specs.StatusLines.{words_length}
use Rattle.ca_text.proofs.laws.Appended.{AppendsAtMost-appended}
use Rattle.ca_text.proofs.laws.RefusalWords.{words_length-parts}
use Rattle.ca_text.proofs.verdicts.write_refused.Goals as goal

pub returns-clause-few : goal.returns-clause-few
returns-clause-few c other room =
    let words = subst (λ p. words_length p ≤ 60) (sym c.in_ok-parts.ensures.parts) (words_length-parts c.args.refusal) in
    let begun = ap length c.in_ok-push.ensures.0 ∙ length-append c.args.output.now (codes "refused ") in
    let parts = c.in_ok-write_parts.ensures.few (omega (arith, words, begun, room)) in
    let ended = AppendsAtMost-appended 1 c.push-2.result c.write_parts.new.output c.push-2.new.self (codes "\n") c.push-2.ensures (omega arith) (omega (arith, parts.1, words, begun, room)) in
    (ended.0, omega (arith, ended.1, parts.1, words, begun))
