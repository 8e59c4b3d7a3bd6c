use Rattle.std.proofs.Common.{◌≡◌, ℕ, ◌/◌, ◌%◌, get_or, pos, w32, FitsSigned, ◌∙◌, rules}
use Rattle.word_image.proofs.Common.{node_count}
use Rattle.flux_conserve.proofs.Differences.{is_passed_difference}
use Rattle.flux_conserve.proofs.flows.flows.Goals as goal

pub returns : goal.returns
returns c =
    let r = c.args.rule.now in
    let v = c.args.window in
    let number = λ (i : ℕ). get_or c.args.numbers.now i (pos 0) in
    let fits : FitsSigned w32 c.window_flow.result = search rules in
    let fits_first : FitsSigned w32 (number c.from.result) = search rules in
    let fits_last : FitsSigned w32 (number c.from-2.result) = search rules in
    let first : c.from.result ≡ v / r.states = c.from.ensures ∙ c.end_node.ensures.value in
    let last : c.from-2.result ≡ v % node_count r = c.from-2.ensures ∙ c.end_node-2.ensures.value in
    rw (← c.window_flow.ensures.gain, ← first, ← last) (is_passed_difference _ _ _ _ _ _ fits fits_first fits_last c.from-3.ensures c.from-4.ensures c.from-5.ensures)
