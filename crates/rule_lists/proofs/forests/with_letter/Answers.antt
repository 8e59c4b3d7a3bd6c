use Rattle.std.proofs.Common.{◌≡◌, ◌<◌, slice_index, ap, ◌∙◌, sym, subst, arith}
use Rattle.rule_lists.specs.Forests.{GainsWith}
use Rattle.rule_lists.proofs.Flows.{GainsWith-flux}
use Rattle.rule_lists.proofs.forests.with_letter.Goals as goal

pub returns-clause-known : goal.returns-clause-known
returns-clause-known c s phi h flux =
    let r = c.args.shape.now in
    let w = c.args.window in
    let at : slice_index c.args.letters.now c.from.result ≡ slice_index c.args.letters.now w = ap (slice_index c.args.letters.now) c.from.ensures in
    let fixed : slice_index c.args.letters.now w < r.states = omega arith in
    c.with_window.ensures.levels phi (subst (λ a. GainsWith r w a phi) ((h.fixed w c.requires.window fixed) ∙ sym at) (GainsWith-flux r s c.args.letters.now phi w h flux c.requires.window)) (c.requires.known s phi h flux)
