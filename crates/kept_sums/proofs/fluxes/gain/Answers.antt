use Rattle.std.proofs.Common.{◌≡◌, ℕ, ◌-◌, ◌/◌, ◌^◌, ◌-ℤ◌, sym, ap, ap₂, ◌∙◌, arith}
use Rattle.word_image.proofs.Common.{node_count_pos, value-take-word_of}
use Rattle.kept_sums.specs.Rows.{at}
use Rattle.kept_sums.proofs.Casts.{back-sub}
use Rattle.kept_sums.proofs.laws.Windows.{front-below}
use Rattle.kept_sums.proofs.fluxes.gain.Goals.{After-from-3}
use Rattle.kept_sums.proofs.fluxes.gain.Goals as goal

pub nonzero_div-before : goal.nonzero_div-before
nonzero_div-before c = omega (arith, node_count_pos c.nodes.ensures.rule, c.from.ensures, c.nodes.ensures.nodes)

-- the value of the first letters, as it is computed
before_is : (c : After-from-3) → c.from-3.result ≡ c.args.window / c.args.rule.now.states ^ (c.args.rule.now.width - 1)
before_is c = c.from-3.ensures ∙ ap (λ n. c.args.window / n) (c.from.ensures ∙ c.nodes.ensures.nodes)

pub bounds-weights-from-2 : goal.bounds-weights-from-2
bounds-weights-from-2 c = grind (arith, front-below)

pub returns-clause-gain : goal.returns-clause-gain
returns-clause-gain c =
    let weights = c.args.weights.now in
    let before = before_is (goal.at.returns-clause-gain c).After-from-3 in
    let less = front-below c.nodes.ensures.rule c.args.range c.args.window c.requires.few c.requires.window in
    back-sub (at weights c.from-2.result) (at weights c.from-3.result) (omega arith) (omega arith)
    ∙ ap₂ (λ (x y : ℕ). at weights x -ℤ at weights y) (c.from-2.ensures ∙ c.image_value-after.ensures.value)
    (before ∙ ap (λ n. c.args.window / c.args.rule.now.states ^ n) (omega arith) ∙ sym (value-take-word_of _ c.args.range _ c.args.window (omega arith) c.requires.window))
