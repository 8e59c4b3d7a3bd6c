use Rattle.std.proofs.Common.{◌≡◌, ℕ, ◌+◌, slice_index, refl, ap, ◌∙◌, arith}
use Rattle.word_image.proofs.Common.{LocalRule, label, IsEnds}
use Rattle.word_image.specs.declared.side.Side.TheVariants.{Right}
use Rattle.least_walk.proofs.MarkedRows.{fresh-with_mark, fresh-without}
use Rattle.least_walk.proofs.marks.Rows.fresh.Goals as goal

-- the ends that the code looks up
ends_of : (r g : LocalRule) (u v a l ends : ℕ) → g ≡ r → l ≡ label g u a → IsEnds Right g v l ends → IsEnds Right r v (label r u a) ends
ends_of r g u v a l ends same labelled h = rw (← same, ← labelled) h

pub returns-then-from-eq1 : goal.returns-then-from-eq1
returns-then-from-eq1 c t b q of letter old step =
    let same = c.graph-graph.ensures in
    let node = c.from-node.ensures ∙ c.requires.node in
    rw (← c.self.view_is) (
    fresh-with_mark c.requires.rule c.self.inside.rows c.args.from t c.args.a b q c.ends-ends.result _ c.args.end of c.if-from-eq1.true letter
    (ends_of _ _ _ _ _ _ _ same c.label.ensures.label c.ends-ends.ensures) c.requires.end (ap (λ n. slice_index c.self.inside.rows (16 + n)) node) (omega arith) old step)

pub returns : goal.returns
returns c t b q of letter old step =
    let same = c.graph-graph.ensures in
    let node = c.from-node.ensures ∙ c.requires.node in
    rw (← c.self.view_is) (
    fresh-without c.requires.rule c.self.inside.rows c.args.from t c.args.a b q c.ends-ends.result _ _ c.args.end _ of (omega arith) letter (omega (arith, c.requires.rule.shape.most_states))
    (ends_of _ _ _ _ _ _ _ same c.label.ensures.label c.ends-ends.ensures) c.requires.end (ap (λ n. slice_index c.self.inside.rows (16 + n)) node) (omega arith)
    (ap (slice_index c.self.inside.rows) node) (omega arith) refl old step)
