use Rattle.std.proofs.Common.{◌≢◌, ℕ, ◌/◌, List, sym, subst}
use Rattle.word_image.proofs.Common.{LocalRule, IsRule}
use Rattle.welch_index.specs.Fewest.{IsFewestLast, IsFewestFirst}
use Rattle.welch_index.specs.Degrees.{AreDegreeAndMultipliers}
use Rattle.welch_index.proofs.Products.{not_surjective-fewest}
use Rattle.welch_index.proofs.Quotients.{AreQuotients, AreQuotients-fewest}
use Rattle.welch_index.proofs.degrees.degree_from_counts.Goals as goal

-- the quotients of the counts
quotients : {r : LocalRule} {f b : ℕ} → IsRule r → f ≢ 0 → ((nodes : ℕ) × (w : List ℕ) × IsFewestLast r f nodes w) → ((nodes : ℕ) × (w : List ℕ) × IsFewestFirst r b nodes w)
    → AreQuotients r f b
quotients rule some (_, _, lasts) (_, _, firsts) = AreQuotients-fewest rule some lasts firsts

pub returns-then-right-eq0 : goal.returns-then-right-eq0
returns-then-right-eq0 c = let (_, _, lasts) = c.requires.right in not_surjective-fewest lasts c.if-right-eq0.true

pub nonzero_div-result : goal.nonzero_div-result
nonzero_div-result c = (quotients c.nodes-nodes.ensures.rule c.if-right-eq0.false c.requires.right c.requires.left).some_first

pub nonzero_div-result-2 : goal.nonzero_div-result-2
nonzero_div-result-2 c = rw c.nodes-nodes.ensures.nodes ((quotients c.nodes-nodes.ensures.rule c.if-right-eq0.false c.requires.right c.requires.left).some_right)

pub nonzero_div-result-3 : goal.nonzero_div-result-3
nonzero_div-result-3 c = (quotients c.nodes-nodes.ensures.rule c.if-right-eq0.false c.requires.right c.requires.left).some_first

pub returns : goal.returns
returns c =
    let q = quotients c.nodes-nodes.ensures.rule c.if-right-eq0.false c.requires.right c.requires.left in
    (q.onto, subst (λ m. AreDegreeAndMultipliers c.args.rule.now (c.args.right / (m / c.args.left)) (m / c.args.left) (m / c.args.right)) (sym c.nodes-nodes.ensures.nodes) q.are)
