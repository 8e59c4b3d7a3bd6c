use Rattle.std.proofs.Common.{◌≡◌, ℕ, List, length, subst, arith}
use Rattle.word_image.proofs.Common.{LocalRule, IsRule, pair_count_pos}
use Rattle.closing_test.proofs.SeenSplits.{IsLeastSeen-start, IsLeastSeen-none, IsLeastSeen-earlier, IsLeastSoFar-seen, reached-below}
use Rattle.closing_test.proofs.split.least_walks.Goals as goal
use Rattle.closing_test.proofs.split.least_walks.Goals.{in-Some, in_default}

pub of-middles-requires : goal.of-middles-requires
of-middles-requires c = let some = pair_count_pos (subst IsRule c.rule.ensures c.keeps_limits.ensures) in omega arith

pub earlier-requires-clause-state : goal.earlier-requires-clause-state
earlier-requires-clause-state c = reached-below c.of-middles.result c.loop-i.i c.of-middles.ensures c.len-i-end.ensures.below (omega arith) c.pair.ensures

pub loop-i-init : goal.loop-i-init
loop-i-init c = IsLeastSeen-start c.args.pairs.now c.of-middles.result.reached c.short_walks-best.result c.short_walks-best.ensures

pub loop-i-preserved : goal.loop-i-preserved
loop-i-preserved c =
    let r : LocalRule = c.args.pairs.now in
    let reached : List ℕ = c.of-middles.result.reached in
    let rule : IsRule r = subst IsRule c.rule.ensures c.keeps_limits.ensures in
    elim c.match-earlier.branch [
      | in-Some w ↦ rw w.best-is (IsLeastSeen-earlier r reached c.loop-i.i c.loop-i.best w.in-Some.found rule c.loop-i.invariant (rw c.pair.ensures at w.in-Some.ensures))
      | in_default w ↦ rw w.best-is (IsLeastSeen-none r reached c.loop-i.i c.loop-i.best c.loop-i.invariant (rw c.pair.ensures at w.in_default.ensures))
    ]

pub returns : goal.returns
returns c =
    let all = rw c.of-middles.ensures at c.len-i-end.ensures.all in
    let end : c.loop-i.i ≡ length c.of-middles.result.reached = omega arith in
    IsLeastSoFar-seen c.args.pairs.now c.of-middles.result.reached c.loop-i.best (all (omega arith)) (rw end at c.loop-i.invariant)
