use Rattle.std.proofs.Common.{◌≡◌, ◌+◌, arith}
use Rattle.word_image.proofs.Common.{LocalRule, pair_of, pair_count, IsDetermined}
use Rattle.inverse_window.specs.FirstWindows.{PairDiffersAt, PairEnds, NoneHolds}
use Rattle.inverse_window.proofs.StartLaws.{HoldsFrom-same}
use Rattle.inverse_window.proofs.WindowLaws.{IsDetermined-past}
use Rattle.inverse_window.proofs.starts.start_past.Goals as goal

pub returns-clause-start : goal.returns-clause-start
returns-clause-start c =
    let r : LocalRule = c.args.rule.now in
    let all : pair_of r c.loop-u.u 0 ≡ pair_count r = grind arith in
    HoldsFrom-same c.loop-u.start (NoneHolds (pair_count r) (PairDiffersAt r c.args.place) (PairEnds r)) (λ n. IsDetermined r n (n + c.args.place))
    (λ n. IsDetermined-past c.nodes-u-end.ensures.rule c.args.place n c.requires.place) (rw all at c.loop-u.invariant.0)
