use Rattle.std.proofs.Common.{subst, refl}
use Rattle.word_image.proofs.Common.{IsRule}
use Rattle.tail_laws.proofs.Common.{no_normal_split}
use Rattle.tail_laws.proofs.Certainty.{IsRightClosing-no_normal}
use Rattle.closing_test.proofs.SplitTails.{IsLeastSplitOf-walks}
use Rattle.closing_test.proofs.split_room.SplitRoom.find_split.Goals as goal

pub unreachable-requires : goal.unreachable-requires
unreachable-requires c =
    let rule = subst IsRule c.rule.ensures c.keeps_limits.ensures in
    c.requires ((IsRightClosing-no_normal rule).1 (no_normal_split rule c.in_default.ensures))

pub returns-clause-split : goal.returns-clause-split
returns-clause-split c =
    IsLeastSplitOf-walks c.in-Some.walks (subst IsRule c.rule.ensures c.keeps_limits.ensures) c.in-Some.ensures
    (rw (c.set.ensures, c.as_slice-3.ensures.letters, c.as_slice-4.ensures.letters, c.spelled-middles.ensures.first, c.spelled-periods.ensures.first, c.as_slice.ensures.letters, c.as_slice-2.ensures.letters) refl)
    (rw (c.set-2.ensures, c.as_slice-5.ensures.letters, c.as_slice-6.ensures.letters, c.spelled-middles.ensures.second, c.spelled-periods.ensures.second, c.as_slice.ensures.letters, c.as_slice-2.ensures.letters) refl)
