use Rattle.image_minimal.proofs.Common.{arith}
use Rattle.image_minimal.proofs.laws.Unread.{IsUnreadSet-below}
use Rattle.image_minimal.proofs.laws.ClosureTables.{AreStarts-first, AreStarts-set, ArePartClosures-starts, unread_at}
use Rattle.image_minimal.proofs.closures.write_starts.Goals as goal

pub loop-place-init : goal.loop-place-init
loop-place-init c = AreStarts-first c.requires.full

pub bounds-closures-from : goal.bounds-closures-from
bounds-closures-from c =
    let below = IsUnreadSet-below (unread_at c.args.unread.now.sets c.requires.unread c.loop-place.place (omega (arith, c.len-place-end.ensures.len, c.loop-place-test.true))) in
    omega (arith, below, c.at-set.ensures, c.from.ensures, c.loop-place.invariant.long)

pub loop-place-preserved : goal.loop-place-preserved
loop-place-preserved c =
    let below = IsUnreadSet-below (unread_at c.args.unread.now.sets c.requires.unread c.loop-place.place (omega (arith, c.len-place-end.ensures.len, c.loop-place-test.true))) in
    rw c.from.ensures (AreStarts-set c.loop-place.invariant c.at-set.ensures (omega (arith, below, c.at-set.ensures)))

pub returns : goal.returns
returns c = ArePartClosures-starts c.requires.unread c.loop-place.invariant (omega (arith, c.len-place-end.ensures.len, c.loop-place-test.false))
