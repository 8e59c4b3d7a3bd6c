use Rattle.std.proofs.Common.{◌≡◌, ◌*◌, length, refl, arith}
use Rattle.image_subsets.proofs.MarkSpreads.{AreMarksTo-start, AreMarksTo-next}
use Rattle.image_subsets.proofs.marks.mark_above.Goals as goal

pub loop-u-init : goal.loop-u-init
loop-u-init c = record { long = refl; marks = λ sets listed. AreMarksTo-start sets c.args.n c.args.rows.now listed }

pub loop-u-preserved : goal.loop-u-preserved
loop-u-preserved c =
    let h = c.loop-u.invariant in
    record {
      long = omega (arith, h.long);
      marks = λ sets listed. AreMarksTo-next sets c.args.n c.loop-u.u c.loop-u.rows c.spread.new.rows (64 * length c.loop-u.rows) c.requires.nodes c.loop-u-test.true
          (omega (arith, c.requires.room, h.long)) c.spread.ensures (h.marks sets listed);
    }

pub returns : goal.returns
returns c sets listed =
    let all : c.loop-u.u ≡ c.args.n = omega arith in rw all at (c.loop-u.invariant.marks sets listed)
