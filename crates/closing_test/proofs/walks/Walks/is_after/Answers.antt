use Rattle.closing_test.proofs.LeastWalks.{splits_cmp-numbers, is_gt-greater}
use Rattle.closing_test.proofs.walks.Walks.is_after.Goals as goal

pub returns : goal.returns
returns c =
    let order = rw (c.then-2.ensures, c.then.ensures, c.cmp.ensures, c.cmp-2.ensures, c.cmp-3.ensures, c.cmp-4.ensures, c.letters.ensures, c.letters-2.ensures) at c.then-3.ensures in
    let words = rw (c.as_slice-middle.ensures.letters, c.as_slice-other_middle.ensures.letters, c.as_slice-period.ensures.letters, c.as_slice-other_period.ensures.letters) at order in
    rw (splits_cmp-numbers c.args.self.now c.args.other.now, c.is_gt.ensures, words) (is_gt-greater _)
