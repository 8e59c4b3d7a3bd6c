use Rattle.std.proofs.Common.{◌<◌, ◌≤◌, ◌^◌, get_or, take, ap, ◌∙◌, arith, unsigned_abs}
use Rattle.word_image.proofs.Common.{ints, take_more}
use Rattle.kept_sums.specs.Sums.{sum_at}
use Rattle.kept_sums.specs.Rows.{at}
use Rattle.kept_sums.proofs.laws.Sums.{sum_at-snoc}
use Rattle.kept_sums.proofs.rows.total.Goals as goal

pub loop-place-preserved : goal.loop-place-preserved
loop-place-preserved c =
    let row = c.args.row.now in
    let places = c.args.places.now in
    let n = c.loop-place.place-index in
    let (sum, most) = c.loop-place.invariant in
    let here : get_or places n 0 < 16 = c.requires.places n 0 (omega arith) in
    let small : unsigned_abs (at row c.from.result) ≤ 2 ^ 56 = grind arith in
    let next = ap (sum_at (at row)) (take_more places n 0 (omega arith)) ∙ sum_at-snoc (at row) (take n places) (get_or places n 0) in
    (omega (arith, ints, ap (at row) c.from.ensures), omega (arith, ints))
