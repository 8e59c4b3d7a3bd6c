use Rattle.std.proofs.Common.{◌-◌, bit_and, arith}
use Rattle.pair_rank.proofs.Tables.{HasFallen-minus, IsNoted-next}
use Rattle.pair_rank.proofs.rounds.note_fallen.Goals as goal

pub loop-u-preserved : goal.loop-u-preserved
loop-u-preserved c =
    let n = c.args.nodes in
    let u = c.loop-u.u in
    let row = c.row.result in
    let next = c.row-in-loop-u.result in
    let given = c.give_rank.ensures in
    IsNoted-next c.loop-u.invariant (bit_and row (65535 - next)) c.give_rank.new.ranks
    (HasFallen-minus n c.args.set.now c.args.after.now u row next (omega arith) (λ v. c.row.ensures n v c.requires.before (omega arith)) (λ v. c.row-in-loop-u.ensures n v c.requires.after (omega arith)))
    (record { given = λ v less. given.given v less; kept = λ s v inside free. given.kept s v inside (λ same. free same inside) })
