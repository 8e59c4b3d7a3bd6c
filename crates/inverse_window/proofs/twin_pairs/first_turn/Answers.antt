use Rattle.std.proofs.Common.{map}
use Rattle.word_image.proofs.Common.{LocalRule}
use Rattle.search_laws.proofs.Common.{uncode}
use Rattle.tail_laws.proofs.Common.{IsFirstFound-next, IsLeastTurn, IsLeastOf-turn}
use Rattle.inverse_window.proofs.TurnSteps.{IsFirstFound-later}
use Rattle.inverse_window.proofs.twin_pairs.first_turn.Goals as goal
use Rattle.inverse_window.proofs.twin_pairs.first_turn.Goals.{in_default, in-Some}

pub loop-p-preserved : goal.loop-p-preserved
loop-p-preserved c =
    let r : LocalRule = c.args.pairs.now in
    let rule = c.count-count.ensures.rule in
    let ends = c.count-count.ensures.count in
    elim c.match-walk_within.branch [
      | in-Some w ↦
          let turn : IsLeastTurn r c.loop-p.p (map (uncode 16) w.in-Some.turn.now) = rw ends at w.in-Some.ensures.least in
          rw w.first-is (IsFirstFound-next c.loop-p.first w.of.result w.earlier.result w.earlier.ensures c.loop-p.invariant (rw w.of.ensures (IsLeastOf-turn rule turn)))
      | in_default w ↦ rw w.first-is
          (IsFirstFound-later rule c.loop-p.p c.most_steps-most.result c.loop-p.first c.most_steps-most.ensures c.loop-p.invariant (rw ends at w.in_default.ensures.none) (rw ends at w.in_default.ensures.all))
    ]
