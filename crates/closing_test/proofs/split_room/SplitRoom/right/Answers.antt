use Rattle.std.proofs.Common.{◌≡◌, true≢false, subst, sym, ap, ◌∙◌}
use Rattle.word_image.proofs.Common.{LocalRule}
use Rattle.tail_config.proofs.Common.{IsRightClosing}
use Rattle.closing_test.proofs.split_room.SplitRoom.right.Goals as goal

pub returns : goal.returns
returns c =
    let not : ¬ IsRightClosing c.args.pairs.now = λ closing. true≢false (sym (c.in_default.ensures.closing.1 (subst IsRightClosing (sym c.rule.ensures) closing))) in
    let states : c.k.result ≡ (let r : LocalRule = c.args.pairs.now in r.states) = c.k.ensures.states ∙ ap (λ (r : LocalRule). r.states) c.graph.ensures in
    rw (c.split.ensures, states) (not, c.find_split.ensures.split)
