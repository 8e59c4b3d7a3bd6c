use Rattle.std.proofs.Common.{◌≡◌, ◌+◌, ◌*◌, set, subst, arith}
use Rattle.rule_classes.specs.Tables.{AreFilled}
use Rattle.rule_classes.proofs.laws.Readings.{window-below}
use Rattle.rule_classes.proofs.laws.Tables.{AreFilled-more}
use Rattle.rule_classes.proofs.colourings.Colouring.fill_row.Goals as goal

pub loop-letter-preserved : goal.loop-letter-preserved
loop-letter-preserved c =
    let r = c.args.rule.now in
    let u = c.args.node in
    let a = c.loop-letter.letter in
    let (old, colour) = c.read-old.result in
    let rule = c.k-letter-end.ensures.rule in
    let below = window-below rule u a c.requires.node (omega (arith, c.k-letter-end.ensures.states)) in
    let next : u * r.states + a + 1 ≡ u * r.states + (a + 1) = omega arith in
    rw (c.from-window.ensures, c.window_with.ensures.value)
    (subst (λ n. AreFilled r c.args.self.now n (set c.loop-letter.windows (u * r.states + a) old) (set c.loop-letter.entries (u * r.states + a) colour)) next
    (AreFilled-more old colour rule below (c.read-old.ensures.old u c.requires.node c.requires.row) (c.read-old.ensures.colour u c.requires.node c.requires.row) c.loop-letter.invariant))
