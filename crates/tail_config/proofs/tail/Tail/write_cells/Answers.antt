use Rattle.std.proofs.Common.{length, refl, ap, ◌∙◌, arith, rules, w64}
use Rattle.std.proofs.lemmas.Int.{to_z-of_z}
use Rattle.tail_config.specs.Tails.{cell, cells}
use Rattle.tail_config.proofs.laws.Runs.{run-by_letters}
use Rattle.tail_config.proofs.tail.Tail.write_cells.Goals as goal

pub returns : goal.returns
returns c =
    let t = c.args.self.now.config in
    run-by_letters (cell t) c.args.start (length c.loop-j.row) c.loop-j.row refl (λ a l. rw (to_z-of_z w64 c.args.start c.ranges.start) at (c.loop-j.invariant a (omega arith))) ∙ ap (cells t c.args.start) c.loop-j.auto.row

pub loop-j-preserved : goal.loop-j-preserved
loop-j-preserved c a l = grind (rules, c.loop-j.invariant)
