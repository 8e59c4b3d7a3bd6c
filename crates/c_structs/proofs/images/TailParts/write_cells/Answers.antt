use Rattle.std.proofs.Common.{length, refl, ap, ◌∙◌, arith, w64, rules, to_z, of_z, pos, ◌+ℤ◌}
use Rattle.std.proofs.lemmas.Int.{to_z-of_z}
use Rattle.tail_config.specs.Tails.{cell, cells}
use Rattle.tail_config.proofs.Common.{run-by_letters}
use Rattle.c_structs.proofs.laws.Filled.{filled-more}
use Rattle.c_structs.proofs.images.TailParts.write_cells.Goals as goal

pub returns : goal.returns
returns c =
    let t = c.args.self.now in
    let passed = to_z-of_z w64 c.args.start c.ranges.start in
    run-by_letters (cell t) c.args.start (length c.loop-j.row) c.loop-j.row refl (λ a l. rw passed at (c.loop-j.invariant a (omega arith))) ∙ ap (cells t c.args.start) c.loop-j.auto.row

pub loop-j-preserved : goal.loop-j-preserved
loop-j-preserved c = filled-more (λ a. cell c.args.self.now (to_z w64 (of_z w64 c.args.start) +ℤ pos a)) c.loop-j.row c.loop-j.j c.cell.result (omega arith) c.loop-j.invariant (search rules)
