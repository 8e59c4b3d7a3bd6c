use Rattle.std.proofs.Common.{length, refl, ap, ◌∙◌, arith, w64, rules, to_z, of_z, pos, ◌+ℤ◌}
use Rattle.std.proofs.lemmas.Int.{to_z-of_z}
use Rattle.tail_config.specs.Configs.{run}
use Rattle.tail_config.specs.Tails.{image_cell}
use Rattle.tail_config.proofs.Common.{run-by_letters}
use Rattle.c_structs.proofs.laws.Filled.{filled-more}
use Rattle.c_structs.proofs.images.TailParts.write_letters.Goals as goal

pub returns : goal.returns
returns c =
    let x = image_cell c.args.rule.now c.args.self.now in
    let passed = to_z-of_z w64 c.args.first c.ranges.first in
    run-by_letters x c.args.first (length c.loop-j.letters) c.loop-j.letters refl (λ a l. rw passed at (c.loop-j.invariant a (omega arith))) ∙ ap (run x c.args.first) c.loop-j.auto.letters

pub loop-j-preserved : goal.loop-j-preserved
loop-j-preserved c = filled-more (λ a. image_cell c.args.rule.now c.args.self.now (to_z w64 (of_z w64 c.args.first) +ℤ pos a)) c.loop-j.letters c.loop-j.j c.image_cell.result (omega arith) c.loop-j.invariant (search rules)
