use Rattle.std.proofs.Common.{◌+◌, ◌-◌, ◌*◌, length, refl, ap, ◌∙◌, arith}
use Rattle.inverse_table.proofs.ImageLaws.{AreImageValues-fit, power-longer}
use Rattle.inverse_table.proofs.WordCounts.{power-most}
use Rattle.inverse_table.proofs.image_values.write_images.Goals as goal

pub write_longer-requires-clause-fits : goal.write_longer-requires-clause-fits
write_longer-requires-clause-fits c = grind (arith, AreImageValues-fit)

pub write_longer-requires-clause-few : goal.write_longer-requires-clause-few
write_longer-requires-clause-few c =
    let r = c.args.rule.now in
    let count = c.loop.counter in
    let most = power-most c.nodes.ensures.rule c.args.n (count + 1 + (r.width - 1)) r.states c.requires.fits refl (omega arith) in
    let long = ap length c.deref.ensures.value ∙ c.loop.invariant.images.long in
    omega (arith, most, power-longer r count, ap (λ j. j * r.states) long)
