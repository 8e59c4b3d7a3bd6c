use Rattle.std.proofs.Common.{refl, arith}
use Rattle.cert_check.proofs.laws.RingWindows.{ring_image-windows, windows-ring_image}
use Rattle.cert_check.proofs.twins.have_one_image.Goals as goal

pub returns : goal.returns
returns c =
    (λ yes. ring_image-windows c.args.rule.now c.args.x.now c.args.y.now c.requires.first.some c.requires.one_length (λ i l. c.loop-place.invariant i (omega arith)), λ same. refl)

pub returns-then-ring_apply : goal.returns-then-ring_apply
returns-then-ring_apply c = grind (arith, windows-ring_image)
