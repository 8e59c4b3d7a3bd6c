-- A configuration read backwards, under the mirrored rule: what is said of the right side is said of the left.
use Rattle.std.proofs.Common.{◌≡◌, ap}
use Rattle.std.proofs.Math.IntN.{neg_ℤ-neg_ℤ}
use Rattle.std.proofs.Math.Path.{fun_ext}
use Rattle.word_image.proofs.Common.{LocalRule, IsRule, mirrored}
use Rattle.tail_config.proofs.Common.{Config, IsConfig, image_of}
use Rattle.tail_laws.proofs.Common.{flip-image_of}
pub use Rattle.tail_laws.proofs.Common.{flip}

-- read backwards twice, a configuration is itself
pub flip-flip : (x : Config) → flip (flip x) ≡ x
flip-flip x = fun_ext (λ i. ap x (neg_ℤ-neg_ℤ i))

-- the mirrored rule takes a configuration read backwards to the image read backwards
pub image_of-flip : {r : LocalRule} {x : Config} → IsRule r → IsConfig r.states x → image_of (mirrored r) (flip x) ≡ flip (image_of r x)
image_of-flip rule h = fun_ext (flip-image_of rule h)
