-- The inverse map of a determined window undoes the rule on every configuration, and the rule undoes the map (Hedlund 1969).
use Rattle.std.proofs.Common.{◌≡◌, ℕ, ◌+◌, ◌-◌, ℤ, pos, ◌+ℤ◌, ◌-ℤ◌, sym, ap, ◌∙◌, arith}
use Rattle.std.proofs.Math.Path.{fun_ext}
use Rattle.word_image.proofs.Common.{ints, LocalRule, IsRule, IsDetermined}
use Rattle.tail_config.proofs.Common.{IsInjective, IsOpen, WindowMap, IsInverseMap, map_letter, mapped, Config, IsConfig, run, image_of, length-run, get_or-run}
use Rattle.tail_laws.proofs.Common.{IsInjective-determined}
use Rattle.config_laws.specs.Maps.{IsOntoMap}
use Rattle.config_laws.proofs.Images.{IsPreimage-run}
use Rattle.config_laws.proofs.BothSides.{IsOntoMap-closing}

-- an injective rule is closing on both sides
pub IsOpen-injective : (r : LocalRule) → IsInjective r → IsOpen r
IsOpen-injective r injective = (λ x y hx hy share agree. injective x y hx hy share, λ x y hx hy share agree. injective x y hx hy share)

-- under an injective rule each configuration is an image
pub IsOntoMap-injective : {r : LocalRule} → IsRule r → IsInjective r → IsOntoMap r
IsOntoMap-injective {r} rule injective = IsOntoMap-closing rule (IsOpen-injective r injective)

-- the map gives a configuration back from its image
pub mapped-image_of : {r : LocalRule} {n c : ℕ} {g : WindowMap} {x : Config} → IsRule r → IsDetermined r n c → IsInverseMap r n c g
    → IsConfig r.states x → mapped g (image_of r x) ≡ x
mapped-image_of {r} {n} {c} {g} {x} rule window h hx = fun_ext (λ i.
    let d : ℕ = r.width - 1 in
    let s : ℤ = i -ℤ pos c in
    let e : ℤ = i +ℤ g.offset in
    ap (λ l. map_letter g (run (image_of r x) e l)) h.width
    ∙ h.letter (run (image_of r x) e n) (run x s (n + d)) (length-run (image_of r x) e n) (IsPreimage-run rule hx e s n (omega (arith, ints)))
    ∙ get_or-run x s i (n + d) c (omega arith) (omega (arith, ints)))

-- the rule gives a configuration back from what the map makes of it
pub image_of-mapped : {r : LocalRule} {n c : ℕ} {g : WindowMap} {y : Config} → IsRule r → IsDetermined r n c → IsInverseMap r n c g
    → IsConfig r.states y → image_of r (mapped g y) ≡ y
image_of-mapped {r} {n} {c} {g} {y} rule window h hy =
    let found = IsOntoMap-injective rule (IsInjective-determined rule window) y hy in
    ap (λ z. image_of r (mapped g z)) (sym found.2) ∙ ap (image_of r) (mapped-image_of rule window h found.1) ∙ found.2
