-- Injective, closing on a side and preinjective say of configurations with periodic tails what they say of all.
use Rattle.std.proofs.Common.{ap, ◌↔◌}
use Rattle.std.proofs.Math.Path.{fun_ext}
use Rattle.word_image.proofs.Common.{LocalRule, IsRule, IsSurjective}
use Rattle.tail_config.proofs.Common.{Config, IsInjective, IsRightClosing, IsLeftClosing, cell, cell-below}
use Rattle.tail_laws.proofs.Common.{IsInjective-window, IsRightClosing-window, IsLeftClosing-window, agree_determined, agree_ahead, agree_left_ahead}
use Rattle.garden_laws.proofs.GardenOfEden.{garden_of_eden}
use Rattle.garden_laws.proofs.Preinjective.{IsSurjective-preinjective, agree_between}
use Rattle.config_laws.specs.Maps.{IsInjectiveMap, IsRightClosingMap, IsLeftClosingMap, IsPreinjectiveMap}

-- an injective rule has a determined window, which gives every letter of any configuration back from the image
pub IsInjective-everywhere : {r : LocalRule} → IsRule r → IsInjective r ↔ IsInjectiveMap r
IsInjective-everywhere {r} rule = (
  λ injective x y hx hy same. fun_ext (agree_determined rule ((IsInjective-window rule).0 injective).2 hx hy (λ i. ap (λ (z : Config). z i) same)),
  λ injective x y hx hy share i. ap (λ (z : Config). z i) (injective (cell x) (cell y) (cell-below hx) (cell-below hy) (fun_ext share)),
)

-- a right-closing rule has a look-ahead, which gives each letter right of those on which two configurations agree
pub IsRightClosing-everywhere : {r : LocalRule} → IsRule r → IsRightClosing r ↔ IsRightClosingMap r
IsRightClosing-everywhere {r} rule = (
  λ closing x y hx hy same left. fun_ext (agree_ahead rule ((IsRightClosing-window rule).0 closing).1 hx hy (λ i. ap (λ (z : Config). z i) same) left),
  λ closing x y hx hy share agree i. ap (λ (z : Config). z i) (closing (cell x) (cell y) (cell-below hx) (cell-below hy) (fun_ext share) agree),
)

-- left-closing says of configurations with periodic tails what it says of all
pub IsLeftClosing-everywhere : {r : LocalRule} → IsRule r → IsLeftClosing r ↔ IsLeftClosingMap r
IsLeftClosing-everywhere {r} rule = (
  λ closing x y hx hy same right. fun_ext (agree_left_ahead rule ((IsLeftClosing-window rule).0 closing).1 hx hy (λ i. ap (λ (z : Config). z i) same) right),
  λ closing x y hx hy share agree i. ap (λ (z : Config). z i) (closing (cell x) (cell y) (cell-below hx) (cell-below hy) (fun_ext share) agree),
)

-- a rule is surjective exactly if it is preinjective: the Garden of Eden theorem over all configurations (Moore 1962, Myhill 1963)
pub IsSurjective-preinjective_map : {r : LocalRule} → IsRule r → IsSurjective r ↔ IsPreinjectiveMap r
IsSurjective-preinjective_map {r} rule = (
  λ every x y hx hy same left right. fun_ext (agree_between rule ((garden_of_eden rule).0 every) hx hy (λ i. ap (λ (z : Config). z i) same) left right),
  λ preinjective. (IsSurjective-preinjective rule).1 (λ x y hx hy share left right i. ap (λ (z : Config). z i) (preinjective (cell x) (cell y) (cell-below hx) (cell-below hy) (fun_ext share) left right)),
)
