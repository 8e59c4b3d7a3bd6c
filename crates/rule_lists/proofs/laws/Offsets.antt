-- No property depends on where the windows of a rule lie.
use Rattle.std.proofs.Common.{◌≡◌, ℤ, ◌+ℤ◌, ◌-ℤ◌, sym, ap, ◌∙◌, arith, ◌↔◌, rules}
use Rattle.word_image.proofs.Common.{ints, LocalRule, IsRule, IsFlux}
use Rattle.tail_config.proofs.Common.{TailConfig, image_cell, ShareImage}
use Rattle.ring_laws.proofs.Fluxes.{IsConserving-flux}
use Rattle.ring_laws.proofs.FluxWalks.{walk_gains}
use Rattle.ring_laws.proofs.LossyRings.{IsConserving-walk_gains}
use Rattle.rule_lists.specs.Listed.{at_offset}
use Rattle.rule_lists.specs.Properties.{Has}
use Rattle.rule_lists.specs.declared.properties.Property.{Property}
use Rattle.rule_lists.specs.declared.properties.Property.TheVariants.{Surjective, Injective, RightClosing, LeftClosing, Open, Conserving}

-- an image cell is the one that the rule has as far away as the offset moves
image_cell-moved : (r : LocalRule) (o i : ℤ) (t : TailConfig) → image_cell (at_offset r o) t i ≡ image_cell r t (i +ℤ o -ℤ r.offset)
image_cell-moved r o i t = search rules

-- configurations that share an image at another offset share one
ShareImage-back : (r : LocalRule) (o : ℤ) (x y : TailConfig) → ShareImage (at_offset r o) x y → ShareImage r x y
ShareImage-back r o x y share i =
    let j : ℤ = i +ℤ r.offset -ℤ o in
    let place : j +ℤ o -ℤ r.offset ≡ i = omega (arith, ints) in
    sym (image_cell-moved r o j x ∙ ap (image_cell r x) place) ∙ share j ∙ image_cell-moved r o j y ∙ ap (image_cell r y) place

-- a rule with a property has it at another offset
Has-moved : (property : Property) (r : LocalRule) (o : ℤ) → IsRule r → IsRule (at_offset r o) → Has property r → Has property (at_offset r o)
Has-moved Surjective r o rule moved has = λ w hw. let found = has w hw in (found.0, record { word = found.1.word; long = found.1.long; maps = found.1.maps })
Has-moved Injective r o rule moved has = λ x y hx hy share. has x y hx hy (ShareImage-back r o x y share)
Has-moved RightClosing r o rule moved has = λ x y hx hy share agree. has x y hx hy (ShareImage-back r o x y share) agree
Has-moved LeftClosing r o rule moved has = λ x y hx hy share agree. has x y hx hy (ShareImage-back r o x y share) agree
Has-moved Open r o rule moved has = (
  λ x y hx hy share agree. has.0 x y hx hy (ShareImage-back r o x y share) agree,
  λ x y hx hy share agree. has.1 x y hx hy (ShareImage-back r o x y share) agree,
)
Has-moved Conserving r o rule moved has =
    let flux : IsFlux (λ a. a) r (walk_gains (λ a. a) r) = (IsConserving-walk_gains rule (λ a. a)).0 has in
    IsConserving-flux {phi = walk_gains (λ a. a) r} moved (record { entries = flux.entries; flows = flux.flows })

-- a rule has a property exactly if it has it at another offset
pub Has-at_offset : (property : Property) (r : LocalRule) (o : ℤ) → IsRule r → IsRule (at_offset r o) → Has property r ↔ Has property (at_offset r o)
Has-at_offset property r o rule moved = (Has-moved property r o rule moved, Has-moved property (at_offset r o) r.offset moved rule)
