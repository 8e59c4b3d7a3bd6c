-- A rule is injective exactly if each configuration has one preimage.
use Rattle.std.proofs.Common.{◌≡◌, ◌↔◌, sym, ap, ◌∙◌, arith}
use Rattle.word_image.proofs.Common.{LocalRule, IsRule}
use Rattle.tail_config.proofs.Common.{IsInjective}
use Rattle.config_laws.proofs.Bijective.{IsInjective-bijective}
use Rattle.preimage_laws.specs.PreimageCounts.{IsToOne}

-- a rule is injective exactly if each configuration has one preimage
pub IsInjective-one : {r : LocalRule} → IsRule r → IsInjective r ↔ IsToOne r 1
IsInjective-one {r} rule = (
  λ injective y hy.
      let (x, hx, maps, only) = (IsInjective-bijective rule).0 injective y hy in
      (λ i. x, record { configs = λ i l. hx; maps = λ i l. maps; differ = λ i j l h. absurd (omega arith); all = λ z hz mz. (0, omega arith, sym (only z hz mz)) }),
  λ each. (IsInjective-bijective rule).1 (λ y hy.
      let (xs, are) = each y hy in (
        xs 0,
        are.configs 0 (omega arith),
        are.maps 0 (omega arith),
        λ z hz mz.
            let (i, l, is) = are.all z hz mz in
            let first : i ≡ 0 = omega arith in
            sym is ∙ ap xs first,
      )),
)
