-- A rule is injective exactly where no two different nodes go on together for ever both ways.
use Rattle.std.proofs.Common.{◌≢◌, ℕ, ◌-◌, ◌*◌, ◌^◌, ◌%◌, ◌<◌, ◌↔◌, IsBitSet, bit_and, sym, ◌∙◌, arith, mod-lt}
use Rattle.word_image.proofs.Common.{and_le_l, LocalRule, IsRule, node_count, first_of, second_of, pair_of, BeginTogether, EndTogether, IsEndless, IsBitSet-some, IsBitSet-zero}
use Rattle.word_image.specs.declared.side.Side.TheVariants.{Right, Left}
use Rattle.pair_laws.proofs.Common.{first_of-pair_of, second_of-pair_of, first_of-below, second_of-below, PairGoes-pair_of, Together-below, IsBitSet-and, IsBitSet-minus, IsBitSet-shl, IsDetermined-not_both_ways, IsDetermined-none_both_ways}
use Rattle.tail_config.proofs.Common.{IsInjective}
use Rattle.tail_laws.proofs.Common.{IsInjective-determined, IsInjective-window}
use Rattle.inverse_window.specs.BothWays.{GoOnBothWays}

-- two different nodes that go on both ways forbid that the rule is injective
pub not_injective : {r : LocalRule} → IsRule r → (u v : ℕ) → u ≢ v → GoOnBothWays r u v → ¬ IsInjective r
not_injective {r} rule u v different goes injective =
    let node = (Together-below Right _ _ _ _ (goes.begins 0)).1 in
    let (n, c, determined) = (IsInjective-window rule).0 injective in
    let first = first_of-pair_of r u v node in
    let second = second_of-pair_of r u v node in
    IsDetermined-not_both_ways rule determined (pair_of r u v) (λ same. different (sym first ∙ same ∙ second)) (record {
      begins = λ j. (PairGoes-pair_of Right r u v j node).1 (goes.begins j);
      ends = λ j. (PairGoes-pair_of Left r u v j node).1 (goes.ends j);
    })

-- where no two different nodes go on both ways, the rule is injective
pub injective_where_none : {r : LocalRule} → IsRule r → ((u v : ℕ) → u < node_count r → v < node_count r → u ≢ v → ¬ GoOnBothWays r u v)
    → IsInjective r
injective_where_none {r} rule none =
    IsInjective-determined rule (IsDetermined-none_both_ways rule (λ p inside different both.
    none (first_of r p) (second_of r p) (first_of-below rule p inside) (second_of-below rule p) different (record { begins = both.begins; ends = both.ends })))

-- the nodes of two rows but u are some exactly where another node goes on with u both ways
pub GoOnBothWays-some : {r : LocalRule} → IsRule r → (u begins ends : ℕ) → u < node_count r → begins < 2 ^ 16
    → ((v : ℕ) → v < 16 → (IsBitSet begins v ↔ IsEndless (BeginTogether r u v)))
    → ((v : ℕ) → v < 16 → (IsBitSet ends v ↔ IsEndless (EndTogether r u v)))
    → (bit_and (bit_and begins ends) (65535 - 1 * 2 ^ u % 2 ^ 16) ≢ 0) ↔ ((v : ℕ) × (u ≢ v) × GoOnBothWays r u v)
GoOnBothWays-some {r} rule u begins ends first small forward backward =
    let both : ℕ = bit_and begins ends in
    let few : u < 16 = omega (arith, first, rule.shape.most_nodes) in
    let one = λ (v : ℕ). IsBitSet-shl u v few in
    let rest = λ (v : ℕ). IsBitSet-minus both (1 * 2 ^ u % 2 ^ 16) v (mod-lt (1 * 2 ^ u) {m = 2 ^ 16} (omega arith)) in (
      (λ some.
          let (v, inside, here) = IsBitSet-some 16 _ (omega (arith, and_le_l both (65535 - 1 * 2 ^ u % 2 ^ 16), and_le_l begins ends)) some in
          let (there, other) = (rest v inside).0 here in
          let (b, e) = (IsBitSet-and begins ends v).0 there in
          (v, (λ same. other ((one v).1 (sym same))), record { begins = (forward v inside).0 b; ends = (backward v inside).0 e })),
      (λ (v, different, goes) none.
          let inside : v < 16 = omega (arith, (Together-below Right _ _ _ _ (goes.begins 0)).1, rule.shape.most_nodes) in
          let there = (IsBitSet-and begins ends v).1 ((forward v inside).1 goes.begins, (backward v inside).1 goes.ends) in
          IsBitSet-zero v (rw none at ((rest v inside).1 (there, (λ here. different (sym ((one v).0 here))))))),
    )
