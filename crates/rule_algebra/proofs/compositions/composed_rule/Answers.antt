use Rattle.std.proofs.Common.{◌≡◌, ℕ, ◌+◌, ◌-◌, ◌^◌, ◌<◌, None, ℤ, ◌+ℤ◌, slice_index, refl, ap₂, ◌∙◌, w8, to_z, of_z, rules}
use Rattle.word_image.proofs.Common.{LocalRule, IsRule, word_of, value, IsRuleBy, image, IsRuleBy-map}
use Rattle.rule_algebra.specs.AlgebraFaults.{compose_fault}
use Rattle.rule_algebra.specs.Tables.{composed}
use Rattle.rule_algebra.proofs.laws.Compositions.{compose_fault-states, IsRule-composed_fault}
use Rattle.rule_algebra.proofs.RuleParts.{offsets_of}
use Rattle.rule_algebra.proofs.compositions.composed_rule.Goals as goal

-- the letters that are given make the composed rule
by_letters : {first second : LocalRule} {k m n : ℕ} {o p : ℤ} {gives : ℕ → ℕ → Type 0} → IsRule first → IsRule second
    → compose_fault first second ≡ None
    → k ≡ first.states → m ≡ first.width → n ≡ second.width → o ≡ first.offset → p ≡ second.offset
    → ((v a : ℕ) → v < first.states ^ (first.width + second.width - 1) → gives v a → a ≡ slice_index second.table (value first.states (image first (word_of first.states (first.width + n - 1) v))))
    → IsRuleBy k (m + n - 1) (to_z w8 (of_z w8 (to_z w8 (of_z w8 o) +ℤ to_z w8 (of_z w8 p)))) gives (composed first second)
by_letters {first} {second} {k} {m} {n} {o} {p} before after none states one two offset other given =
    let same = compose_fault-states first second none in
    let give : ℕ → ℕ → ℕ → ℕ = λ k n v. slice_index second.table (value k (image first (word_of first.states (first.width + n - 1) v))) in
    IsRuleBy-map (give second.states second.width) (IsRule-composed_fault before after none) states (ap₂ (λ (i j : ℕ). i + j - 1) one two) (offsets_of before after o p offset other) refl
    (λ v a l h. given v a l h ∙ ap₂ (λ (k n : ℕ). give k n v) same two)

pub from_fn-requires-clause-rule : goal.from_fn-requires-clause-rule
from_fn-requires-clause-rule c =
    (_, by_letters c.m-m.ensures.rule c.m-n.ensures.rule c.requires c.k.ensures.states c.m-m.ensures.width c.m-n.ensures.width c.o.ensures.offset c.o-2.ensures.offset (λ v a l h. search rules))

pub returns : goal.returns
returns c =
    c.from_fn.ensures _ (by_letters c.m-m.ensures.rule c.m-n.ensures.rule c.requires c.k.ensures.states c.m-m.ensures.width c.m-n.ensures.width c.o.ensures.offset c.o-2.ensures.offset (λ v a l h. search rules))
