use Rattle.std.proofs.Common.{◌≡◌, ℕ, ◌^◌, ◌<◌, reverse, slice_index, ap, ap₂, ◌∙◌, ℤ, w8, to_z, of_z, refl, rules}
use Rattle.word_image.specs.LocalRules.{LocalRule, IsRule, local_map, mirrored, value, word_of}
use Rattle.word_image.specs.RulesBy.{IsRuleBy}
use Rattle.word_image.specs.Words.{image}
use Rattle.word_image.proofs.laws.Images.{image-mirrored, IsRule-mirrored}
use Rattle.word_image.proofs.laws.RulesBy.{IsRuleBy-map}
use Rattle.word_image.proofs.local_rule.Rule.reflect.Goals as goal

-- what is given on the windows read backwards makes the mirrored rule
by_backwards : {r : LocalRule} {k m : ℕ} {o : ℤ} {gives : ℕ → ℕ → Type 0} → IsRule r → k ≡ r.states → m ≡ r.width → o ≡ (mirrored r).offset
    → ((v a : ℕ) → v < r.states ^ r.width → gives v a → a ≡ slice_index r.table (value k (reverse (word_of k m v))))
    → IsRuleBy k m (to_z w8 (of_z w8 o)) gives (mirrored r)
by_backwards {r} rule states width offset given =
    IsRuleBy-map (λ v. local_map r (reverse (word_of r.states r.width v))) (IsRule-mirrored rule) states width offset refl
    (λ v a l h. given v a l h ∙ ap₂ (λ (k m : ℕ). slice_index r.table (value k (reverse (word_of k m v)))) states width)

pub from_fn-requires-clause-rule : goal.from_fn-requires-clause-rule
from_fn-requires-clause-rule c = (_, by_backwards c.k-k.ensures.rule c.k-k.ensures.states c.m-m.ensures.width c.mirrored_offset.ensures (λ v a l h. search rules))

pub returns-clause-mirrored : goal.returns-clause-mirrored
returns-clause-mirrored c = c.from_fn.ensures _ (by_backwards c.k-k.ensures.rule c.k-k.ensures.states c.m-m.ensures.width c.mirrored_offset.ensures (λ v a l h. search rules))

pub returns-clause-image : goal.returns-clause-image
returns-clause-image c = λ x word. ap (λ r. image r (reverse x)) (returns-clause-mirrored c) ∙ image-mirrored c.k-k.ensures.rule x word
