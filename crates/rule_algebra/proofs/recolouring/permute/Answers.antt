use Rattle.std.proofs.Common.{◌≡◌, ℕ, ◌^◌, ◌<◌, List, slice_index, refl, sym, ap, subst, ℤ, w8, to_z, of_z, rules}
use Rattle.word_image.proofs.Common.{LocalRule, IsRule, value, word_of, IsRuleBy, IsRuleBy-map}
use Rattle.rule_algebra.specs.Algebra.{IsRecolouring, IsRecoloured, recoloured}
use Rattle.rule_algebra.specs.Tables.{AreOldLetters}
use Rattle.rule_algebra.proofs.laws.Recolouring.{new_colour, recoloured_rule, IsRule-recoloured, IsRecoloured-rule, RecoloursImages-recoloured}
use Rattle.rule_algebra.proofs.recolouring.permute.Goals as goal

-- the new colours that are given make the recoloured rule
by_colours : {r : LocalRule} {colours : List ℕ} (letters : List ℕ) {k m : ℕ} {o : ℤ} {gives : ℕ → ℕ → Type 0} → IsRule r
    → IsRecolouring r.states colours → k ≡ r.states → m ≡ r.width → o ≡ r.offset
    → ((v a : ℕ) → v < r.states ^ r.width → gives v a → a ≡ slice_index colours (slice_index r.table (value r.states (recoloured letters (word_of r.states r.width v)))))
    → IsRuleBy k m (to_z w8 (of_z w8 o)) gives (recoloured_rule r colours letters)
by_colours {r} {colours} letters rule h states width offset given =
    IsRuleBy-map (λ v. new_colour r colours letters (word_of r.states r.width v)) (IsRule-recoloured colours letters rule h.word) states width offset refl given

pub from_fn-requires-clause-rule : goal.from_fn-requires-clause-rule
from_fn-requires-clause-rule c =
    let h = subst (λ k. IsRecolouring k c.args.colours.now) c.k.ensures.states (c.if-not-is_recolouring.ensures.0 refl) in
    (_, by_colours c.old_letters-letters.result c.k.ensures.rule h c.k-3.ensures.states c.m.ensures.width c.o.ensures.offset (λ v a l given. search rules))

-- the recoloured rule is what is made
made : (c : goal.After-from_fn) → c.from_fn.result ≡ recoloured_rule c.args.rule.now c.args.colours.now c.old_letters-letters.result
made c =
    let h = subst (λ k. IsRecolouring k c.args.colours.now) c.k.ensures.states (c.if-not-is_recolouring.ensures.0 refl) in
    c.from_fn.ensures _ (by_colours c.old_letters-letters.result c.k.ensures.rule h c.k-3.ensures.states c.m.ensures.width c.o.ensures.offset (λ v a l given. search rules))

pub returns-clause-recoloured : goal.returns-clause-recoloured
returns-clause-recoloured c =
    let h = subst (λ k. IsRecolouring k c.args.colours.now) c.k.ensures.states (c.if-not-is_recolouring.ensures.0 refl) in
    let old = subst (λ k. AreOldLetters k c.args.colours.now k c.old_letters-letters.result) c.k-2.ensures.states c.old_letters-letters.ensures in
    subst (IsRecoloured c.args.colours.now c.args.rule.now) (sym (made c)) (IsRecoloured-rule c.k.ensures.rule h old)

pub returns-clause-offset : goal.returns-clause-offset
returns-clause-offset c = ap (λ (g : LocalRule). g.offset) (made c)

pub returns-clause-images : goal.returns-clause-images
returns-clause-images c = RecoloursImages-recoloured c.k.ensures.rule (returns-clause-recoloured c)
