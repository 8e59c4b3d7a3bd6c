use Rattle.std.proofs.Common.{◌≡◌, ℕ, List, length, take, sym, ap, ap₂, subst₂, ◌∙◌, arith}
use Rattle.word_image.proofs.Common.{IsRing, ring_image}
use Rattle.kept_sums.specs.Sums.{blocks}
use Rattle.kept_sums.specs.Stages.{IsCondition}
use Rattle.kept_sums.proofs.laws.Densities.{length-ring_image}
use Rattle.kept_sums.proofs.laws.AfterRings.{IsRing-ring_image, IsCondition-ring}
use Rattle.kept_sums.proofs.rings.words.Goals as goal

pub blocks-after-requires-clause-ring : goal.blocks-after-requires-clause-ring
blocks-after-requires-clause-ring c = subst₂ IsRing (sym c.k-2.ensures.states) (sym c.image_letters-image.ensures) (IsRing-ring_image c.k.ensures.rule c.requires.ring)

pub returns-clause-condition : goal.returns-clause-condition
returns-clause-condition c =
    let r = c.args.rule.now in
    let p = c.args.ring.now in
    let range = c.args.range in
    let image = c.image_letters-image.ensures in
    let before : take (length p) c.blocks-before.result ≡ blocks r.states range p = c.blocks-before.ensures ∙ ap (λ k. blocks k range p) c.k.ensures.states in
    let after : take (length p) c.blocks-after.result ≡ blocks r.states range (ring_image r p) =
    ap (λ n. take n c.blocks-after.result) (sym (ap length image ∙ length-ring_image r p)) ∙ c.blocks-after.ensures ∙ ap₂ (λ (k : ℕ) (x : List ℕ). blocks k range x) c.k-2.ensures.states image in
    subst₂ (IsCondition r range p) (sym after) (sym before) (IsCondition-ring c.k.ensures.rule range p c.requires.few (omega arith) c.requires.ring)
