-- The two answers as they are found, and that there is one answer.
use Rattle.std.proofs.Common.{◌≡◌, ℕ, ◌≤◌, List, refl, sym, ap, ap₂, ◌∙◌, subst, arith, ⊎_elim, IsBitSet}
use Rattle.word_image.proofs.Common.{cases_lt, LocalRule, IsOrphan, IsNodeSet, HasBit}
use Rattle.tail_config.proofs.Common.{TailConfig, IsTail}
use Rattle.tail_preimage.specs.Preimages.{PlacedConfig, Shape, IsLeastGap, stretch, IsGap}
use Rattle.tail_preimage.specs.Answers.{IsPreimageAnswer, placed_config}
use Rattle.tail_preimage.specs.Relations.{IsFirst}
use Rattle.tail_preimage.specs.Parts.{AreTailParts, PassesThrough, Starts, IsFirstGap}
use Rattle.tail_preimage.specs.FirstWalks.{AreLoopWalks}
use Rattle.tail_preimage.specs.declared.answer.Pre.{Pre}
use Rattle.tail_preimage.specs.declared.answer.Pre.TheVariants.{From, Gap}
use Rattle.tail_preimage.specs.declared.shapes.PartRelations.{PartRelations}
use Rattle.tail_preimage.proofs.laws.Walks.{IsWalk-first}
use Rattle.tail_preimage.proofs.laws.Steps.{Open-rounds}
use Rattle.tail_preimage.proofs.laws.PlacedWalks.{IsPreimage-stretch}
use Rattle.tail_preimage.proofs.laws.Parts.{SomeRounds-periods, walks-Starts, IsOrphan-PassesThrough}
use Rattle.tail_preimage.proofs.laws.LeastPreimages.{IsLeastPreimage-unique}

-- where 16 right periods lead through any number of them does
PassesThrough-any : {r : LocalRule} {t : TailConfig} {parts : PartRelations} → AreTailParts r t parts → (b a : ℕ) → PassesThrough r parts b 16
    → PassesThrough r parts b a
PassesThrough-any {parts = parts} h b a (v, w, v_node, w_node, before, row, leads) =
    let (sum, few, (n, on, both, some, rounds)) = SomeRounds-periods h.rule h.right w_node leads in
    (v, w, v_node, w_node, before, row, Open-rounds (HasBit parts.right.period) n on w some rounds a)

-- the first numbers of periods that lead nowhere are the least gap
pub IsGap-first : {r : LocalRule} {t : TailConfig} {parts : PartRelations} → IsTail r.states t → AreTailParts r t parts → (b a : ℕ)
    → IsFirstGap r parts b a → IsGap r t b a (stretch t b a)
IsGap-first {r} {t} ht h b a gap =
    let orphan : IsOrphan r (stretch t b a) = (IsOrphan-PassesThrough ht h b a).1 gap.closed in
    record {
      least = record {
        word = refl;
        orphan = orphan;
        before_least = λ i j other. ⊎_elim (λ l. absurd (gap.before_least i l (λ passes. (IsOrphan-PassesThrough ht h i j).0 other (PassesThrough-any h i j passes)))) (λ l. l) (cases_lt i b);
        after_least = λ j other. ⊎_elim (λ l. absurd (gap.after_least j l ((IsOrphan-PassesThrough ht h b j).0 other))) (λ l. l) (cases_lt j a);
      };
      before_few = gap.before_few;
      after_few = gap.after_few;
      none = λ p maps. let found = IsPreimage-stretch h.rule maps b a in orphan.none found.0 found.1;
    }

-- the least of the nodes from which walks of a shape lead
pub Starts-least : {r : LocalRule} {t : TailConfig} {parts : PartRelations} {s : Shape} {set v : ℕ} → AreTailParts r t parts
    → IsNodeSet r (Starts r parts s) set → IsFirst (IsBitSet set) v
    → (u q : ℕ) (a b c : List ℕ) → AreLoopWalks r t s u q a b c → v ≤ u
Starts-least {v = v} h set least u q a b c walks =
    ⊎_elim (λ l. absurd (least.none u l ((set.nodes u (IsWalk-first walks.left)).1 (walks-Starts h walks)))) (λ l. l) (cases_lt u v)

-- there is one least gap
IsLeastGap-unique : {r : LocalRule} {t : TailConfig} {b a c d : ℕ} {w z : List ℕ} → IsLeastGap r t b a w → IsLeastGap r t c d z
    → (b ≡ c) × (a ≡ d) × (w ≡ z)
IsLeastGap-unique {r} {t} {b} {a} {c} {d} {w} {z} h g =
    let first : IsOrphan r (stretch t b a) = subst (IsOrphan r) h.word h.orphan in
    let second : IsOrphan r (stretch t c d) = subst (IsOrphan r) g.word g.orphan in
    let lefts : b ≡ c = omega (arith, h.before_least c d second, g.before_least b a first) in
    let rights : a ≡ d = omega (arith, h.after_least d (subst (λ n. IsOrphan r (stretch t n d)) (sym lefts) second), g.after_least a (subst (λ n. IsOrphan r (stretch t n a)) lefts first)) in
    (lefts, rights, h.word ∙ ap₂ (stretch t) lefts rights ∙ sym g.word)

-- there is one answer that is right for a configuration
pub IsPreimageAnswer-unique : (r : LocalRule) (t : TailConfig) (x y : Pre) → IsPreimageAnswer r t x → IsPreimageAnswer r t y → x ≡ y
IsPreimageAnswer-unique r t (From p) (From q) h g =
    ap (λ (c : PlacedConfig). From (record { at = c.at; left = c.config.left; middle = c.config.middle; right = c.config.right })) (IsLeastPreimage-unique h.least g.least)
IsPreimageAnswer-unique r t (From p) (Gap b a w) h g = absurd (g.none (placed_config p) h.least.preimage.maps)
IsPreimageAnswer-unique r t (Gap b a w) (From p) h g = absurd (h.none (placed_config p) g.least.preimage.maps)
IsPreimageAnswer-unique r t (Gap b a w) (Gap c d z) h g =
    let (lefts, rights, words) = IsLeastGap-unique h.least g.least in
    ap₂ (λ (i j : ℕ). Gap i j w) lefts rights ∙ ap (Gap c d) words
