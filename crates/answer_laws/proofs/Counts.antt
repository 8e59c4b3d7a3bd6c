-- Rules are counted in one way, and so are their classes.
use Rattle.std.proofs.Common.{◌≡◌, ◌≤◌, ℕ, ◌+◌, List, length, All, Contains, refl, ap, subst, arith}
use Rattle.word_image.proofs.Common.{All-contains, LocalRule, IsRule}
use Rattle.rule_classes.proofs.laws.Classes.{IsLeastOfClass-unique}
use Rattle.ca_questions.proofs.Common.{AreMany, Counts, AreCounts, AreLeastRules, IsLeastOfItsClass}
use Rattle.ca_questions.specs.Counts.AreMany.{None, One, Other}
use Rattle.answer_laws.proofs.Lists.{length-le_from_contained}

-- one number alone counts the rules of a list that have a property
AreMany-unique : {Has : LocalRule → Type 0} {rules : List LocalRule} {n m : ℕ} → AreMany Has rules n → AreMany Has rules m → n ≡ m
AreMany-unique None None = refl
AreMany-unique (One r rules n has rest) (One _ _ m _ also) = ap (λ i. i + 1) (AreMany-unique rest also)
AreMany-unique (One r rules n has rest) (Other _ _ m lacks also) = absurd (lacks has)
AreMany-unique (Other r rules n lacks rest) (One _ _ m has also) = absurd (lacks has)
AreMany-unique (Other r rules n lacks rest) (Other _ _ m _ also) = AreMany-unique rest also

-- the counts of rules are one
pub AreCounts-unique : {rules : List LocalRule} {t u : Counts} → AreCounts rules t → AreCounts rules u → t ≡ u
AreCounts-unique {t = t} {u = u} h g = grind (arith, AreMany-unique)

-- the least rules of one list are among those of another
leasts_within : {rules leasts others : List LocalRule} → All IsRule rules → AreLeastRules rules leasts → AreLeastRules rules others
    → All (Contains others) leasts
leasts_within {rules} {leasts} {others} accepted here there i d within =
    let (r, among, (mirror, is)) = here.no_others i d within in
    let (h, listed, (also, least)) = All-contains (λ r. (g : LocalRule) × Contains others g × IsLeastOfItsClass r g) rules r there.complete among in
    subst (Contains others) (IsLeastOfClass-unique (All-contains IsRule rules r accepted among) also mirror least is) listed

-- one list of least rules is no longer than another
length-AreLeastRules-le : {rules leasts others : List LocalRule} → All IsRule rules → AreLeastRules rules leasts → AreLeastRules rules others
    → length leasts ≤ length others
length-AreLeastRules-le {rules} {leasts} {others} accepted here there = length-le_from_contained leasts others here.distinct (leasts_within accepted here there)

-- two lists of the least rules of some rules have one number of rules
pub length-AreLeastRules : {rules leasts others : List LocalRule} → All IsRule rules → AreLeastRules rules leasts → AreLeastRules rules others
    → length leasts ≡ length others
length-AreLeastRules accepted here there = omega (arith, length-AreLeastRules-le accepted here there, length-AreLeastRules-le accepted there here)
