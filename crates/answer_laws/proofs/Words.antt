-- The word that tells the orphans of two rules apart, the erasable pair and the gap of a configuration are one.
use Rattle.std.proofs.Common.{◌≡◌, ◌≢◌, ℕ, List, refl, ap, Option, None, Some, Less, arith}
use Rattle.word_image.proofs.Common.{LocalRule, IsOrphan, word_cmp}
use Rattle.image_minimal.specs.ImageLanguages.{Separates}
use Rattle.tail_config.proofs.Common.{TailConfig}
use Rattle.tail_preimage.specs.Preimages.{IsGap}
use Rattle.tail_preimage.specs.Answers.{placed_config}
use Rattle.tail_preimage.specs.declared.answer.Pre.{Pre}
use Rattle.tail_preimage.specs.declared.answer.Pre.TheVariants as pre
use Rattle.tail_preimage.proofs.laws.Answers.{IsPreimageAnswer-unique}
use Rattle.ca_questions.proofs.Common.{Finding, IsSameFound, IsErasedFound}
use Rattle.answer_laws.proofs.Orders.{one_first}
use Rattle.answer_laws.proofs.Least.{IsLeastErasable-unique}

-- a word that tells two rules apart is no word on which they agree
tells_apart : {r s : LocalRule} {w : List ℕ} → Separates r s w → (IsOrphan r w → IsOrphan s w) → (IsOrphan s w → IsOrphan r w) → ⊥
tells_apart separates forth back = grind arith

-- two rules have one first word that tells them apart
Separates-unique : {r s : LocalRule} {v w : List ℕ} → Separates r s v → Separates r s w → v ≡ w
Separates-unique {r} {s} {v} {w} h g =
    let here : word_cmp v w ≢ Less = λ less. let both = g.least v less in tells_apart h both.0 both.1 in
    let there : word_cmp w v ≢ Less = λ less. let both = h.least w less in tells_apart g both.0 both.1 in
    one_first v w here there

-- one answer says whether two rules have the same orphans, with the first word that is one of one alone
pub IsSameFound-unique : (r s : LocalRule) (word other : Option (List ℕ)) → IsSameFound r s word → IsSameFound r s other → word ≡ other
IsSameFound-unique r s None None same also = refl
IsSameFound-unique r s None (Some w) same apart = let both = same w in absurd (tells_apart apart both.0 both.1)
IsSameFound-unique r s (Some w) None apart same = let both = same w in absurd (tells_apart apart both.0 both.1)
IsSameFound-unique r s (Some v) (Some w) apart also = ap Some (Separates-unique apart also)

-- one answer says whether a pair is erasable, with the least such pair
pub IsErasedFound-unique : (r : LocalRule) (pair other : Option (List ℕ × List ℕ)) → IsErasedFound r pair → IsErasedFound r other → pair ≡ other
IsErasedFound-unique r None None all also = refl
IsErasedFound-unique r None (Some pair) all least = absurd (least.0 all.0)
IsErasedFound-unique r (Some pair) None least all = absurd (least.0 all.0)
IsErasedFound-unique r (Some p) (Some q) least also = let (first, second) = IsLeastErasable-unique least.1 also.1 in ap Some (λ i. (first i, second i))

-- the finding that says this answer
abbrev finding_of_pre : Pre → Finding
finding_of_pre (pre.From p) = Finding.Preimage (placed_config p)
finding_of_pre (pre.Gap before after w) = Finding.Gap before after w

-- a configuration has one least gap
pub IsGap-unique : {r : LocalRule} {t : TailConfig} {b a c d : ℕ} {w z : List ℕ} → IsGap r t b a w → IsGap r t c d z
    → Finding.Gap b a w ≡ Finding.Gap c d z
IsGap-unique {r} {t} {b} {a} {c} {d} {w} {z} here there = ap finding_of_pre (IsPreimageAnswer-unique r t (pre.Gap b a w) (pre.Gap c d z) here there)
