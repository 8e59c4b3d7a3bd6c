-- What claims of ranks say of windows and look-aheads, and so of injectivity and of closing on either side; what twins and splits say against them.
use Rattle.std.proofs.Common.{◌≡◌, ◌≢◌, ℕ, ◌≤◌, List, length, Option, refl, arith, ◌↔◌, IsTrue}
use Rattle.word_image.proofs.Common.{false≢true, LocalRule, IsRule, IsWord, ring_image, IsTwins, pair_count, IsFirstOfRight, IsFirstOfLeft}
use Rattle.word_image.specs.declared.side.Side.{Side}
use Rattle.word_image.specs.declared.side.Side.TheVariants.{Right, Left}
use Rattle.pair_laws.proofs.Common.{IsDetermined-claims, ahead-claims}
use Rattle.tail_config.proofs.Common.{TailConfig, Different, ShareImage, AgreeLeft, AgreeRight, IsInjective, IsRightClosing, IsLeftClosing}
use Rattle.tail_laws.proofs.Common.{IsInjective-determined, IsRightClosing-ahead, IsLeftClosing-ahead, no_twins, IsRightClosing-none, IsLeftClosing-none}
use Rattle.cert_values.proofs.Common.{InjectiveEvidence, SideEvidence, IsInjectiveShape, IsSideShape, Window, Twins, Ahead, Split}
use Rattle.cert_conditions.specs.Breaches.{EachBelow}
use Rattle.cert_conditions.specs.Claims.{claim, Falls, IsWindowPair, IsAheadPair}
use Rattle.cert_conditions.specs.Conditions.{OfWindow, OfTwins, OfAhead, OfSplit}
use Rattle.cert_values.specs.Evidence.{says_injective, says_closing}

-- the claim of each pair falls
abbrev pub AllFall : Side → LocalRule → List (Option ℕ) → Type 0
AllFall side r row = EachBelow (pair_count r) (Falls side r row)

-- two configurations that differ, agree on a side, and share an image
abbrev pub AreSplit : (TailConfig → TailConfig → Type 0) → LocalRule → TailConfig → TailConfig → Type 0
AreSplit Agree r x y = Different x y × Agree x y × ShareImage r x y

-- two different words of one length, with letters, whose rings have one image
abbrev pub AreAlike : LocalRule → List ℕ → List ℕ → Type 0
AreAlike r x y = ((length x ≡ length y) × (1 ≤ length x)) × (x ≢ y) × (ring_image r x ≡ ring_image r y)

-- words that are alike are twins
pub IsTwins-alike : {r : LocalRule} {x y : List ℕ} → IsWord r.states x → IsWord r.states y → AreAlike r x y → IsTwins r x y
IsTwins-alike hx hy alike =
    record {
      first = record { word = hx; some = alike.0.1 };
      second = record { word = hy; some = omega (arith, alike.0.0, alike.0.1) };
      one_length = alike.0.0;
      different = alike.1;
      one_image = alike.2;
    }

-- what is said of injectivity is true where its conditions are met
pub IsInjective-said : {r : LocalRule} → IsRule r → (forward backward : List (Option ℕ)) → AllFall Right r forward → AllFall Left r backward
    → (e : InjectiveEvidence) → IsInjectiveShape r e → OfWindow e (λ n c. EachBelow (pair_count r) (IsWindowPair r forward backward n c))
    → OfTwins e (AreAlike r)
    → IsTrue (says_injective e) ↔ IsInjective r
IsInjective-said rule forward backward falls back (Window n c) shape pairs alike = ((λ _. IsInjective-determined rule (IsDetermined-claims {forward = claim forward} {backward = claim backward} rule falls back n c shape.0 shape.2 pairs)), (λ _. refl))
IsInjective-said {r} rule forward backward falls back (Twins x y) shape pairs alike = ((λ no. absurd (false≢true no)), (λ injective. absurd (no_twins (IsTwins-alike {r = r} shape.0 shape.1 alike) injective)))

-- what is said of closing on the right is true where its conditions are met
pub IsRightClosing-said : {r : LocalRule} → IsRule r → (forward : List (Option ℕ)) → AllFall Right r forward → (e : SideEvidence) → IsSideShape r e
    → OfAhead e (λ n. EachBelow (pair_count r) (IsAheadPair (IsFirstOfRight r) forward n)) → OfSplit e (AreSplit AgreeLeft r)
    → IsTrue (says_closing e) ↔ IsRightClosing r
IsRightClosing-said rule forward falls (Ahead n) shape pairs apart = ((λ _. IsRightClosing-ahead rule (ahead-claims Right {claim = claim forward} rule falls n shape.0 pairs)), (λ _. refl))
IsRightClosing-said {r} rule forward falls (Split x y) shape pairs apart = (
  (λ no. absurd (false≢true no)),
  (λ closing. absurd ((IsRightClosing-none r).0 closing x y (record { first = shape.0.tail; second = shape.1.tail; different = apart.0; share = apart.2; agree = apart.1 }))),
)

-- what is said of closing on the left is true where its conditions are met
pub IsLeftClosing-said : {r : LocalRule} → IsRule r → (backward : List (Option ℕ)) → AllFall Left r backward → (e : SideEvidence) → IsSideShape r e
    → OfAhead e (λ n. EachBelow (pair_count r) (IsAheadPair (IsFirstOfLeft r) backward n)) → OfSplit e (AreSplit AgreeRight r)
    → IsTrue (says_closing e) ↔ IsLeftClosing r
IsLeftClosing-said rule backward back (Ahead n) shape pairs apart = ((λ _. IsLeftClosing-ahead rule (ahead-claims Left {claim = claim backward} rule back n shape.0 pairs)), (λ _. refl))
IsLeftClosing-said {r} rule backward back (Split x y) shape pairs apart = (
  (λ no. absurd (false≢true no)),
  (λ closing. absurd ((IsLeftClosing-none r).0 closing x y (record { first = shape.0.tail; second = shape.1.tail; different = apart.0; share = apart.2; agree = apart.1 }))),
)
