-- What is right for accepted rules can be written.
use Rattle.std.proofs.Common.{ℕ, ◌<◌, List, inl, inr, arith, Option, Some, None}
use Rattle.word_image.proofs.Common.{All-weaker, LocalRule, IsRule, IsWord}
use Rattle.cert_values.proofs.Common.{InjectiveEvidence, SumEvidence, Window, Twins, Flux, Ring}
use Rattle.certificate_laws.specs.LeastEvidence.{IsOrphanPart, IsInjectivePart, IsConservingPart}
use Rattle.ca_questions.specs.Questions.{Question, AreRules}
use Rattle.ca_questions.specs.Findings.{Finding, Cause, IsFinding, IsCauseFor}
use Rattle.ca_questions.specs.Writable.{HasDigits, HasTwinDigits, HasRingDigits, IsWritable, IsWritableCause}

-- a word over the letters of an accepted rule
IsWord-16 : {r : LocalRule} (w : List ℕ) → IsRule r → IsWord r.states w → IsWord 16 w
IsWord-16 {r = r} w rule word = let most = rule.shape.most_states in All-weaker (λ a. a < r.states) (λ a. a < 16) (λ a below. omega arith) w word

-- the letters of the least orphan have digits
pub HasDigits-orphan : {r : LocalRule} (o : Option (List ℕ)) → IsRule r → IsOrphanPart r o → HasDigits o
HasDigits-orphan None rule h = tt
HasDigits-orphan (Some w) rule h = IsWord-16 w rule h.orphan.word

-- the letters of the least twins have digits
pub HasTwinDigits-least : {r : LocalRule} (e : InjectiveEvidence) → IsRule r → IsInjectivePart r e → HasTwinDigits e
HasTwinDigits-least (Window n c) rule h = tt
HasTwinDigits-least (Twins x y) rule h = (IsWord-16 x rule h.1.twins.first.word, IsWord-16 y rule h.1.twins.second.word)

-- the letters of the least ring have digits
pub HasRingDigits-least : {r : LocalRule} (weight : ℕ → ℕ) (e : SumEvidence) → IsRule r → IsConservingPart weight r e → HasRingDigits e
HasRingDigits-least weight (Flux phi) rule h = tt
HasRingDigits-least weight (Ring p) rule h = IsWord-16 p rule h.1.lossy.ring.word

-- a right finding can be written
pub IsWritable-right : {q : Question} {f : Finding} → AreRules q → IsFinding q f → IsWritable f
IsWritable-right rule (IsFinding.Report r named e each weights least) =
    (HasDigits-orphan e.orphan rule least.surjective, HasTwinDigits-least e.injective rule least.injective, HasRingDigits-least _ e.conserving rule least.conserving)
IsWritable-right rule (IsFinding.Orphan r orphan least) = HasDigits-orphan orphan rule least
IsWritable-right rule (IsFinding.Language r m least) =
    record { some = omega (arith, rule.shape.least_states, least.states); most = omega (arith, rule.shape.most_states, least.states); long = least.long }
IsWritable-right rule (IsFinding.Same r s None alike same) = tt
IsWritable-right rule (IsFinding.Same r s (Some w) alike apart) = elim apart.one [ inl (first, other) ↦ IsWord-16 w rule.0 first.word | inr (second, other) ↦ IsWord-16 w rule.1 second.word ]
IsWritable-right rule (IsFinding.Erase r None none) = tt
IsWritable-right rule (IsFinding.Erase r (Some pair) least) = (IsWord-16 pair.0 rule least.1.erasable.first, IsWord-16 pair.1 rule least.1.erasable.second)
IsWritable-right rule (IsFinding.Preimage r t p short from) =
    let config = from.least.preimage.maps.config in (IsWord-16 p.config.left rule config.left_word, IsWord-16 p.config.middle rule config.middle_word, IsWord-16 p.config.right rule config.right_word)
IsWritable-right rule (IsFinding.Gap r t before after w short gap) = IsWord-16 w rule gap.least.orphan.word
IsWritable-right rule found = tt

-- a right cause can be written
pub IsWritableCause-right : {q : Question} {u : Cause} → AreRules q → IsCauseFor q u → IsWritableCause u
IsWritableCause-right rule (IsCauseFor.Twins r x y none least) = (IsWord-16 x rule least.twins.first.word, IsWord-16 y rule least.twins.second.word)
IsWritableCause-right rule unfits = tt
