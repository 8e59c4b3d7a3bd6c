-- The JSON of a reply has no float.
use Rattle.std.proofs.Common.{◌≡◌, ℕ, List, [], ◌∷◌, ◌++◌, codes, map, take, drop, ◌*◌, Option, Some, None, false, refl, ℤ, pos, negsuc}
use Rattle.word_image.proofs.Common.{range_with_len}
use Rattle.serde_json.specs.Data.{Data}
use Rattle.serde_json.specs.View.{items_of}
use Rattle.serde_json.specs.Written.{has_float, items_have_float, members_have_float}
use Rattle.image_minimal.specs.ImageLanguages.{Automaton}
use Rattle.cert_values.proofs.Common.{InjectiveEvidence, SideEvidence, SumEvidence, Window, Twins, Ahead, Split, Flux, Ring, array_from, whole_value, signed_value, claim_value}
use Rattle.cert_writing.proofs.laws.PlainValues.{IsPlain-certificate}
use Rattle.certificate_laws.specs.LeastEvidence.{Evidence}
use Rattle.rule_text.specs.PrintedRules.{number_found}
use Rattle.ca_questions.proofs.Common.{Finding, Cause, Reply}
use Rattle.ca_json.specs.Values.{members_of, numbers_json, number_or_null, word_or_null, surjective_json, injective_json, side_json, conserving_json}
use Rattle.ca_json.specs.Findings.{rule_or_null, pair_or_null, report_json, row_json, automaton_json, finding_json}
use Rattle.ca_json.specs.Causes.{cause_json, operand_json, named, places_json, parts_json}
use Rattle.rule_text.specs.FaultTexts.{fault_name, fault_place}
use Rattle.cert_conditions.specs.declared.refusal_parts.RefusalNumbers.{RefusalNumbers}
use Rattle.cert_conditions.specs.declared.refusal_parts.RefusalNumbers.TheVariants as numbers
use Rattle.cert_conditions.specs.RefusalParts.{SaidParts, parts_of}
use Rattle.ca_json.specs.Replies.{json_of}

-- a JSON value has no float
abbrev pub NoFloat : Data → Type 0
NoFloat d = has_float d ≡ false

-- the values of a list's elements have no float if none of them has one
NoFloat-array : {A : Type 0} (f : A → Data) → ((x : A) → NoFloat (f x)) → (xs : List A) → items_have_float (items_of (map f xs)) ≡ false
NoFloat-array f each [] = refl
NoFloat-array f each (x ∷ xs) = rw (each x) (NoFloat-array f each xs)

-- a list of numbers has no float
NoFloat-numbers : (ns : List ℕ) → NoFloat (numbers_json ns)
NoFloat-numbers ns = NoFloat-array whole_value (λ n. refl) ns

-- a signed number has no float
NoFloat-signed : (z : ℤ) → NoFloat (signed_value z)
NoFloat-signed (pos n) = refl
NoFloat-signed (negsuc n) = refl

-- a value that may be missing has no float if it has none in either case
NoFloat-option : {A : Type 0} (f : Option A → Data) → NoFloat (f None) → ((x : A) → NoFloat (f (Some x))) → (o : Option A) → NoFloat (f o)
NoFloat-option f none some None = none
NoFloat-option f none some (Some x) = some x

-- a word or null has no float
NoFloat-word : (o : Option (List ℕ)) → NoFloat (word_or_null o)
NoFloat-word = NoFloat-option word_or_null refl (λ w. refl)

-- the text of a number, or null, has no float
NoFloat-number : (o : Option ℕ) → NoFloat (number_or_null o)
NoFloat-number = NoFloat-option number_or_null refl (λ n. refl)

-- Of verdicts with their evidence

-- the JSON of whether a rule is injective has no float
NoFloat-injective : (e : InjectiveEvidence) → NoFloat (injective_json e)
NoFloat-injective (Window n c) = refl
NoFloat-injective (Twins x y) = refl

-- the JSON of whether a rule closes on a side has no float
NoFloat-side : (e : SideEvidence) → NoFloat (side_json e)
NoFloat-side (Ahead n) = refl
NoFloat-side (Split x y) = refl

-- the JSON of whether a rule conserves its sums has no float
NoFloat-conserving : (e : SumEvidence) → NoFloat (conserving_json e)
NoFloat-conserving (Flux phi) = rw (NoFloat-array signed_value NoFloat-signed phi)
NoFloat-conserving (Ring p) = refl

-- the JSON of a report has no float
NoFloat-report : (e : Evidence) → NoFloat (report_json e)
NoFloat-report e =
    rw (
      NoFloat-conserving e.conserving,
      NoFloat-injective e.injective,
      NoFloat-side e.left,
      NoFloat-number (number_found e.rule),
      NoFloat-side e.right,
      NoFloat-option surjective_json refl (λ w. refl) e.orphan,
      NoFloat-numbers e.weights,
    )

-- Of what is found

-- the JSON of the rows of an automaton has no float
NoFloat-rows : (m : Automaton) → NoFloat (array_from (map (row_json m) (range_with_len 0 m.classes)))
NoFloat-rows m = NoFloat-array (row_json m) (λ i. NoFloat-numbers (take m.states (drop (i * m.states) m.next))) (range_with_len 0 m.classes)

-- the JSON of an automaton has no float
NoFloat-automaton : (m : Automaton) → NoFloat (automaton_json m)
NoFloat-automaton m = rw (NoFloat-option claim_value refl (λ n. refl) m.dead, NoFloat-rows m)

-- the JSON of what is found has no float
NoFloat-finding : (f : Finding) → NoFloat (finding_json f)
NoFloat-finding (Finding.Report e) = rw (NoFloat-report e)
NoFloat-finding (Finding.Written c) = rw ((IsPlain-certificate c).no_float)
NoFloat-finding (Finding.Orphan orphan) = rw (NoFloat-word orphan)
NoFloat-finding (Finding.Number n) = rw (NoFloat-number n)
NoFloat-finding (Finding.Inverse n c g rule) = rw (NoFloat-signed g.offset, NoFloat-option rule_or_null refl (λ r. refl) rule)
NoFloat-finding (Finding.Language m) = rw (NoFloat-automaton m)
NoFloat-finding (Finding.Same word) = rw (NoFloat-word word)
NoFloat-finding (Finding.Erased pair) = rw (NoFloat-option pair_or_null refl (λ p. refl) pair)
NoFloat-finding (Finding.Preimage p) = rw (NoFloat-signed p.at)
NoFloat-finding _ = refl

-- Of causes

-- the JSON of why nothing fits has no float
NoFloat-cause : (u : Cause) → NoFloat (cause_json u)
NoFloat-cause (Cause.Twins x y) = refl
NoFloat-cause _ = refl

-- the numbers of a refusal have no float
NoFloat-places : (ns : RefusalNumbers) → NoFloat (places_json ns)
NoFloat-places numbers.None = refl
NoFloat-places _ = refl

-- members without a float have none with a word under a key before them
NoFloat-named : (key : List ℕ) (word : Option (List ℕ)) (rest : List (List ℕ × Data)) → members_have_float (members_of rest) ≡ false
    → members_have_float (members_of (named key word ++ rest)) ≡ false
NoFloat-named key None rest none = none
NoFloat-named key (Some word) rest none = none

-- the JSON of a refusal has no float
NoFloat-parts : (p : SaidParts) → NoFloat (parts_json p)
NoFloat-parts p =
    rw (NoFloat-places p.numbers) (NoFloat-named (codes "because") p.because _
    (NoFloat-named (codes "fault") p.fault _ (NoFloat-named (codes "key") p.key _ (NoFloat-named (codes "side") p.side _ refl))))

-- the JSON of a reply has no float
pub NoFloat-reply : (reply : Reply) → NoFloat (json_of reply)
NoFloat-reply (Reply.Found f) = rw (NoFloat-finding f)
NoFloat-reply (Reply.NotFit u) = rw (NoFloat-cause u)
NoFloat-reply (Reply.RuleFault operand f) = NoFloat-option (operand_json operand (fault_name f)) refl (λ place. refl) (fault_place f)
NoFloat-reply (Reply.Accepted v) = rw (NoFloat-numbers v.weights)
NoFloat-reply (Reply.Refused f) = NoFloat-parts (parts_of f)
NoFloat-reply _ = refl
