-- The JSON of replies without a finding: a cause why a question has no answer, the fault of an operand, and a refusal
-- of a certificate.
use Rattle.std.specs.Prelude.{ℕ, List, [], ◌∷◌, ◌++◌, codes, Option, Some, None}
use Rattle.serde_json.specs.Data.{Data, null, string, Members, put}
use Rattle.tail_config.specs.TailFaults.{tail_fault_text}
use Rattle.cert_values.specs.WrittenTexts.{whole_value, word_value}
use Rattle.ca_questions.specs.Findings.{Cause}
use Rattle.rule_algebra.specs.FaultTexts.{algebra_text}
use Rattle.rule_classes.specs.FaultTexts.{lift_text}
use Rattle.cert_conditions.specs.declared.refusal_parts.RefusalNumbers.{RefusalNumbers}
use Rattle.cert_conditions.specs.declared.refusal_parts.RefusalNumbers.TheVariants as numbers
use Rattle.cert_conditions.specs.RefusalParts.{SaidParts}
use Rattle.ca_json.specs.Values.{object_of, tagged, status, numbers_json, two}

-- the JSON of a cause why a question has no answer, under a key for the kind of the cause
abbrev pub cause_json : Cause → Data
cause_json (Cause.Twins x y) = tagged (codes "twins") (two (word_value x) (word_value y))
cause_json (Cause.Wide n) = tagged (codes "wide") (whole_value n)
cause_json Cause.Colours = tagged (codes "colours") null
cause_json (Cause.Lift f) = tagged (codes "lift") (string (lift_text f))
cause_json (Cause.Algebra f) = tagged (codes "algebra") (string (algebra_text f))
cause_json (Cause.Tail f) = tagged (codes "tail") (string (tail_fault_text f))
cause_json Cause.Weights = tagged (codes "weights") null
cause_json Cause.States = tagged (codes "states") null

-- the JSON of an operand with a fault of this kind, with the place of the fault if it has one
abbrev pub operand_json : ℕ → List ℕ → Option ℕ → Data
operand_json operand name None = object_of ((codes "fault", string name) ∷ (codes "operand", whole_value operand) ∷ status (codes "rulefault") ∷ [])
operand_json operand name (Some place) = object_of (
    (codes "fault", string name) ∷ (codes "operand", whole_value operand) ∷ (codes "place", whole_value place) ∷ status (codes "rulefault") ∷ [])

-- The JSON of a refused certificate

-- the member of a key and a word, or no member if there is no word
abbrev pub named : List ℕ → Option (List ℕ) → List (List ℕ × Data)
named key None = []
named key (Some word) = (key, string word) ∷ []

-- the JSON list of the numbers of a refusal
abbrev pub places_json : RefusalNumbers → Data
places_json numbers.None = numbers_json []
places_json (numbers.One a) = numbers_json (a ∷ [])
places_json (numbers.Two a b) = numbers_json (a ∷ b ∷ [])
places_json (numbers.Three a b c) = numbers_json (a ∷ b ∷ c ∷ [])

-- the JSON object of a refusal: its parts under their keys
abbrev pub parts_json : SaidParts → Data
parts_json p = object_of (
    (codes "at", places_json p.numbers) ∷ (named (codes "because") p.because ++ ((codes "cause", string p.cause) ∷ (named (codes "fault") p.fault
    ++ (named (codes "key") p.key ++ (named (codes "side") p.side ++ (status (codes "refused") ∷ [])))))))

-- the members `ms` and the member of this key and word, or only `ms` if there is no word
abbrev pub put_named : List ℕ → Option (List ℕ) → Members → Members
put_named key None ms = ms
put_named key (Some word) ms = put key (string word) ms
