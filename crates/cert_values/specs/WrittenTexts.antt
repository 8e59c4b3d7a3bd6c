-- The text that the program writes for a certificate: JSON with ascending keys and without blanks.
use Rattle.std.specs.Prelude.{ℕ, List, [], ◌∷◌, map, codes, Option, Some, None, ℤ, bytes_eq, if◌then◌else◌}
use Rattle.serde_json.specs.Data.{Data, null, number, string, array, object, unsigned, Members, no_members, member}
use Rattle.serde_json.specs.Find.{of_integer}
use Rattle.serde_json.specs.View.{items_of}
use Rattle.serde_json.specs.Written.{compact_text}
use Rattle.word_image.specs.LocalRules.{LocalRule}
use Rattle.word_image.specs.Weights.{own_weights}
use Rattle.word_image.specs.Digits.{lower_digit}
use Rattle.tail_config.specs.Tails.{TailConfig}
use Rattle.tail_config.specs.TailTexts as tail
use Rattle.rule_text.specs.PrintedRules.{printed_rule}
use Rattle.cert_values.specs.Evidence.{SurjectiveEvidence, InjectiveEvidence, SideEvidence, SumEvidence, Sets, Pairs, Orphan, Window, Twins, Ahead, Split, Flux, Ring}
use Rattle.cert_values.specs.Certificates.{Certificate}
use Rattle.cert_values.specs.Versions.{number_of}

-- the JSON array of these values
abbrev pub array_from : List Data → Data
array_from ds = array (items_of ds)

-- the JSON number of a whole number, in decimal
abbrev pub whole_value : ℕ → Data
whole_value n = number (unsigned n)

-- the JSON number of a whole number, in decimal, with a minus sign if it is negative
abbrev pub signed_value : ℤ → Data
signed_value z = number (of_integer z)

-- the JSON string of the hexadecimal digits of a word, in lower case, one digit for each letter
abbrev pub word_value : List ℕ → Data
word_value w = string (map lower_digit w)

-- the JSON string of the text of a configuration
abbrev pub tail_value : TailConfig → Data
tail_value t = string (tail.printed t)

-- the JSON value of a claim, which is a bound of the rank of a pair of nodes: null if nothing is claimed, or else a number
abbrev pub claim_value : Option ℕ → Data
claim_value None = null
claim_value (Some n) = whole_value n

-- the JSON object with only this member
abbrev pub only : List ℕ → Data → Data
only k d = object (member k d no_members)

-- the JSON value of the evidence on surjectivity: {"sets":[..]}, {"pairs":[..]} or {"orphan":".."}
abbrev pub surjective_value : SurjectiveEvidence → Data
surjective_value (Sets sets) = only (codes "sets") (array_from (map whole_value sets))
surjective_value (Pairs pairs) = only (codes "pairs") (array_from (map whole_value pairs))
surjective_value (Orphan w) = only (codes "orphan") (word_value w)

-- the JSON value of the evidence on injectivity: {"c":C,"n":N} or {"twins":["..",".."]}
abbrev pub injective_value : InjectiveEvidence → Data
injective_value (Window n c) = object (member (codes "c") (whole_value c) (member (codes "n") (whole_value n) no_members))
injective_value (Twins x y) = only (codes "twins") (array_from (word_value x ∷ word_value y ∷ []))

-- the JSON value of the evidence on closing on a side: {"ahead":A} or {"split":["..",".."]}
abbrev pub side_value : SideEvidence → Data
side_value (Ahead n) = only (codes "ahead") (whole_value n)
side_value (Split x y) = only (codes "split") (array_from (tail_value x ∷ tail_value y ∷ []))

-- the JSON value of the evidence on conservation: {"flux":[..]} or {"ring":".."}
abbrev pub sum_value : SumEvidence → Data
sum_value (Flux phi) = only (codes "flux") (array_from (map signed_value phi))
sum_value (Ring p) = only (codes "ring") (word_value p)

-- the JSON value of the claims, which are bounds of ranks: {"backward":[..],"forward":[..]}
abbrev pub ranks_value : List (Option ℕ) → List (Option ℕ) → Data
ranks_value forward backward =
    object (member (codes "backward") (array_from (map claim_value backward)) (member (codes "forward") (array_from (map claim_value forward)) no_members))

-- the member "weights", or no member if each letter weighs its own value
abbrev pub weights_members : LocalRule → List ℕ → Members
weights_members r weights = if bytes_eq weights (own_weights r.states) then no_members else member (codes "weights") (array_from (map whole_value weights)) no_members

-- the members that each certificate has, followed by the members `rest`
abbrev pub members_before : Members → Certificate → Members
members_before rest c =
    member (codes "conserving") (sum_value c.conserving)
    (member (codes "injective") (injective_value c.injective)
    (member (codes "left") (side_value c.left)
    (member (codes "ranks") (ranks_value c.forward c.backward)
    (member (codes "right") (side_value c.right)
    (member (codes "rule") (string (printed_rule c.rule))
    (member (codes "surjective") (surjective_value c.surjective)
    (member (codes "version") (whole_value (number_of c.version)) rest)))))))

-- the members of the JSON object that is written for a certificate
abbrev pub certificate_members : Certificate → Members
certificate_members c = members_before (weights_members c.rule c.weights) c

-- the JSON value that is written for a certificate
abbrev pub certificate_value : Certificate → Data
certificate_value c = object (certificate_members c)

-- the text that is written for a certificate: its keys ascend, and it has no blanks
abbrev pub certificate_text : Certificate → List ℕ
certificate_text c = compact_text (certificate_value c)
