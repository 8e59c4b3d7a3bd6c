-- JSON objects, and the JSON values that several replies have.
use Rattle.std.specs.Prelude.{ℕ, List, [], ◌∷◌, map, codes, true, false, Option, Some, None}
use Rattle.std.specs.Fmt.{decimal}
use Rattle.serde_json.specs.Data.{Data, null, boolean, string, object, Members, no_members, member}
use Rattle.tail_config.specs.Tails.{TailConfig}
use Rattle.cert_values.specs.Evidence.{InjectiveEvidence, SideEvidence, SumEvidence, Window, Twins, Ahead, Split, Flux, Ring}
use Rattle.cert_values.specs.WrittenTexts.{array_from, whole_value, signed_value, word_value}

-- the members with these keys, which ascend, and these values
abbrev pub members_of : List (List ℕ × Data) → Members
members_of [] = no_members
members_of (m ∷ ms) = member m.0 m.1 (members_of ms)

-- the JSON object with these members
abbrev pub object_of : List (List ℕ × Data) → Data
object_of ms = object (members_of ms)

-- the JSON object with only this key and its value
abbrev pub tagged : List ℕ → Data → Data
tagged key value = object_of ((key, value) ∷ [])

-- the key and the value of the status of a reply
abbrev pub status : List ℕ → List ℕ × Data
status name = (codes "status", string name)

-- the JSON list of these numbers
abbrev pub numbers_json : List ℕ → Data
numbers_json ns = array_from (map whole_value ns)

-- the JSON list of these two values
abbrev pub two : Data → Data → Data
two x y = array_from (x ∷ y ∷ [])

-- the JSON of a word, or null if there is no word
abbrev pub word_or_null : Option (List ℕ) → Data
word_or_null None = null
word_or_null (Some w) = word_value w

-- the JSON string of a number in decimal, or null if there is no number
abbrev pub number_or_null : Option ℕ → Data
number_or_null None = null
number_or_null (Some n) = string (decimal n)

-- the JSON object of a configuration: its left period, its middle and its right period
abbrev pub tail_json : TailConfig → Data
tail_json t = object_of ((codes "left", word_value t.left) ∷ (codes "middle", word_value t.middle) ∷ (codes "right", word_value t.right) ∷ [])

-- The JSON of verdicts with their evidence

-- the JSON for the question whether a rule is surjective: yes, or no with an orphan
abbrev pub surjective_json : Option (List ℕ) → Data
surjective_json None = object_of ((codes "holds", boolean true) ∷ [])
surjective_json (Some w) = object_of ((codes "holds", boolean false) ∷ (codes "orphan", word_value w) ∷ [])

-- the JSON for the question whether a rule is injective: yes with a window, or no with twins
abbrev pub injective_json : InjectiveEvidence → Data
injective_json (Window n c) = object_of ((codes "holds", boolean true) ∷ (codes "window", two (whole_value n) (whole_value c)) ∷ [])
injective_json (Twins x y) = object_of ((codes "holds", boolean false) ∷ (codes "twins", two (word_value x) (word_value y)) ∷ [])

-- the JSON for the question whether a rule is closing on a side: yes with a look-ahead, or no with a split
abbrev pub side_json : SideEvidence → Data
side_json (Ahead n) = object_of ((codes "ahead", whole_value n) ∷ (codes "holds", boolean true) ∷ [])
side_json (Split x y) = object_of ((codes "holds", boolean false) ∷ (codes "split", two (tail_json x) (tail_json y)) ∷ [])

-- the JSON for the question whether a rule is conserving: yes with a flux, or no with a ring
abbrev pub conserving_json : SumEvidence → Data
conserving_json (Flux phi) = object_of ((codes "flux", array_from (map signed_value phi)) ∷ (codes "holds", boolean true) ∷ [])
conserving_json (Ring p) = object_of ((codes "holds", boolean false) ∷ (codes "ring", word_value p) ∷ [])
