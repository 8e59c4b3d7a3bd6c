-- The JSON of findings. A finding answers a question about rules.
use Rattle.std.specs.Prelude.{ℕ, ◌*◌, List, [], ◌∷◌, map, drop, take, codes, Option, Some, None}
use Rattle.std.specs.List.{range_with_len}
use Rattle.serde_json.specs.Data.{Data, null, boolean, string}
use Rattle.word_image.specs.LocalRules.{LocalRule}
use Rattle.rule_text.specs.PrintedRules.{printed_rule, number_found}
use Rattle.tail_config.specs.InverseMaps.{WindowMap}
use Rattle.image_minimal.specs.ImageLanguages.{Automaton}
use Rattle.tail_preimage.specs.Preimages.{PlacedConfig}
use Rattle.cert_values.specs.WrittenTexts.{array_from, whole_value, signed_value, word_value, claim_value, certificate_value}
use Rattle.cert_values.specs.Evidence.{says_open}
use Rattle.certificate_laws.specs.LeastEvidence.{Evidence}
use Rattle.ca_questions.specs.Counts.{Counts}
use Rattle.ca_questions.specs.Findings.{Finding}
use Rattle.ca_json.specs.Values.{object_of, tagged, two, numbers_json, word_or_null, number_or_null, tail_json, surjective_json, injective_json, side_json, conserving_json}

-- the JSON of a rule: its printed text, or null if there is no rule
abbrev pub rule_or_null : Option LocalRule → Data
rule_or_null None = null
rule_or_null (Some r) = string (printed_rule r)

-- the JSON of a pair of words: an array of both, or null if there is no pair
abbrev pub pair_or_null : Option (List ℕ × List ℕ) → Data
pair_or_null None = null
pair_or_null (Some pair) = two (word_value pair.0) (word_value pair.1)

-- the JSON of a report: the verdicts of a rule, each with its evidence
abbrev pub report_json : Evidence → Data
report_json e = object_of (
    (codes "conserving", conserving_json e.conserving) ∷ (codes "injective", injective_json e.injective) ∷ (codes "left", side_json e.left)
    ∷ (codes "number", number_or_null (number_found e.rule)) ∷ (codes "open", boolean (says_open e.right e.left)) ∷ (codes "right", side_json e.right)
    ∷ (codes "rule", string (printed_rule e.rule)) ∷ (codes "surjective", surjective_json e.orphan) ∷ (codes "weights", numbers_json e.weights) ∷ [])

-- the JSON of the inverse map of a window (n, c): its letters, its offset, the map as a rule or null, and the window
abbrev pub inverse_json : ℕ → ℕ → WindowMap → Option LocalRule → Data
inverse_json n c g rule = object_of (
    (codes "map", word_value g.table) ∷ (codes "offset", signed_value g.offset) ∷ (codes "rule", rule_or_null rule) ∷ (codes "window", two (whole_value n) (whole_value c)) ∷ [])

-- the JSON list of the classes that follow class i, by ascending letters
abbrev pub row_json : Automaton → ℕ → Data
row_json m i = numbers_json (take m.states (drop (i * m.states) m.next))

-- the JSON of an automaton, with a row for each class
abbrev pub automaton_json : Automaton → Data
automaton_json m = object_of (
    (codes "classes", whole_value m.classes) ∷ (codes "dead", claim_value m.dead) ∷ (codes "next", array_from (map (row_json m) (range_with_len 0 m.classes)))
    ∷ (codes "states", whole_value m.states) ∷ [])

-- the JSON of a placed configuration: the place at which its middle begins, and the configuration
abbrev pub placed_json : PlacedConfig → Data
placed_json p = object_of ((codes "at", signed_value p.at) ∷ (codes "tail", tail_json p.config) ∷ [])

-- the JSON of a word without a preimage, and of how many left and right periods it spans
abbrev pub gap_json : ℕ → ℕ → List ℕ → Data
gap_json before after w = object_of ((codes "after", whole_value after) ∷ (codes "before", whole_value before) ∷ (codes "word", word_value w) ∷ [])

-- the JSON of counts: how many rules there are, and how many of them have each property
abbrev pub counts_json : Counts → Data
counts_json t = object_of (
    (codes "conserving", whole_value t.conserving) ∷ (codes "injective", whole_value t.injective) ∷ (codes "left", whole_value t.left) ∷ (codes "open", whole_value t.open_)
    ∷ (codes "right", whole_value t.right) ∷ (codes "rules", whole_value t.rules) ∷ (codes "surjective", whole_value t.surjective) ∷ [])

-- the JSON of a finding, under a key for the kind of the finding
abbrev pub finding_json : Finding → Data
finding_json (Finding.Report e) = tagged (codes "report") (report_json e)
finding_json (Finding.Written c) = tagged (codes "certificate") (certificate_value c)
finding_json (Finding.Orphan orphan) = tagged (codes "orphan") (word_or_null orphan)
finding_json (Finding.Number n) = tagged (codes "number") (number_or_null n)
finding_json (Finding.Rule r) = tagged (codes "rule") (string (printed_rule r))
finding_json (Finding.Inverse n c g rule) = tagged (codes "inverse") (inverse_json n c g rule)
finding_json (Finding.Language m) = tagged (codes "automaton") (automaton_json m)
finding_json (Finding.Same word) = tagged (codes "same") (word_or_null word)
finding_json (Finding.Erased pair) = tagged (codes "erased") (pair_or_null pair)
finding_json (Finding.Preimage p) = tagged (codes "preimage") (placed_json p)
finding_json (Finding.Gap before after w) = tagged (codes "gap") (gap_json before after w)
finding_json (Finding.Summary t) = tagged (codes "summary") (counts_json t)
finding_json (Finding.Classes t n) = object_of ((codes "classes", whole_value n) ∷ (codes "summary", counts_json t) ∷ [])
