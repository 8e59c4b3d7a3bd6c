-- A report has verdicts on a rule, with evidence. This file defines its lines, and how any line is written.
use Rattle.std.specs.Prelude.{ℕ, List, [], ◌∷◌, ◌++◌, codes, Option, None, Some, if◌then◌else◌}
use Rattle.std.specs.List.{flat_map}
use Rattle.std.specs.Fmt.{decimal}
use Rattle.word_image.specs.Digits.{word_text}
use Rattle.tail_config.specs.TailTexts as tail
use Rattle.rule_text.specs.PrintedRules.{printed_rule, offset_text, number_found}
use Rattle.cert_values.specs.Evidence.{InjectiveEvidence, SideEvidence, SumEvidence, Window, Twins, Ahead, Split, Flux, Ring, says_open}
use Rattle.certificate_laws.specs.LeastEvidence.{Evidence}

-- the line of a text: the text and the byte at the end of a line
abbrev pub line : List ℕ → List ℕ
line text = text ++ 10 ∷ []

-- the line with the Wolfram number of a rule, or with the word none if the rule has none
abbrev pub number_line : Option ℕ → List ℕ
number_line None = line (codes "number none")
number_line (Some n) = line (codes "number " ++ decimal n)

-- the line that says whether a rule is surjective: yes, or no with an orphan
abbrev pub surjective_line : Option (List ℕ) → List ℕ
surjective_line None = line (codes "surjective yes")
surjective_line (Some w) = line (codes "surjective no orphan " ++ word_text w)

-- the line that says whether a rule is injective: yes with a window, or no with twins
abbrev pub injective_line : InjectiveEvidence → List ℕ
injective_line (Window n c) = line (codes "injective yes window " ++ decimal n ++ codes " " ++ decimal c)
injective_line (Twins x y) = line (codes "injective no twins " ++ word_text x ++ codes " " ++ word_text y)

-- the line that says whether a rule is closing on the side with this name: yes with a look-ahead, or no with a split
abbrev pub side_line : List ℕ → SideEvidence → List ℕ
side_line name (Ahead n) = line (name ++ codes " yes ahead " ++ decimal n)
side_line name (Split x y) = line (name ++ codes " no split " ++ tail.printed x ++ codes " " ++ tail.printed y)

-- the line that says whether a rule is conserving: yes with a flux, or no with a ring
abbrev pub conserving_line : SumEvidence → List ℕ
conserving_line (Flux phi) = line (codes "conserving yes flux" ++ flat_map (λ z. codes " " ++ offset_text z) phi)
conserving_line (Ring p) = line (codes "conserving no ring " ++ word_text p)

-- the eight lines of a report
abbrev pub report_lines : Evidence → List ℕ
report_lines e =
    line (codes "rule " ++ printed_rule e.rule) ++ number_line (number_found e.rule) ++ surjective_line e.orphan ++ injective_line e.injective
    ++ side_line (codes "right") e.right ++ side_line (codes "left") e.left ++ line (if says_open e.right e.left then codes "open yes" else codes "open no")
    ++ conserving_line e.conserving
