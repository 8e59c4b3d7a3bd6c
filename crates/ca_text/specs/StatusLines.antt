-- The lines of replies other than findings: about words that are no command, operands with faults, causes why a
-- question has no answer, inputs that are too long, and certificates.
use Rattle.std.specs.Prelude.{ℕ, ◌+◌, Bool, List, [], ◌++◌, length, codes, bytes_eq, if◌then◌else◌, Option, Some, None}
use Rattle.std.specs.List.{join_by}
use Rattle.std.specs.Fmt.{decimal}
use Rattle.word_image.specs.Weights.{own_weights}
use Rattle.rule_text.specs.PrintedRules.{printed_rule}
use Rattle.rule_text.specs.FaultTexts.{fault_text}
use Rattle.rule_text.specs.declared.text_fault.TextFault.{TextFault}
use Rattle.cert_conditions.specs.declared.refusal.Refusal.{Refusal}
use Rattle.cert_conditions.specs.declared.verdicts.Verdicts.{Verdicts}
use Rattle.cert_conditions.specs.declared.refusal_parts.RefusalNumbers.{RefusalNumbers}
use Rattle.cert_conditions.specs.declared.refusal_parts.RefusalNumbers.TheVariants as numbers
use Rattle.cert_conditions.specs.RefusalParts.{SaidParts, parts_of}
use Rattle.cert_conditions.specs.Accepted.{is_open}
use Rattle.ca_text.specs.Reports.{line}

-- the line that the program prints if the words of the command line are no command
abbrev pub usage_line : List ℕ
usage_line = line (codes "usage error")

-- the line that the program prints if the operand with this number has the fault f
abbrev pub operand_fault_line : ℕ → TextFault → List ℕ
operand_fault_line operand f = line (codes "rule fault " ++ decimal operand ++ codes " " ++ fault_text f)

-- the line that the program prints if the input is too long
abbrev pub too_long_line : List ℕ
too_long_line = line (codes "too long")

-- the line that says why a question has no answer: the word `notfit` and the words of the cause
abbrev pub not_fit_line : List ℕ → List ℕ
not_fit_line text = line (codes "notfit " ++ text)

-- The lines of an accepted certificate

-- the line of a verdict: its name, and yes or no
abbrev pub verdict_line : List ℕ → Bool → List ℕ
verdict_line name verdict = line (name ++ (if verdict then codes " yes" else codes " no"))

-- the line with the weight of each letter, or no line if each letter weighs its own value
abbrev pub weights_lines : List ℕ → List ℕ
weights_lines weights = if bytes_eq weights (own_weights (length weights)) then [] else line (codes "weights " ++ join_by decimal (codes ",") weights)

-- the lines of an accepted certificate: its rule, six verdicts, and its weights unless each letter weighs its own value
abbrev pub accepted_lines : Verdicts → List ℕ
accepted_lines v =
    line (codes "accepted " ++ printed_rule v.rule) ++ verdict_line (codes "surjective") v.surjective ++ verdict_line (codes "injective") v.injective
    ++ verdict_line (codes "right") v.right ++ verdict_line (codes "left") v.left ++ verdict_line (codes "open") (is_open v)
    ++ verdict_line (codes "conserving") v.conserving ++ weights_lines v.weights

-- The line of a refused certificate

-- a blank and a word, or nothing if there is no word
abbrev pub word_part : Option (List ℕ) → List ℕ
word_part None = []
word_part (Some word) = codes " " ++ word

-- the numbers of a refusal, each after a blank
abbrev pub number_parts : RefusalNumbers → List ℕ
number_parts numbers.None = []
number_parts (numbers.One a) = codes " " ++ decimal a
number_parts (numbers.Two a b) = codes " " ++ decimal a ++ codes " " ++ decimal b
number_parts (numbers.Three a b c) = codes " " ++ decimal a ++ codes " " ++ decimal b ++ codes " " ++ decimal c

-- the text of a refusal: its parts, in this order
abbrev pub refusal_text : SaidParts → List ℕ
refusal_text p = p.cause ++ word_part p.side ++ word_part p.because ++ word_part p.key ++ word_part p.fault ++ number_parts p.numbers

-- the number of bytes of the words of a refusal, with the blanks between them
abbrev pub words_length : SaidParts → ℕ
words_length p = length p.cause + length (word_part p.side) + length (word_part p.because) + length (word_part p.key) + length (word_part p.fault)

-- the line of a refused certificate
abbrev pub refused_line : Refusal → List ℕ
refused_line f = line (codes "refused " ++ refusal_text (parts_of f))
