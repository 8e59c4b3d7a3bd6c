-- The texts that the program prints for findings, which are answers to questions, and the words for causes, which say
-- why a question has no finding.
use Rattle.std.specs.Prelude.{ℕ, List, ◌++◌, codes, Option, None, Some}
use Rattle.std.specs.Fmt.{decimal}
use Rattle.word_image.specs.Digits.{word_text}
use Rattle.rule_text.specs.PrintedRules.{printed_rule}
use Rattle.rule_algebra.specs.FaultTexts.{algebra_text}
use Rattle.rule_classes.specs.FaultTexts.{lift_text}
use Rattle.tail_config.specs.TailFaults.{tail_fault_text}
use Rattle.cert_values.specs.WrittenTexts.{certificate_text}
use Rattle.ca_questions.specs.Findings.{Finding, Cause}
use Rattle.ca_text.specs.Reports.{line, number_line, surjective_line, report_lines}
use Rattle.ca_text.specs.Lines.{map_lines, automaton_lines, placed_text, gap_text, counts_lines, count_line}

-- the line for the answer of `same`; the next definition is the line for the answer of `erase`
abbrev pub same_line : Option (List ℕ) → List ℕ
same_line None = line (codes "same yes")
same_line (Some w) = line (codes "same no " ++ word_text w)

abbrev pub erased_line : Option (List ℕ × List ℕ) → List ℕ
erased_line None = line (codes "erase none")
erased_line (Some pair) = line (codes "erase " ++ word_text pair.0 ++ codes " " ++ word_text pair.1)

-- the text that the program prints for a finding
abbrev pub text_of : Finding → List ℕ
text_of (Finding.Report e) = report_lines e
text_of (Finding.Written c) = certificate_text c
text_of (Finding.Orphan orphan) = surjective_line orphan
text_of (Finding.Number n) = number_line n
text_of (Finding.Rule r) = line (printed_rule r)
text_of (Finding.Inverse n c g rule) = map_lines n c g rule
text_of (Finding.Language m) = automaton_lines m
text_of (Finding.Same word) = same_line word
text_of (Finding.Erased pair) = erased_line pair
text_of (Finding.Preimage p) = line (placed_text p)
text_of (Finding.Gap before after w) = line (gap_text before after w)
text_of (Finding.Summary t) = counts_lines t
text_of (Finding.Classes t n) = counts_lines t ++ count_line (codes "classes") n

-- the words for a cause why a question has no finding
abbrev pub cause_text : Cause → List ℕ
cause_text (Cause.Twins x y) = codes "twins " ++ word_text x ++ codes " " ++ word_text y
cause_text (Cause.Wide n) = codes "wide " ++ decimal n
cause_text Cause.Colours = codes "colours"
cause_text (Cause.Lift f) = lift_text f
cause_text (Cause.Algebra f) = algebra_text f
cause_text (Cause.Tail f) = codes "tail " ++ tail_fault_text f
cause_text Cause.Weights = codes "weights"
cause_text Cause.States = codes "states"
