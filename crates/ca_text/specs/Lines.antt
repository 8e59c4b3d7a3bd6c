-- The lines that the program prints for findings, which are the answers to questions. The lines of reports are in
-- another file.
use Rattle.std.specs.Prelude.{ℕ, ◌+◌, ◌-◌, ◌*◌, List, ◌++◌, codes, slice_index, Option, None, Some}
use Rattle.std.specs.List.{flat_map, range_with_len}
use Rattle.std.specs.Fmt.{decimal}
use Rattle.word_image.specs.Digits.{word_text}
use Rattle.word_image.specs.LocalRules.{LocalRule}
use Rattle.rule_text.specs.PrintedRules.{printed_rule, offset_text}
use Rattle.tail_config.specs.TailTexts as tail
use Rattle.tail_config.specs.InverseMaps.{WindowMap}
use Rattle.image_minimal.specs.ImageLanguages.{Automaton}
use Rattle.tail_preimage.specs.Preimages.{PlacedConfig}
use Rattle.ca_questions.specs.Counts.{Counts}
use Rattle.ca_text.specs.Reports.{line}

-- the text of a rule, or the word none if there is no rule
abbrev pub rule_text : Option LocalRule → List ℕ
rule_text None = codes "none"
rule_text (Some r) = printed_rule r

-- the four lines of an inverse map: its window, its offset, its letters, and the map as a rule
abbrev pub map_lines : ℕ → ℕ → WindowMap → Option LocalRule → List ℕ
map_lines n c g rule =
    line (codes "window " ++ decimal n ++ codes " " ++ decimal c) ++ line (codes "offset " ++ offset_text g.offset)
    ++ line (codes "map " ++ word_text g.table) ++ line (codes "rule " ++ rule_text rule)

-- the line with the number of classes
abbrev pub classes_line : ℕ → List ℕ
classes_line n = line (codes "classes " ++ decimal n)

-- the line with the number of the class of the orphans, or with the word none if there are no orphans
abbrev pub dead_line : Option ℕ → List ℕ
dead_line None = line (codes "dead none")
dead_line (Some i) = line (codes "dead " ++ decimal i)

-- the class (a state of the automaton) to which the letter a leads from class i
abbrev pub after_class : Automaton → ℕ → ℕ → ℕ
after_class m i a = slice_index m.next (i * m.states + a)

-- the line of class i: the classes that follow it, by ascending letters, with blanks between them
abbrev pub class_line : Automaton → ℕ → List ℕ
class_line m i = line (decimal (after_class m i 0) ++ flat_map (λ a. codes " " ++ decimal (after_class m i a)) (range_with_len 1 (m.states - 1)))

-- the lines of an automaton: how many classes it has, the class of the orphans, and one line for each class
abbrev pub automaton_lines : Automaton → List ℕ
automaton_lines m = classes_line m.classes ++ dead_line m.dead ++ flat_map (class_line m) (range_with_len 0 m.classes)

-- the text of a placed configuration: the word `preimage`, the place at which its middle begins, and the configuration
abbrev pub placed_text : PlacedConfig → List ℕ
placed_text p = codes "preimage " ++ offset_text p.at ++ codes " " ++ tail.printed p.config

-- the text of a gap, which is a part of a configuration without a preimage: how many left and right periods it spans, and its word
abbrev pub gap_text : ℕ → ℕ → List ℕ → List ℕ
gap_text before after w = codes "no preimage " ++ decimal before ++ codes " " ++ decimal after ++ codes " " ++ word_text w

-- the line of a name and a count
abbrev pub count_line : List ℕ → ℕ → List ℕ
count_line name n = line (name ++ codes " " ++ decimal n)

-- the seven lines of the counts of rules
abbrev pub counts_lines : Counts → List ℕ
counts_lines t =
    count_line (codes "rules") t.rules ++ count_line (codes "surjective") t.surjective ++ count_line (codes "injective") t.injective
    ++ count_line (codes "right") t.right ++ count_line (codes "left") t.left ++ count_line (codes "open") t.open_ ++ count_line (codes "conserving") t.conserving
