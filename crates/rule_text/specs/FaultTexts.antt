-- How a fault of the text of a rule is printed: as a word, followed by the place in the text if the fault has a place.
-- For example, `letter 15`.
use Rattle.std.specs.Prelude.{ℕ, List, [], ◌++◌, codes, Option, Some, None}
use Rattle.std.specs.Fmt.{decimal}
use Rattle.rule_text.specs.declared.text_fault.TextFault.{TextFault}
use Rattle.rule_text.specs.declared.text_fault.TextFault.TheVariants as fault

-- the word for a fault
abbrev pub fault_name : TextFault → List ℕ
fault_name (fault.Form place) = codes "form"
fault_name fault.States = codes "states"
fault_name fault.Width = codes "width"
fault_name fault.Nodes = codes "nodes"
fault_name fault.Offset = codes "offset"
fault_name fault.Kind = codes "kind"
fault_name fault.Length = codes "length"
fault_name (fault.Letter place) = codes "letter"
fault_name fault.Number = codes "number"

-- the place of a fault, if it has one
abbrev pub fault_place : TextFault → Option ℕ
fault_place (fault.Form place) = Some place
fault_place (fault.Letter place) = Some place
fault_place _ = None

-- a blank and the place of a fault, or nothing if the fault has no place
abbrev pub place_text : Option ℕ → List ℕ
place_text None = []
place_text (Some place) = codes " " ++ decimal place

-- the word for a fault, and its place if it has one
abbrev pub fault_text : TextFault → List ℕ
fault_text f = fault_name f ++ place_text (fault_place f)
