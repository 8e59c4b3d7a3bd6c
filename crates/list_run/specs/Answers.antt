-- The program lists all rules that have a property and whose tables begin with given letters. Its words are a property
-- and a beginning: the text of a rule in table form that may end after some letters of the table. This file defines
-- the right status and the right output.
use Rattle.std.specs.Prelude.{◌≡◌, ℕ, List, [], ◌∷◌, codes}
use Rattle.rule_text.specs.declared.text_fault.TextFault.{TextFault}
use Rattle.rule_text.specs.declared.beginnings.Beginning.{Beginning}
use Rattle.rule_text.specs.Beginnings.{IsBeginning, IsBeginningFault}
use Rattle.rule_lists.specs.declared.properties.Property.{Property}
use Rattle.rule_lists.specs.declared.properties.Property.TheVariants.{Surjective, Injective, RightClosing, LeftClosing, Open, Conserving}
use Rattle.list_run.specs.declared.status.Status.{Status}
use Rattle.list_run.specs.declared.status.Status.TheVariants as status
use Rattle.list_run.specs.Lines.{usage_line, fault_line}
use Rattle.list_run.specs.Lists.{IsList, IsListSoFar}

-- the word for a property
abbrev pub name_of : Property → List ℕ
name_of Surjective = codes "surjective"
name_of Injective = codes "injective"
name_of RightClosing = codes "right"
name_of LeftClosing = codes "left"
name_of Open = codes "open"
name_of Conserving = codes "conserving"

-- the words are the word for this property, followed by this text
abbrev pub IsListing : List (List ℕ) → Property → List ℕ → Type 0
IsListing words property text = words ≡ name_of property ∷ text ∷ []

-- the right status and output: a usage error if the words aren't a property and a text, a fault if the text isn't a beginning, or else the list
pub data IsAnswer (words : List (List ℕ)) : Status → List ℕ → Type 0 where
  Usage : ((property : Property) (text : List ℕ) → ¬ IsListing words property text) → IsAnswer words status.Usage usage_line
  RuleFault : (property : Property) (text : List ℕ) (f : TextFault) → IsListing words property text → IsBeginningFault text f → IsAnswer words status.RuleFault (fault_line f)
  Done : (property : Property) (text : List ℕ) (b : Beginning) (out : List ℕ) → IsListing words property text → IsBeginning text b → IsList property b out → IsAnswer words status.Done out

-- the output is a right output, or it has only the lines of the first rules of the list
pub data IsBegun (words : List (List ℕ)) (out : List ℕ) : Type 0 where
  Whole : (s : Status) → IsAnswer words s out → IsBegun words out
  SoFar : (property : Property) (text : List ℕ) (b : Beginning) → IsListing words property text → IsBeginning text b → IsListSoFar property b out → IsBegun words out
