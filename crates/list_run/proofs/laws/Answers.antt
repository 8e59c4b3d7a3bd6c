-- What was written of a list is right, or begins what is.
use Rattle.std.proofs.Common.{◌⊎◌, ℕ, List, Option, None, Result, Ok, Err, refl, ⊎_elim}
use Rattle.word_image.proofs.Common.{LocalRule}
use Rattle.list_run.specs.declared.cut.Cut.{Cut}
use Rattle.list_run.specs.declared.cut.Cut.TheVariants as cut
use Rattle.list_run.specs.declared.status.Status.{Status}
use Rattle.rule_text.specs.declared.beginnings.Beginning.{Beginning}
use Rattle.rule_text.specs.Beginnings.{IsBeginning}
use Rattle.rule_lists.specs.declared.properties.Property.{Property}
use Rattle.list_run.specs.declared.status.Status.TheVariants as status
use Rattle.rule_lists.specs.Calls.{AreSoFar}
use Rattle.rule_lists.specs.Orders.{IsOrderFor}
use Rattle.list_run.specs.Lines.{rule_lines}
use Rattle.list_run.specs.Lists.{AreGiven, IsList, IsListSoFar}
use Rattle.list_run.specs.Answers.{IsListing, IsAnswer, IsBegun}

-- a list, or the lines of its first rules
pub IsBegun-list : (words : List (List ℕ)) (property : Property) (text : List ℕ) (b : Beginning) (out : List ℕ) → IsListing words property text
    → IsBeginning text b → IsList property b out ⊎ IsListSoFar property b out → IsBegun words out
IsBegun-list words property text b out listing begins either =
    ⊎_elim (λ list. IsBegun.Whole status.Done (IsAnswer.Done property text b out listing begins list)) (λ far. IsBegun.SoFar property text b listing begins far) either

-- the lines of the first rules begin the list
pub IsListSoFar-lines : {property : Property} {b : Beginning} {letters order : List ℕ} (rules : List LocalRule) (last : Option LocalRule)
    → AreGiven b letters
    → IsOrderFor property b.rule.states b.rule.width order → AreSoFar property b.rule.states b.rule.width letters order None rules last
    → IsListSoFar property b (rule_lines b.rule rules)
IsListSoFar-lines {letters = letters} {order = order} rules last given windows so_far =
    record { letters = letters; order = order; rules = rules; last = last; given = given; windows = windows; so_far = so_far; lines = refl }

-- why it was cut off
abbrev pub cut_of : Result Status Cut → Cut
cut_of (Ok s) = cut.Failed
cut_of (Err c) = c
