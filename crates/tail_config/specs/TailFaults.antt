-- Which texts describe an accepted configuration, and the first fault of a configuration that isn't accepted. A
-- configuration has three parts: a left period, a middle and a right period.
use Rattle.std.specs.Prelude.{ℕ, List, [], ◌∷◌, ◌++◌, length, Option, Some, None, nat_lt, nat_le, ◌==◌, if◌then◌else◌, position, codes}
use Rattle.std.specs.Option.{option_map, option_or}
use Rattle.tail_config.specs.Tails.{TailConfig}
use Rattle.tail_config.specs.declared.faults.Part.{Part}
use Rattle.tail_config.specs.declared.faults.Part.TheVariants as part
use Rattle.tail_config.specs.declared.faults.TailFault.{TailFault}
use Rattle.tail_config.specs.declared.faults.TailFault.TheVariants as fault
use Rattle.tail_config.specs.TailTexts.{IsShortTail, HasParts}

-- the first fault in a list of possible faults, or None if the list has only None
abbrev pub first_fault : List (Option TailFault) → Option TailFault
first_fault [] = None
first_fault (f ∷ fs) = option_or f (first_fault fs)

-- the fault `f` if the period `w` has no letter
abbrev pub empty_fault : TailFault → List ℕ → Option TailFault
empty_fault f w = if length w == 0 then Some f else None

-- the fault that the part `p` has more than 1,024 letters, if it does
abbrev pub long_fault : Part → List ℕ → Option TailFault
long_fault p w = if nat_lt 1024 (length w) then Some (fault.Long p) else None

-- the fault that the part `p` has a letter that isn't below k, with the place of the first one, if there is one
abbrev pub letter_fault : ℕ → Part → List ℕ → Option TailFault
letter_fault k p w = option_map (fault.Letter p) (position (λ a. nat_le k a) w)

-- the possible faults of length, in the order in which they are reported: an empty left or right period, then a left period, middle or right period of more than 1,024 letters
abbrev pub length_faults : List ℕ → List ℕ → List ℕ → List (Option TailFault)
length_faults left middle right =
    empty_fault fault.LeftEmpty left ∷ empty_fault fault.RightEmpty right
    ∷ long_fault part.Left left ∷ long_fault part.Middle middle ∷ long_fault part.Right right ∷ []

-- the possible faults of letters, from left to right: for each part, its first letter that isn't below k
abbrev pub letter_faults : ℕ → TailConfig → List (Option TailFault)
letter_faults k t = letter_fault k part.Left t.left ∷ letter_fault k part.Middle t.middle ∷ letter_fault k part.Right t.right ∷ []

-- the first fault of a configuration over the letters below k, or None: faults of length come before faults of letters
abbrev pub tail_fault : ℕ → TailConfig → Option TailFault
tail_fault k t = first_fault (length_faults t.left t.middle t.right ++ letter_faults k t)

-- the word for the reason why three parts don't form a configuration
abbrev pub tail_fault_text : TailFault → List ℕ
tail_fault_text fault.LeftEmpty = codes "leftempty"
tail_fault_text fault.RightEmpty = codes "rightempty"
tail_fault_text (fault.Long part) = codes "long"
tail_fault_text (fault.Letter part place) = codes "letter"

-- the text has the form `L|M|R`: it describes some configuration, accepted or not
abbrev pub HasForm : List ℕ → Type 0
HasForm text = (t : TailConfig) × HasParts text t

-- the text describes the configuration t, and t is accepted over k letters
pub record IsTailText (k : ℕ) (text : List ℕ) (t : TailConfig) : Type 0 where
  pub parts : HasParts text t
  pub accepted : IsShortTail k t
