-- A set of nodes is given as a number in which bit u stands for node u. A step on a letter leads from a set to the set
-- of all nodes that edges with this label reach from its nodes (Sutner 1991). Some lists of sets prove that a rule is
-- surjective.
use Rattle.std.specs.Prelude.{◌≡◌, ℕ, List, Contains, bit_and}
use Rattle.word_image.specs.LocalRules.{LocalRule}
use Rattle.word_image.specs.Edges.{IsStep}
use Rattle.search_laws.specs.Walks.{Walk}
use Rattle.cert_values.specs.declared.cert_version.CertVersion.{CertVersion}
use Rattle.cert_values.specs.declared.cert_version.CertVersion.TheVariants.{One, Two, Three}

-- the list has a set whose nodes are all in this set
abbrev pub HasPart : List ℕ → ℕ → Type 0
HasPart sets set = (part : ℕ) × Contains sets part × (bit_and part set ≡ part)

-- the list allows a step to this set: in version 1 the list has the set, and in versions 2 and 3 it has a set whose nodes are all in this set
abbrev pub IsKept : CertVersion → List ℕ → ℕ → Type 0
IsKept One = Contains
IsKept Two = HasPart
IsKept Three = HasPart

-- the step from the set on the letter a leads to a set that the list allows (`IsKept`)
abbrev pub StepIsKept : CertVersion → LocalRule → List ℕ → ℕ → ℕ → Type 0
StepIsKept version r sets set a = (after : ℕ) × IsStep r set a after × IsKept version sets after

-- the steps on the letters of the word lead from the first set of nodes to the second one
abbrev pub LeadsTo : LocalRule → ℕ → List ℕ → ℕ → Type 0
LeadsTo r = Walk (IsStep r)
