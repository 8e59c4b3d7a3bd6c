-- The kinds of evidence about a rule. For each property one kind shows that the rule has it, and another kind that the
-- rule doesn't have it. For example, a flux shows that a rule is conserving, and a ring that it isn't.
use Rattle.std.specs.Prelude.{ℕ, Bool, true, false, ◌&&◌, List, ℤ}
use Rattle.tail_config.specs.Tails.{TailConfig}

-- a list of sets or of pairs of nodes, each given as a number, shows that the rule is surjective; a word without a preimage shows that it isn't
pub data SurjectiveEvidence : Type 0 where
  Sets : (sets : List ℕ) → SurjectiveEvidence
  Pairs : (pairs : List ℕ) → SurjectiveEvidence
  Orphan : (w : List ℕ) → SurjectiveEvidence

-- a window (n, c) shows that the rule is injective: n letters of an image determine letter c of each preimage; two words whose rings have the same image show that it isn't
pub data InjectiveEvidence : Type 0 where
  Window : (n c : ℕ) → InjectiveEvidence
  Twins : (x y : List ℕ) → InjectiveEvidence

-- a look-ahead shows that the rule is closing on a side; two configurations that share an image and agree on the other side show that it isn't
pub data SideEvidence : Type 0 where
  Ahead : (n : ℕ) → SideEvidence
  Split : (x y : TailConfig) → SideEvidence

-- a flux, which is a number for each node, shows that the rule is conserving; a ring that doesn't keep its sum shows that it isn't
pub data SumEvidence : Type 0 where
  Flux : (phi : List ℤ) → SumEvidence
  Ring : (p : List ℕ) → SumEvidence

-- whether the evidence says that the rule is surjective: it has sets or pairs
abbrev pub says_surjective : SurjectiveEvidence → Bool
says_surjective (Sets sets) = true
says_surjective (Pairs pairs) = true
says_surjective (Orphan w) = false

-- whether the evidence says that the rule is injective: it is a determined window, not twins
abbrev pub says_injective : InjectiveEvidence → Bool
says_injective (Window n c) = true
says_injective (Twins x y) = false

-- whether the evidence says that the rule is closing on a side: it has a look-ahead
abbrev pub says_closing : SideEvidence → Bool
says_closing (Ahead n) = true
says_closing (Split x y) = false

-- whether the evidence says that the rule is conserving: it has a flux
abbrev pub says_conserving : SumEvidence → Bool
says_conserving (Flux phi) = true
says_conserving (Ring p) = false

-- whether the evidence says that the rule is open: it has look-aheads on the right and on the left
abbrev pub says_open : SideEvidence → SideEvidence → Bool
says_open right left = says_closing right && says_closing left
