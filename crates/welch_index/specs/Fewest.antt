-- The fewest last nodes and the fewest first nodes that a word has. A last node of a word is the last m - 1 letters of
-- one of its preimages, if the rule has width m, and a first node is the first m - 1 letters of one of its preimages. A
-- set of nodes is a number: bit u says whether node u is in the set.
use Rattle.std.specs.Prelude.{◌≡◌, ◌≢◌, ℕ, ◌-◌, ◌≤◌, List, take, reverse, count_ones}
use Rattle.std.specs.declared.cmp.Ordering.TheVariants.{Greater}
use Rattle.word_image.specs.LocalRules.{LocalRule, IsWord, value}
use Rattle.word_image.specs.Words.{IsPreimage, word_cmp}
use Rattle.word_image.specs.Graphs.{IsNodeSet}
use Rattle.word_image.specs.Ranks.{IsLastSet}
use Rattle.word_image.specs.declared.side.Side.{Side}
use Rattle.word_image.specs.declared.side.Side.TheVariants.{Right, Left}

-- the word w has exactly n last nodes
pub record HasLastNodes (r : LocalRule) (w : List ℕ) (n : ℕ) : Type 0 where
  pub nodes : ℕ
  pub last : IsLastSet r w nodes
  pub count : count_ones nodes ≡ n

-- u is a first node of the word w: some preimage of w has u as its first m - 1 letters
pub record IsFirstNode (r : LocalRule) (w : List ℕ) (u : ℕ) : Type 0 where
  pub x : List ℕ
  pub preimage : IsPreimage r w x
  pub first : value r.states (take (r.width - 1) x) ≡ u

-- the set has the first nodes of the word w
pub record IsFirstSet (r : LocalRule) (w : List ℕ) (set : ℕ) : Type 0 where
  pub word : IsWord r.states w
  pub first : IsNodeSet r (IsFirstNode r w) set

-- the word w has exactly n first nodes
pub record HasFirstNodes (r : LocalRule) (w : List ℕ) (n : ℕ) : Type 0 where
  pub nodes : ℕ
  pub first : IsFirstSet r w nodes
  pub count : count_ones nodes ≡ n

-- n is the least number of last nodes that a word has, w is the least word with n last nodes, and the set has these nodes
pub record IsFewestLast (r : LocalRule) (n nodes : ℕ) (w : List ℕ) : Type 0 where
  pub last : IsLastSet r w nodes
  pub count : count_ones nodes ≡ n
  pub fewest : (v : List ℕ) (c : ℕ) → HasLastNodes r v c → n ≤ c
  pub least : (v : List ℕ) → HasLastNodes r v n → word_cmp w v ≢ Greater

-- n is the least number of first nodes that a word has, w is the least word with n first nodes if words are read from right to left, and the set has these nodes
pub record IsFewestFirst (r : LocalRule) (n nodes : ℕ) (w : List ℕ) : Type 0 where
  pub first : IsFirstSet r w nodes
  pub count : count_ones nodes ≡ n
  pub fewest : (v : List ℕ) (c : ℕ) → HasFirstNodes r v c → n ≤ c
  pub least : (v : List ℕ) → HasFirstNodes r v n → word_cmp (reverse w) (reverse v) ≢ Greater

-- the fewest last nodes on the right side, and the fewest first nodes on the left side
abbrev pub IsFewestOn : Side → LocalRule → ℕ → ℕ → List ℕ → Type 0
IsFewestOn Right = IsFewestLast
IsFewestOn Left = IsFewestFirst
