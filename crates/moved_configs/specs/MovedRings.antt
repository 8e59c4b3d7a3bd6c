-- The least ring that a rule only moves, and the walks of windows that read a ring. A ring is a word that is read in a
-- circle. The windows are given by rows: the row of a node has the letters on which windows lead from the node.
use Rattle.std.specs.Prelude.{◌≡◌, ◌≢◌, ℕ, ◌<◌, ◌≤◌, List, [], ◌∷◌, length, ℤ, IsBitSet}
use Rattle.std.specs.declared.cmp.Ordering.TheVariants.{Greater}
use Rattle.word_image.specs.LocalRules.{LocalRule, node_count, value}
use Rattle.word_image.specs.Graphs.{HasBit, next}
use Rattle.word_image.specs.Rings.{IsRing, ring_letter}
use Rattle.word_image.specs.Words.{word_cmp}
use Rattle.tail_config.specs.Configs.{Config, IsConfig}
use Rattle.moved_configs.specs.MovedWindows.{IsMovedBy}

-- the rule only moves the ring by s: it only moves the configuration that repeats the ring for ever
pub record IsMovedRing (r : LocalRule) (s : ℤ) (p : List ℕ) : Type 0 where
  pub ring : IsRing r.states p
  pub moved : IsMovedBy r s (ring_letter p)

-- p is the least ring that the rule only moves by s: the shortest, and among those the first in dictionary order
pub record IsLeastMovedRing (r : LocalRule) (s : ℤ) (p : List ℕ) : Type 0 where
  pub moved : IsMovedRing r s p
  pub least : (q : List ℕ) → IsMovedRing r s q → word_cmp p q ≢ Greater

-- the rule moves no configuration by s
abbrev pub MovesNone : LocalRule → ℤ → Type 0
MovesNone r s = (x : Config) → IsConfig r.states x → ¬ IsMovedBy r s x

-- a window of the rows leads from node u, on letter a, to a node of the set
abbrev pub Leads : LocalRule → List ℕ → ℕ → ℕ → ℕ → Type 0
Leads r rows set u a = IsBitSet set (next r u a) × HasBit rows u a

-- a window of the rows leads from node u to a node of the set
abbrev pub LeadsInto : LocalRule → List ℕ → ℕ → ℕ → Type 0
LeadsInto r rows set u = (a : ℕ) × (a < r.states) × Leads r rows set u a

-- a is the least letter on which a window of the rows leads from node u to a node of the set
pub record IsLeastLetter (r : LocalRule) (rows : List ℕ) (u set a : ℕ) : Type 0 where
  pub letter : a < r.states
  pub leads : Leads r rows set u a
  pub least : (b : ℕ) → b < a → ¬ Leads r rows set u b

-- windows of the rows lead from node u to node v, and their last letters are those of the word
abbrev pub Reads : LocalRule → List ℕ → ℕ → List ℕ → ℕ → Type 0
Reads r rows u [] v = u ≡ v
Reads r rows u (a ∷ w) v = (a < r.states) × (HasBit rows u a × Reads r rows (next r u a) w v)

-- n windows of the rows lead from node u to node v
abbrev pub LeadsTo : LocalRule → List ℕ → ℕ → ℕ → ℕ → Type 0
LeadsTo r rows n v u = (w : List ℕ) × (length w ≡ n) × Reads r rows u w v

-- w is the first word, in dictionary order, among the words of its length that windows of the rows read from node u to node v
pub record IsLeastReading (r : LocalRule) (rows : List ℕ) (u v : ℕ) (w : List ℕ) : Type 0 where
  pub reads : Reads r rows u w v
  pub least : (q : List ℕ) → length q ≡ length w → Reads r rows u q v → value r.states w ≤ value r.states q

-- w is the first word of n letters that windows of the rows read from node u back to it
pub record IsFirstReading (r : LocalRule) (rows : List ℕ) (u n : ℕ) (w : List ℕ) : Type 0 where
  pub long : length w ≡ n
  pub first : IsLeastReading r rows u u w

-- windows of the rows read no word of n letters from node u back to it
abbrev pub ReadsNone : LocalRule → List ℕ → ℕ → ℕ → Type 0
ReadsNone r rows u n = (q : List ℕ) → length q ≡ n → ¬ Reads r rows u q u

-- windows of the rows read no word of n letters from any of the first `count` nodes back to it
abbrev pub ReadsNoRing : LocalRule → List ℕ → ℕ → ℕ → Type 0
ReadsNoRing r rows count n = (u : ℕ) → u < count → ReadsNone r rows u n

-- w is the first word of n letters that windows of the rows read from one of the first `count` nodes back to it
pub record IsFirstRingTo (r : LocalRule) (rows : List ℕ) (count n : ℕ) (w : List ℕ) : Type 0 where
  pub node : ℕ
  pub inside : node < node_count r
  pub long : length w ≡ n
  pub reads : Reads r rows node w node
  pub least : (u : ℕ) (q : List ℕ) → u < count → length q ≡ n → Reads r rows u q u → value r.states w ≤ value r.states q

-- w is the first word of n letters that windows of the rows read from a node back to it
abbrev pub IsFirstRing : LocalRule → List ℕ → ℕ → List ℕ → Type 0
IsFirstRing r rows = IsFirstRingTo r rows (node_count r)
