-- The degree of a rule of width m (Hedlund 1969). A node is a word of m - 1 letters. A node is at the cut between the words
-- u and v if it is a last node of u and a first node of v: some preimage of the word u v has this node at the seam.
use Rattle.std.specs.Prelude.{◌≡◌, ◌≢◌, ℕ, ◌-◌, ◌<◌, ◌≤◌, List, length, take, drop, slice_index, count_ones, ℤ, ◌+ℤ◌}
use Rattle.word_image.specs.LocalRules.{LocalRule, IsWord, local_map, value, node_count, mirrored}
use Rattle.word_image.specs.Words.{IsPreimage}
use Rattle.word_image.specs.Graphs.{IsNodeSet}
use Rattle.word_image.specs.Ranks.{IsLastNode}
use Rattle.tail_config.specs.Configs.{Config, IsConfig, run, image_of}
use Rattle.welch_index.specs.Fewest.{IsFirstNode}

-- exactly n nodes are at the cut between the words u and v
pub record HasCutNodes (r : LocalRule) (u v : List ℕ) (n : ℕ) : Type 0 where
  pub nodes : ℕ
  pub before : IsWord r.states u
  pub after : IsWord r.states v
  pub both : IsNodeSet r (λ p. IsLastNode r u p × IsFirstNode r v p) nodes
  pub count : count_ones nodes ≡ n

-- d is the degree: the least number of nodes that are at a cut between two words
pub record IsDegree (r : LocalRule) (d : ℕ) : Type 0 where
  pub before : List ℕ
  pub after : List ℕ
  pub attained : HasCutNodes r before after d
  pub least : (u v : List ℕ) (n : ℕ) → HasCutNodes r u v n → d ≤ n

-- the configuration y has d preimages whose nodes at place i, the m - 1 letters with which the window of this place begins, are all different
pub record HasSeparated (r : LocalRule) (y : Config) (i : ℤ) (d : ℕ) : Type 0 where
  pub at : ℕ → Config
  pub configs : (a : ℕ) → a < d → IsConfig r.states (at a)
  pub maps : (a : ℕ) → a < d → image_of r (at a) ≡ y
  pub apart : (a b : ℕ) → a < b → b < d → run (at a) (i +ℤ r.offset) (r.width - 1) ≢ run (at b) (i +ℤ r.offset) (r.width - 1)

-- v is the end of a walk that begins at the node u and spells w: some preimage of w has u as its first m - 1 letters and v as its last m - 1 letters
pub record IsWalkEnd (r : LocalRule) (u : ℕ) (w : List ℕ) (v : ℕ) : Type 0 where
  pub x : List ℕ
  pub preimage : IsPreimage r w x
  pub first : value r.states (take (r.width - 1) x) ≡ u
  pub last : value r.states (drop (length w) x) ≡ v

-- walks that begin at the node u and spell w have exactly n ends
pub record HasWalkEnds (r : LocalRule) (u : ℕ) (w : List ℕ) (n : ℕ) : Type 0 where
  pub nodes : ℕ
  pub word : IsWord r.states w
  pub from : u < node_count r
  pub ends : IsNodeSet r (IsWalkEnd r u w) nodes
  pub count : count_ones nodes ≡ n

-- n is the right multiplier (Hedlund 1969): the greatest number of ends of walks that begin at one node and spell one word
pub record IsMultiplier (r : LocalRule) (n : ℕ) : Type 0 where
  pub from : ℕ
  pub word : List ℕ
  pub attained : HasWalkEnds r from word n
  pub most : (u : ℕ) (w : List ℕ) (c : ℕ) → HasWalkEnds r u w c → c ≤ n

-- d is the degree of a rule, n is its right multiplier, and l is its left multiplier, which is the right multiplier of the mirrored rule
pub record AreDegreeAndMultipliers (r : LocalRule) (d n l : ℕ) : Type 0 where
  pub degree : IsDegree r d
  pub right : IsMultiplier r n
  pub left : IsMultiplier (mirrored r) l

-- the rule gives letter j of each window, counted from 0: a configuration is only moved
pub record IsCopy (r : LocalRule) (j : ℕ) : Type 0 where
  pub inside : j < r.width
  pub copies : (w : List ℕ) → IsWord r.states w → length w ≡ r.width → local_map r w ≡ slice_index w j
