-- Unread sets and closures of sets of nodes. A word is read from a node if the labels of some walk from the node spell
-- the word. For each word, the nodes from which it isn't read are an unread set. The closure of a set is the
-- intersection of the unread sets that contain it. If a word isn't read from the nodes of a set, it isn't read from the
-- nodes of the closure of the set either.
use Rattle.std.specs.Prelude.{◌≡◌, ℕ, ◌+◌, ◌^◌, ◌<◌, ◌≤◌, List, length, slice_index, IsBitSet}
use Rattle.word_image.specs.LocalRules.{LocalRule, node_count}
use Rattle.word_image.specs.Graphs.{IsNodeSet}
use Rattle.word_image.specs.Edges.{IsEdge, IsStep}
use Rattle.word_image.specs.declared.side.Side.TheVariants.{Right}
use Rattle.search_laws.specs.Walks.{Walk}

-- every node of the set `set` is in the set `other`
abbrev pub IsWithin : LocalRule → ℕ → ℕ → Type 0
IsWithin r set other = (u : ℕ) → u < node_count r → IsBitSet set u → IsBitSet other u

-- all edges with label a from node u lead into the set
abbrev pub IsLedInto : LocalRule → ℕ → ℕ → ℕ → Type 0
IsLedInto r set a u = (v : ℕ) → IsEdge Right r a u v → IsBitSet set v

-- `before` consists of the nodes from which all edges with label a lead into `set`
pub record IsBack (r : LocalRule) (set a before : ℕ) : Type 0 where
  pub of : IsNodeSet r (IsLedInto r set a) before

-- `set` consists of the nodes from which all edges with label a lead into the set `rest`
abbrev pub StepsInto : LocalRule → ℕ → ℕ → ℕ → Type 0
StepsInto r set a rest = (a < r.states) × IsBack r rest a set

-- `set` consists of the nodes from which the word z isn't read
abbrev pub IsUnread : LocalRule → List ℕ → ℕ → Type 0
IsUnread r z set = Walk (StepsInto r) set z 0

-- the set is unread: it consists of the nodes from which some word isn't read
abbrev pub IsUnreadSet : LocalRule → ℕ → Type 0
IsUnreadSet r set = (z : List ℕ) × IsUnread r z set

-- `closure` is the closure of the set: the intersection of the unread sets that contain it
pub record IsClosure (r : LocalRule) (set closure : ℕ) : Type 0 where
  pub of : IsNodeSet r (λ u. (unread : ℕ) → IsUnreadSet r unread → IsWithin r set unread → IsBitSet unread u) closure

-- `after` is the closure of the set to which a step on the letter a leads from `set`
pub record IsClosedStep (r : LocalRule) (set a after : ℕ) : Type 0 where
  pub to : ℕ
  pub step : IsStep r set a to
  pub closure : IsClosure r to after

-- every node of the set `other`, from node n on, is in the set `set`
abbrev pub IsWithinFrom : LocalRule → ℕ → ℕ → ℕ → Type 0
IsWithinFrom r n set other = (u : ℕ) → n ≤ u → u < node_count r → IsBitSet other u → IsBitSet set u

-- `part` is the intersection of the unread sets that contain the set, and beyond it only nodes below n
pub record IsPartClosure (r : LocalRule) (n set part : ℕ) : Type 0 where
  pub of : IsNodeSet r (λ u. (unread : ℕ) → IsUnreadSet r unread → IsWithin r set unread → IsWithinFrom r n set unread → IsBitSet unread u) part

-- for each set `parts` has the intersection of the unread sets that contain it, and beyond it only nodes below n, or, for the sets less than `done`, also node n
pub record ArePartClosures (r : LocalRule) (n done : ℕ) (parts : List ℕ) : Type 0 where
  pub long : length parts ≡ 2 ^ node_count r
  pub first : (set : ℕ) → set < done → set < 2 ^ node_count r → IsPartClosure r (n + 1) set (slice_index parts set)
  pub rest : (set : ℕ) → done ≤ set → set < 2 ^ node_count r → IsPartClosure r n set (slice_index parts set)

-- `closures` has the closure of each set, at the place of the number of the set
pub record AreClosures (r : LocalRule) (closures : List ℕ) : Type 0 where
  pub long : length closures ≡ 2 ^ node_count r
  pub closure : (set : ℕ) → set < 2 ^ node_count r → IsClosure r set (slice_index closures set)
