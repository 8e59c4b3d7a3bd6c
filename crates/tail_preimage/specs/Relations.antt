-- Relations between nodes, which are followed step by step. A step of the relation E leads from node u to node v if E
-- relates u to v. The program stores a relation as a table of sets: bit v of row u says whether u is related to v. An
-- example is the relation of a word, which relates u to v if some walk from u to v has labels that spell the word.
use Rattle.std.specs.Prelude.{◌≡◌, ℕ, ◌+◌, ◌<◌, ◌≤◌, List, replicate, slice_index, IsBitSet}
use Rattle.word_image.specs.LocalRules.{LocalRule, node_count}
use Rattle.word_image.specs.Graphs.{IsNodeSet}
use Rattle.search_laws.specs.Walks.{Walk}

-- the table stores the relation: row u is the set of the nodes to which node u is related
pub record IsRelation (r : LocalRule) (Related : ℕ → ℕ → Type 0) (table : List ℕ) : Type 0 where
  pub rows : (u : ℕ) → u < node_count r → IsNodeSet r (Related u) (slice_index table u)

-- a step from s to t is possible if E relates s to t; its letter `a` is always the unit, because `Walk` wants a letter for each step
abbrev pub Unlettered : (ℕ → ℕ → Type 0) → ℕ → Unit {0} → ℕ → Type 0
Unlettered E s a t = E s t

-- n steps of a relation lead from u to v
pub record Steps (E : ℕ → ℕ → Type 0) (n u v : ℕ) : Type 0 where
  pub walk : Walk (Unlettered E) u (replicate n tt) v

-- some walk of n steps of the relation begins at u
abbrev pub Open : (ℕ → ℕ → Type 0) → ℕ → ℕ → Type 0
Open E n u = (v : ℕ) × Steps E n u v

-- n steps of the relation lead from u to some node v, and `on` steps lead from v back to v
abbrev pub Rounds : (ℕ → ℕ → Type 0) → ℕ → ℕ → ℕ → Type 0
Rounds E n on u = (v : ℕ) × Steps E n u v × Steps E on v v

-- for some n and some `on` of at least 1 with n + `on` = `sum`, n steps of the relation lead from u to some node v, and `on` steps lead from v back to v
abbrev pub SomeRounds : (ℕ → ℕ → Type 0) → ℕ → ℕ → Type 0
SomeRounds E sum u = (n : ℕ) × (on : ℕ) × (n + on ≡ sum) × (1 ≤ on) × Rounds E n on u

-- some node in the set has the property Holds
abbrev pub Meets : LocalRule → (ℕ → Type 0) → ℕ → Type 0
Meets r Holds set = (u : ℕ) × (u < node_count r) × Holds u × IsBitSet set u

-- n is the least number for which Holds n is true
pub record IsFirst (Holds : ℕ → Type 0) (n : ℕ) : Type 0 where
  pub holds : Holds n
  pub none : (i : ℕ) → i < n → ¬ Holds i
