-- Preimages of a word as walks in the de Bruijn graph of a rule of width m. A node is a word of m - 1 letters. A
-- preimage x of the word w is a walk along edges whose labels spell w. The walk leads from the node of the first m - 1
-- letters of x to the node of the last m - 1 letters of x.
use Rattle.std.specs.Prelude.{◌≡◌, ◌≢◌, ℕ, ◌-◌, List, length, take, drop, IsBitSet}
use Rattle.std.specs.declared.cmp.Ordering.TheVariants.{Greater}
use Rattle.std.specs.Ordering.{nat_cmp}
use Rattle.std.specs.Cmp.Lexicographic.{slice_cmp}
use Rattle.word_image.specs.LocalRules.{LocalRule, value}
use Rattle.word_image.specs.Words.{IsPreimage}

-- x is a preimage of w: a walk along w that begins with node u and ends with node v
pub record IsWalk (r : LocalRule) (w : List ℕ) (u v : ℕ) (x : List ℕ) : Type 0 where
  pub preimage : IsPreimage r w x
  pub first : value r.states (take (r.width - 1) x) ≡ u
  pub last : value r.states (drop (length w) x) ≡ v

-- the walk x without its last m - 1 letters, which are the letters of its last node
abbrev pub before_last : LocalRule → List ℕ → List ℕ
before_last r x = take (length x - (r.width - 1)) x

-- some preimage of w begins with node u and ends with node v
abbrev pub HasWalk : LocalRule → List ℕ → ℕ → ℕ → Type 0
HasWalk r w u v = (x : List ℕ) × IsWalk r w u v x

-- some preimage of w begins with node u and ends with a node of the set `goal`
abbrev pub Reaches : LocalRule → List ℕ → ℕ → ℕ → Type 0
Reaches r w goal u = (v : ℕ) × IsBitSet goal v × HasWalk r w u v

-- x is the first walk along w, in dictionary order, that begins with node u and ends with a node of the set `goal`; this last node is v
pub record IsLeastWalkInto (r : LocalRule) (w : List ℕ) (u goal v : ℕ) (x : List ℕ) : Type 0 where
  pub walk : IsWalk r w u v x
  pub within : IsBitSet goal v
  pub least : (s : ℕ) (y : List ℕ) → IsBitSet goal s → IsWalk r w u s y → slice_cmp nat_cmp x y ≢ Greater
