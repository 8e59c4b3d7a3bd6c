-- Walks from state to state by pairs of letters, and the least of these walks. `follow s a b` is the state to which the
-- letters a and b lead from the state s, or None. For example, the states can be pairs of nodes, and a and b the
-- letters of two edges with equal labels.
use Rattle.std.specs.Prelude.{◌≡◌, ◌≢◌, ℕ, ◌/◌, ◌%◌, ◌<◌, List, length, Option, Some}
use Rattle.std.specs.List.{All}
use Rattle.std.specs.declared.cmp.Ordering.TheVariants.{Greater}
use Rattle.word_image.specs.Rings.{pairs_cmp}
use Rattle.search_laws.specs.Walks.{Walk}

-- a step from state s to state t on the pair of letters p: `follow` gives the state t
abbrev pub LetterPairStep : (ℕ → ℕ → ℕ → Option ℕ) → ℕ → ℕ × ℕ → ℕ → Type 0
LetterPairStep follow s p t = follow s p.0 p.1 ≡ Some t

-- both letters of each pair in the list are below n
abbrev pub ArePairs : ℕ → List (ℕ × ℕ) → Type 0
ArePairs n = All (λ p. (p.0 < n) × (p.1 < n))

-- the pairs of letters in the list w, all below k, lead from the start to the state t
pub record PairWalk (follow : ℕ → ℕ → ℕ → Option ℕ) (k start : ℕ) (w : List (ℕ × ℕ)) (t : ℕ) : Type 0 where
  pub steps : Walk (LetterPairStep follow) start w t
  pub letters : ArePairs k w

-- w is the least walk of at least one step from the start to the state t: the shortest, and among the shortest walks the first in dictionary order
pub record IsLeastWalk (follow : ℕ → ℕ → ℕ → Option ℕ) (k start t : ℕ) (w : List (ℕ × ℕ)) : Type 0 where
  pub some : 0 < length w
  pub walk : PairWalk follow k start w t
  pub least : (v : List (ℕ × ℕ)) → 0 < length v → PairWalk follow k start v t → pairs_cmp w v ≢ Greater

-- w is the least walk from the start to the state t: the shortest, which may have no steps, and among the shortest walks the first in dictionary order
pub record IsLeastWalkTo (follow : ℕ → ℕ → ℕ → Option ℕ) (k start t : ℕ) (w : List (ℕ × ℕ)) : Type 0 where
  pub walk : PairWalk follow k start w t
  pub least : (v : List (ℕ × ℕ)) → PairWalk follow k start v t → pairs_cmp w v ≢ Greater

-- the pair of letters (a, b) that has the number c = a * n + b
abbrev pub uncode : ℕ → ℕ → ℕ × ℕ
uncode n c = (c / n, c % n)

-- a step from the state s to the state t on the pair of letters with the number c: c / n and c % n, which are both below k
pub record CodeStep (follow : ℕ → ℕ → ℕ → Option ℕ) (k n s c t : ℕ) : Type 0 where
  pub first : c / n < k
  pub second : c % n < k
  pub follows : follow s (c / n) (c % n) ≡ Some t
