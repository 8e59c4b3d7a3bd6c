-- Ranks of pairs of nodes, and last nodes. The rank of two nodes u and v is the greatest n for which walks of n steps
-- from u and from v have equal labels (Sutner 1991); a second rank is about walks that end at u and v. A walk of n
-- steps is a word of n + m - 1 letters, if the rule has width m, and its labels are the image of the word. A last node
-- of a word is the last m - 1 letters of one of its preimages.
use Rattle.std.specs.Prelude.{◌≡◌, ℕ, ◌+◌, ◌-◌, List, length, take, drop}
use Rattle.word_image.specs.LocalRules.{LocalRule, IsWord, value}
use Rattle.word_image.specs.Graphs.{IsNodeSet}
use Rattle.word_image.specs.Words.{IsPreimage}
use Rattle.word_image.specs.Windows.{HaveOneImage}

-- walks of n steps with equal labels begin at the nodes u and v: two words of n + m - 1 letters with the same image begin with u and v
pub record BeginTogether (r : LocalRule) (u v n : ℕ) : Type 0 where
  pub x : List ℕ
  pub y : List ℕ
  pub one_image : HaveOneImage r n x y
  pub first : value r.states (take (r.width - 1) x) ≡ u
  pub second : value r.states (take (r.width - 1) y) ≡ v

-- walks of n steps with equal labels end at the nodes u and v: two words of n + m - 1 letters with the same image end with u and v
pub record EndTogether (r : LocalRule) (u v n : ℕ) : Type 0 where
  pub x : List ℕ
  pub y : List ℕ
  pub one_image : HaveOneImage r n x y
  pub first : value r.states (drop n x) ≡ u
  pub second : value r.states (drop n y) ≡ v

-- n is the rank: the property holds for n, and it doesn't hold for n + 1
pub record IsRank (Holds : ℕ → Type 0) (n : ℕ) : Type 0 where
  pub holds : Holds n
  pub no_more : ¬ Holds (n + 1)

-- the property holds for every number, so no number is the rank
abbrev pub IsEndless : (ℕ → Type 0) → Type 0
IsEndless Holds = (n : ℕ) → Holds n

-- u is a last node of the word w: some preimage of w has u as its last m - 1 letters
pub record IsLastNode (r : LocalRule) (w : List ℕ) (u : ℕ) : Type 0 where
  pub x : List ℕ
  pub preimage : IsPreimage r w x
  pub last : value r.states (drop (length w) x) ≡ u

-- the number is the set of all last nodes of the word w
pub record IsLastSet (r : LocalRule) (w : List ℕ) (set : ℕ) : Type 0 where
  pub word : IsWord r.states w
  pub last : IsNodeSet r (IsLastNode r w) set
