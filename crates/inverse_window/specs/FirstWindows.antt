-- The least determined window among several windows. A window (n, c) is determined if n letters of an image determine
-- the letter at place c of each preimage. Windows are ordered by n, then by c. The rule has width m, and a node is a
-- word of m - 1 letters. The backward rank of two nodes is the greatest n for which two words of n + m - 1 letters with
-- the same image end with these nodes. If there is no greatest n, the two nodes are endless.
use Rattle.std.specs.Prelude.{◌≡◌, ◌≢◌, ℕ, ◌+◌, ◌*◌, ◌<◌, ◌≤◌, ◌⊎◌, List, length, Option, None, slice_index_or, IfSome, IsSomeAnd, MatchOption}
use Rattle.word_image.specs.LocalRules.{LocalRule, node_count}
use Rattle.word_image.specs.Graphs.{first_of, second_of, node_letter}
use Rattle.word_image.specs.Ranks.{BeginTogether, EndTogether, IsRank, IsEndless}
use Rattle.word_image.specs.Windows.{IsDetermined, WindowBefore}
use Rattle.pair_rank.specs.Sides.{most_rank}
use Rattle.inverse_window.specs.Starts.{HoldsFrom}
use Rattle.inverse_window.specs.declared.windows.WindowAt.{WindowAt}

-- the nodes of pair p differ in their letter at place i
abbrev pub PairDiffersAt : LocalRule → ℕ → ℕ → Type 0
PairDiffersAt r i p = node_letter r (first_of r p) i ≢ node_letter r (second_of r p) i

-- two words of n + m - 1 letters with the same image begin with the nodes of pair p
abbrev pub PairBegins : LocalRule → ℕ → ℕ → Type 0
PairBegins r p n = BeginTogether r (first_of r p) (second_of r p) n

-- two words of n + m - 1 letters with the same image end with the nodes of pair p
abbrev pub PairEnds : LocalRule → ℕ → ℕ → Type 0
PairEnds r p n = EndTogether r (first_of r p) (second_of r p) n

-- n is at most e, and two words of n + m - 1 letters with the same image end with the nodes of pair p
abbrev pub EndsFor : LocalRule → ℕ → ℕ → ℕ → Type 0
EndsFor r e p n = (n ≤ e) × PairEnds r p n

-- for each node v below `count`, the backward rank of u and v is less than e, or u and v are endless
abbrev pub IsPastOf : LocalRule → ℕ → ℕ → ℕ → Type 0
IsPastOf r u count e = (v n : ℕ) → v < count → e ≤ n → EndTogether r u v n → IsEndless (EndTogether r u v)

-- for each node u below `count` and each node v, the backward rank of u and v is less than e, or u and v are endless
abbrev pub IsPast : LocalRule → ℕ → ℕ → Type 0
IsPast r count e = (u : ℕ) → u < count → IsPastOf r u (node_count r) e

-- P p n holds for no pair p below `count` for which Of p holds
abbrev pub NoneHolds : ℕ → (ℕ → Type 0) → (ℕ → ℕ → Type 0) → ℕ → Type 0
NoneHolds count Of P n = (p : ℕ) → p < count → Of p → ¬ P p n

-- the greatest number of letters of the image that a least determined window has on each side of its letter: one more than the greatest rank
abbrev pub most_start : ℕ
most_start = most_rank + 1

-- the greatest number of letters of the image in a least determined window
abbrev pub most_window : ℕ
most_window = 2 * most_start

-- entry b of `starts`, for b from 0 to e, is about the pairs below `count` with different first letters and the backward rank b (if b = e: at least e). It is the least n for which no such pair begins two words of n + m - 1 letters with the same image, or None
pub record AreStarts (r : LocalRule) (e count : ℕ) (starts : List (Option ℕ)) : Type 0 where
  pub long : length starts ≡ most_start + 1
  pub few : e ≤ most_start
  pub from : (b : ℕ) → b ≤ e → HoldsFrom (slice_index_or starts b None) (NoneHolds count (λ p. PairDiffersAt r 0 p × IsRank (EndsFor r e p) b) (PairBegins r))
  pub most : (b : ℕ) → b ≤ e → IfSome (slice_index_or starts b None) (λ n. n ≤ most_start)

-- (n, c) is a determined window, and no window in `Among` that comes before it is determined
pub record IsFirstWindow (r : LocalRule) (Among : ℕ → ℕ → Type 0) (n c : ℕ) : Type 0 where
  pub determined : IsDetermined r n c
  pub least : (n' c' : ℕ) → Among n' c' → WindowBefore n' c' n c → ¬ IsDetermined r n' c'

-- the result is the least determined window in `Among`, or None if no window in `Among` is determined
abbrev pub IsFirstWindowOf : LocalRule → (ℕ → ℕ → Type 0) → Option WindowAt → Type 0
IsFirstWindowOf r Among found = MatchOption found ((n c : ℕ) → Among n c → ¬ IsDetermined r n c) (λ w. IsFirstWindow r Among w.n w.c)

-- the window w doesn't come after the window v
abbrev pub IsNoLater : WindowAt → WindowAt → Type 0
IsNoLater w v = ¬ WindowBefore v.n v.c w.n w.c

-- the window `found` is one of the windows a and b, or None if both are None, and neither a nor b comes before it
pub record IsEarlier (a b found : Option WindowAt) : Type 0 where
  pub one : (found ≡ a) ⊎ (found ≡ b)
  pub first : IfSome a (λ v. IsSomeAnd found (λ w. IsNoLater w v))
  pub second : IfSome b (λ v. IsSomeAnd found (λ w. IsNoLater w v))
