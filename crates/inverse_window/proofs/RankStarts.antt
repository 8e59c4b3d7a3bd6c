-- The table of starts by rank, pair by pair.
use Rattle.std.proofs.Common.{ℕ, ◌+◌, ◌<◌, ◌≤◌, List, Option, Some, None, get_or, ⊎_elim, arith, ◌∙◌, length-set, IfSome, MatchOption, unwrap_or, set}
use Rattle.word_image.proofs.Common.{at-set, cases_lt, LocalRule, IsRule, IsRank, IsEndless}
use Rattle.word_image.specs.declared.side.Side.TheVariants.{Left}
use Rattle.pair_laws.proofs.Common.{IsRank-one, Together-less}
use Rattle.inverse_window.specs.Starts.{HoldsFrom, later}
use Rattle.inverse_window.specs.FirstWindows.{PairDiffersAt, PairBegins, PairEnds, EndsFor, NoneHolds, AreStarts}
use Rattle.inverse_window.proofs.StartLaws.{HoldsFrom-next, HoldsFrom-other, later-most}

-- the pair p differs at the first letter, and ends together for b letters and no more, counted as far as e
abbrev pub OfRank : LocalRule → ℕ → ℕ → ℕ → Type 0
OfRank r e b p = PairDiffersAt r 0 p × IsRank (EndsFor r e p) b

-- the rank of two nodes, counted to what is above it
pub IsRank-counted : (rank : Option ℕ) (P : ℕ → Type 0) (e : ℕ) → MatchOption rank (IsEndless P) (IsRank P) → ((n : ℕ) → e ≤ n → P n → IsEndless P)
    → IsRank (λ n. (n ≤ e) × P n) (unwrap_or rank e) × (unwrap_or rank e ≤ e)
IsRank-counted None P e endless past = (record { holds = (omega arith, endless e); no_more = λ h. absurd (omega (arith, h.0)) }, omega arith)
IsRank-counted (Some a) P e rank past =
    let below : a < e = ⊎_elim (λ less. less) (λ most. absurd (rank.no_more (past a most rank.holds (a + 1)))) (cases_lt a e) in
    (record { holds = (omega arith, rank.holds); no_more = λ h. rank.no_more h.1 }, omega arith)

-- the starts behind a pair that differs at its first letter
pub AreStarts-next : {r : LocalRule} {e p b : ℕ} {starts : List (Option ℕ)} → IsRule r → (x : Option ℕ) → AreStarts r e p starts
    → PairDiffersAt r 0 p → b ≤ e → IsRank (λ n. (n ≤ e) × PairEnds r p n) b → HoldsFrom x (λ n. ¬ PairBegins r p n) → IfSome x (λ n. n ≤ 120)
    → AreStarts r e (p + 1) (set starts b (later (get_or starts b None) x))
AreStarts-next {r} {e} {p} {b} {starts} rule x before differ within rank from most =
    let new : Option ℕ = later (get_or starts b None) x in
    let one = IsRank-one (EndsFor r e p) (λ i n l h. (omega (arith, h.0), Together-less Left rule _ _ i n l h.1)) in
    record {
      long = length-set starts b new ∙ before.long;
      few = before.few;
      from = λ a l. at-set (λ a o. HoldsFrom o (NoneHolds (p + 1) (OfRank r e a) (PairBegins r))) starts b None new (omega (arith, before.few, before.long)) a
          (λ other. HoldsFrom-other (get_or starts a None) p (OfRank r e a) (PairBegins r) (λ of. other (one a b of.1 rank)) (before.from a l))
          (HoldsFrom-next (get_or starts b None) x p (OfRank r e b) (PairBegins r) (differ, rank) (before.from b within) from);
      most = λ a l. at-set (λ a o. IfSome o (λ n. n ≤ 120)) starts b None new (omega (arith, before.few, before.long)) a (λ _. before.most a l) (later-most (get_or starts b None) x 120 (before.most b within) most);
    }

-- the starts stay behind a pair that doesn't differ at its first letter
pub AreStarts-other : {r : LocalRule} {e p : ℕ} {starts : List (Option ℕ)} → AreStarts r e p starts → ¬ PairDiffersAt r 0 p
    → AreStarts r e (p + 1) starts
AreStarts-other {r} {e} {p} {starts} before same = record {
  long = before.long;
  few = before.few;
  from = λ b l. HoldsFrom-other (get_or starts b None) p (OfRank r e b) (PairBegins r) (λ of. same of.0) (before.from b l);
  most = before.most;
}
