-- From which number on facts hold.
use Rattle.std.proofs.Common.{ℕ, ◌+◌, ◌≤◌, ◌↔◌, Option, Some, None, arith, IfSome, below_more}
use Rattle.inverse_window.specs.Starts.{HoldsFrom, later}
use Rattle.inverse_window.specs.FirstWindows.{NoneHolds}

-- a fact that is the same as one
pub HoldsFrom-same : (start : Option ℕ) (P Q : ℕ → Type 0) → ((n : ℕ) → Q n ↔ P n) → HoldsFrom start P → HoldsFrom start Q
HoldsFrom-same None P Q same none = λ n q. none n ((same n).0 q)
HoldsFrom-same (Some a) P Q same from = λ n. (λ q. (from n).0 ((same n).0 q), λ l. (same n).1 ((from n).1 l))

-- a fact that is the same as two holds from the later start on
pub HoldsFrom-later : (a b : Option ℕ) (P Q R : ℕ → Type 0) → ((n : ℕ) → R n ↔ (P n × Q n)) → HoldsFrom a P → HoldsFrom b Q → HoldsFrom (later a b) R
HoldsFrom-later None b P Q R both none from = λ n h. none n ((both n).0 h).0
HoldsFrom-later (Some a) None P Q R both from none = λ n h. none n ((both n).0 h).1
HoldsFrom-later (Some a) (Some b) P Q R both first second = λ n. (
  λ h. let l = (first n).0 ((both n).0 h).0 in let g = (second n).0 ((both n).0 h).1 in omega arith,
  λ l. (both n).1 ((first n).1 (omega arith), (second n).1 (omega arith)),
)

-- the later of two starts is within a bound that they are within
pub later-most : (a b : Option ℕ) (k : ℕ) → IfSome a (λ n. n ≤ k) → IfSome b (λ n. n ≤ k) → IfSome (later a b) (λ n. n ≤ k)
later-most None b k first second = tt
later-most (Some a) None k first second = tt
later-most (Some a) (Some b) k first second = omega arith

-- what holds where none of the pairs does, with one pair more, starts at the later of two numbers
pub HoldsFrom-next : (a b : Option ℕ) (p : ℕ) (Of : ℕ → Type 0) (P : ℕ → ℕ → Type 0) → Of p → HoldsFrom a (NoneHolds p Of P)
    → HoldsFrom b (λ n. ¬ P p n) → HoldsFrom (later a b) (NoneHolds (p + 1) Of P)
HoldsFrom-next a b p Of P of before here =
    HoldsFrom-later a b (NoneHolds p Of P) (λ n. ¬ P p n) (NoneHolds (p + 1) Of P)
    (λ n. (
      λ none. (λ q l. none q (omega arith), none p (omega arith) of),
      λ both. below_more (λ q. Of q → ¬ P q n) p both.0 (λ _. both.1),
    ))
    before here

-- one more pair that isn't among those asked for changes nothing
pub HoldsFrom-other : (a : Option ℕ) (p : ℕ) (Of : ℕ → Type 0) (P : ℕ → ℕ → Type 0) → ¬ Of p → HoldsFrom a (NoneHolds p Of P)
    → HoldsFrom a (NoneHolds (p + 1) Of P)
HoldsFrom-other a p Of P not_of before =
    HoldsFrom-same a (NoneHolds p Of P) (NoneHolds (p + 1) Of P)
    (λ n. (λ none q l. none q (omega arith), λ none. below_more (λ q. Of q → ¬ P q n) p none (λ of. absurd (not_of of))))
    before
