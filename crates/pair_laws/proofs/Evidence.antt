-- What claims that fall say of windows and look-aheads, and that the exact ranks say it wherever it is true.
use Rattle.std.proofs.Common.{◌≡◌, ℕ, ◌+◌, ◌-◌, ◌<◌, ◌≤◌, ◌⊎◌, inl, inr, min, Option, ⊎_elim, arith}
use Rattle.word_image.proofs.Common.{cases_eq, LocalRule, IsRule, IsDetermined, IsRightAhead, first_of, second_of, pair_count, node_letter, IsFirstOfRight, IsFirstOf, seen_from}
use Rattle.word_image.specs.declared.side.Side.{Side}
use Rattle.word_image.specs.declared.side.Side.TheVariants.{Right, Left}
use Rattle.pair_laws.proofs.Claims.{ClaimsBelow, FallsOn, ClaimsRanks, PairGoes-claims_below, PairGoes-ranks}
use Rattle.pair_laws.proofs.Windows.{IsDetermined-pairs}
use Rattle.pair_laws.proofs.Aheads.{ahead_pairs}

-- the nodes of a pair agree at the letter c of a window, or a claim keeps them from ending or from beginning together there
abbrev pub IsClaimedApart : LocalRule → (ℕ → Option ℕ) → (ℕ → Option ℕ) → ℕ → ℕ → ℕ → Type 0
IsClaimedApart r forward backward n c p =
    (node_letter r (first_of r p) (c - min c n) ≡ node_letter r (second_of r p) (c - min c n)) ⊎ (ClaimsBelow backward p (min c n) ⊎ ClaimsBelow forward p (n - min c n))

-- a window is determined where this is so of each pair
pub IsDetermined-claims : {r : LocalRule} {forward backward : ℕ → Option ℕ} → IsRule r → FallsOn Right r forward → FallsOn Left r backward
    → (n c : ℕ) → 1 ≤ n → c ≤ n + r.width - 2 → ((p : ℕ) → p < pair_count r → IsClaimedApart r forward backward n c p) → IsDetermined r n c
IsDetermined-claims rule falls back n c some inside claimed =
    (IsDetermined-pairs rule n c).1 (
      some,
      inside,
      (λ p l different ends begins.
          ⊎_elim different (⊎_elim (λ below. PairGoes-claims_below Left rule back p (min c n) below ends) (λ below. PairGoes-claims_below Right rule falls p (n - min c n) below begins)) (claimed p l)),
    )

-- where a window is determined, the exact ranks say of each pair that it doesn't forbid it
pub IsClaimedApart-ranks : {r : LocalRule} → IsRule r → (forward backward : ℕ → Option ℕ) → ClaimsRanks Right r forward → ClaimsRanks Left r backward
    → (n c : ℕ) → IsDetermined r n c → (p : ℕ) → p < pair_count r → IsClaimedApart r forward backward n c p
IsClaimedApart-ranks {r} rule forward backward ranks back n c h p l =
    ⊎_elim (λ same. inl same)
    (λ other. ⊎_elim (λ ends. ⊎_elim (λ begins. absurd (((IsDetermined-pairs rule n c).0 h).2 p l other ends begins)) (λ below. inr (inr below))
    (PairGoes-ranks Right rule forward ranks p (n - min c n) l))
    (λ below. inr (inl below))
    (PairGoes-ranks Left rule backward back p (min c n) l))
    (cases_eq (node_letter r (first_of r p) (c - min c n)) (node_letter r (second_of r p) (c - min c n)))

-- a first pair of the right is a pair
pub IsFirstOfRight-below : {r : LocalRule} {p : ℕ} → IsRule r → IsFirstOfRight r p → p < pair_count r
IsFirstOfRight-below rule f = grind arith

-- a first pair of a side is a pair
pub IsFirstOf-below : (side : Side) {r : LocalRule} {p : ℕ} → IsRule r → IsFirstOf side r p → p < pair_count r
IsFirstOf-below Right rule f = IsFirstOfRight-below rule f
IsFirstOf-below Left rule f = f.in_pairs

-- a rule looks ahead to a side for n where less than n - 1 is claimed of each first pair of this side
pub ahead-claims : (side : Side) {r : LocalRule} {claim : ℕ → Option ℕ} → IsRule r → FallsOn side r claim → (n : ℕ) → 1 ≤ n
    → ((p : ℕ) → p < pair_count r → IsFirstOf side r p → ClaimsBelow claim p (n - 1)) → IsRightAhead (seen_from side r) n
ahead-claims side rule falls n some claimed =
    (ahead_pairs side rule n).1 (some, (λ p f. PairGoes-claims_below side rule falls p (n - 1) (claimed p (IsFirstOf-below side rule f) f)))

-- where a rule looks ahead to a side for n, the exact ranks of the first pairs of this side are less than n
pub ahead-ranks : (side : Side) {r : LocalRule} → IsRule r → (claim : ℕ → Option ℕ) → ClaimsRanks side r claim → (n : ℕ)
    → IsRightAhead (seen_from side r) n
    → (p : ℕ) → IsFirstOf side r p → ClaimsBelow claim p (n - 1)
ahead-ranks side rule claim ranks n h p f =
    ⊎_elim (λ goes. absurd (((ahead_pairs side rule n).0 h).1 p f goes)) (λ below. below) (PairGoes-ranks side rule claim ranks p (n - 1) (IsFirstOf-below side rule f))
