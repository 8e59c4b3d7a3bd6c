-- Rows that a loop fills, one after the other.
use Rattle.std.proofs.Common.{◌≡◌, ◌↔◌, ℕ, ◌+◌, ◌<◌, List, length, slice_index, set, rules}
use Rattle.word_image.proofs.Common.{LocalRule, IsRule, node_count, IsNodeSet, IsSetOf-same}
use Rattle.tail_preimage.specs.Relations.{IsRelation}

-- the rows of the first n nodes are filled
pub record AreRowsFilled (r : LocalRule) (Related : ℕ → ℕ → Type 0) (n : ℕ) (rows : List ℕ) : Type 0 where
  pub long : length rows ≡ 16
  pub each : (v : ℕ) → v < n → IsNodeSet r (Related v) (slice_index rows v)

-- one row more is filled
pub AreRowsFilled-more : {r : LocalRule} {Related : ℕ → ℕ → Type 0} {u row : ℕ} {rows : List ℕ} (place : ℕ) → IsRule r → u < node_count r → place ≡ u
    → AreRowsFilled r Related u rows → IsNodeSet r (Related u) row
    → AreRowsFilled r Related (u + 1) (set rows place row)
AreRowsFilled-more place rule l e h here = search rules

-- relations that have the same pairs of nodes have the same table
pub IsRelation-same : {r : LocalRule} {P Q : ℕ → ℕ → Type 0} {table : List ℕ} → ((u v : ℕ) → u < node_count r → v < node_count r → (P u v ↔ Q u v))
    → IsRelation r P table → IsRelation r Q table
IsRelation-same same h = record { rows = λ u l. IsSetOf-same (λ v below. same u v l below) (h.rows u l) }
