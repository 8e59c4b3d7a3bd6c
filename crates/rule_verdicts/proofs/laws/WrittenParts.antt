-- The evidence of a rule, its family and its ranks are what is written for it.
use Rattle.std.proofs.Common.{◌≡◌, ℕ, ◌<◌, List, length, get_or, subst, Option, None}
use Rattle.word_image.proofs.Common.{LocalRule, pair_count, Together}
use Rattle.word_image.specs.declared.side.Side.{Side}
use Rattle.pair_rank.specs.Sides.{IsRankOf}
use Rattle.certificate_laws.specs.WrittenCertificates.{IsRankRow}

-- a row of the ranks of an equal rule
pub IsRankRow-row : {q r : LocalRule} {row : List (Option ℕ)} (side : Side) → q ≡ r → length row ≡ pair_count q
    → ((p : ℕ) → p < pair_count q → IsRankOf side q p (get_or row p None))
    → IsRankRow r (Together side r) row
IsRankRow-row {row = row} side same each_pair ranks = subst (λ (s : LocalRule). IsRankRow s (Together side s) row) same (record { each_pair = each_pair; ranks = ranks })
