-- A number above the finite ranks of pairs of nodes, pair by pair.
use Rattle.std.proofs.Common.{ℕ, ◌+◌, ◌<◌, ◌≤◌, arith, below_more}
use Rattle.word_image.proofs.Common.{LocalRule, IsRule, node_count, EndTogether, IsRank, IsEndless}
use Rattle.word_image.specs.declared.side.Side.TheVariants.{Left}
use Rattle.pair_laws.proofs.Common.{Together-less}
use Rattle.inverse_window.specs.FirstWindows.{IsPastOf, IsPast}

-- two nodes that end together past their rank
pub past_rank : {r : LocalRule} → IsRule r → (u v a n : ℕ) → IsRank (EndTogether r u v) a → a < n → EndTogether r u v n
    → IsEndless (EndTogether r u v)
past_rank rule u v a n rank more ends = absurd (rank.no_more (Together-less Left rule _ _ (a + 1) _ (omega arith) ends))

-- a bound is past the ranks of a first node and one more second node
pub IsPastOf-next : {r : LocalRule} (u v past next : ℕ) → IsPastOf r u v past → past ≤ next
    → ((n : ℕ) → next ≤ n → EndTogether r u v n → IsEndless (EndTogether r u v)) → IsPastOf r u (v + 1) next
IsPastOf-next {r} u v past next before more here = λ w n l least.
    below_more (λ w. EndTogether r u w n → IsEndless (EndTogether r u w)) v (λ w less. before w n less (omega arith)) (here n least) w l

-- a bound is past the ranks of one more first node
pub IsPast-next : {r : LocalRule} (u past next : ℕ) → IsPast r u past → IsPastOf r u (node_count r) next → past ≤ next → IsPast r (u + 1) next
IsPast-next {r} u past next before here more =
    below_more (λ u. IsPastOf r u (node_count r) next) u (λ u less v n below least. before u less v n below (omega arith)) here
