-- The definitions and lemmas that the proofs of crates above cite, passed on from one place. Declares nothing.
pub use Rattle.pair_laws.specs.FirstWindows.{HasEndlessFirst, end_pair, with_end}
pub use Rattle.pair_laws.proofs.Aheads.{IsFirstOf-step, ahead_pairs}
pub use Rattle.pair_laws.proofs.BackSteps.{LeadsBack-follow, LeadsOn-follows, end_at-below, follow_on-edges}
pub use Rattle.pair_laws.proofs.BothWays.{IsDetermined-none_both_ways, IsDetermined-not_both_ways, no_ahead, some_ahead}
pub use Rattle.pair_laws.proofs.Decisions.{Together-decide, Together-rank, differ_below}
pub use Rattle.pair_laws.proofs.Edges.{HaveOneImage-none, HaveOneImage-push, image-first, image-push, image-window, next-digits, value-first}
pub use Rattle.pair_laws.proofs.Endless.{IsRank-below, Loops-long, PairGoes-closed, PairGoes-stable, Together-endless}
pub use Rattle.pair_laws.proofs.Evidence.{IsClaimedApart-ranks, IsDetermined-claims, IsFirstOfRight-below, ahead-claims, ahead-ranks}
pub use Rattle.pair_laws.proofs.FirstWindows.{IsFirst-ends, first_ends}
pub use Rattle.pair_laws.proofs.Joins.{HaveOneImage-drop, HaveOneImage-take, drop-join_more, image-cut, image-join, same_node, value-cut}
pub use Rattle.pair_laws.proofs.Pairs.{PairGoes-less, PairGoes-pair_of, PairGoes-push, PairGoes-step, first_of-below, first_of-pair_of, follow-below, follow-edges, follow-pair_of, follow-some, mark-below, marked-below, pair-below, pair_of-below, pair_of-first_of, second_of-below, second_of-pair_of, some_if_equal}
pub use Rattle.pair_laws.proofs.Ranks.{BeginTogether-walk, EndTogether-walk, IsRank-one, Together-below, Together-less, Together-zero}
pub use Rattle.pair_laws.proofs.Rows.{HasBit-less, HasBit-more, HasBit-none, HasBit-or, IsBitSet-test, row_cases}
pub use Rattle.pair_laws.proofs.Sets.{IsBitSet-and, IsBitSet-apart, IsBitSet-below, IsBitSet-meet, IsBitSet-minus, IsBitSet-shl, IsBitSet-shr, IsSetOf-both}
