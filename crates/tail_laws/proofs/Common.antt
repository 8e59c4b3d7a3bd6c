-- The definitions and lemmas that the proofs of crates above cite, passed on from one place. Declares nothing.
pub use Rattle.tail_laws.specs.Closing.{IsClosing}
pub use Rattle.tail_laws.specs.FirstLists.{IsFirstBelow, IsFirstFound, IsLeastOf, NoneBelow}
pub use Rattle.tail_laws.specs.SplitWalks.{IsLeastSplitAt, IsNoSplitAt, IsSplitAt, first_tail, second_tail, split_of, tail_of, with_mark}
pub use Rattle.tail_laws.specs.Turns.{IsTurn}
pub use Rattle.tail_laws.proofs.Certainty.{IsInjective-from_mirrored, IsInjective-window, IsLeftClosing-mirrored, IsLeftClosing-window, IsRightClosing-window, closing_ahead, not_closing}
pub use Rattle.tail_laws.proofs.Closing.{IsRightClosing-ahead, agree_ahead, agree_on, ahead_letter}
pub use Rattle.tail_laws.proofs.FirstLists.{IsFirstBelow-old, IsFirstFound-next, IsFirstFound-none, spelled_pair}
pub use Rattle.tail_laws.proofs.Injective.{IsInjective-determined, agree_determined, determined_letter}
pub use Rattle.tail_laws.proofs.LeastSplits.{IsLeastRightSplit-below, IsLeastSplitAt-walks, no_earlier-least, no_normal_split, splits_cmp-walks, splits_cmp_total}
pub use Rattle.tail_laws.proofs.LeastTwins.{IsLeastOf-turn, IsLeastTurn, IsLeastTwins-first, length-IsLeastTwins, no_twins-none, turn-some}
pub use Rattle.tail_laws.proofs.Sides.{IsLeftClosing-ahead, agree_left_ahead, flip, flip-image_of}
pub use Rattle.tail_laws.proofs.SplitWalks.{ArePairs-zip, IsNormalRightSplit-walks, MarkedLeads-below, with_mark-marked, zip-sides}
pub use Rattle.tail_laws.proofs.TwinTails.{ShareImage-rings, ShareImage-turn, cell-round, no_twins, ring_image-shared, round}
pub use Rattle.tail_laws.proofs.Verdicts.{IsLeftClosing-none, IsLeftSplit-least, IsRightClosing-none, no_right_closing}
