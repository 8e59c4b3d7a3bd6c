-- The definitions and lemmas that the proofs of crates above cite, passed on from one place. Declares nothing.
pub use Rattle.tail_config.specs.Configs.{AgreeFarLeft, AgreeFarRight, AgreeWithin, Config, IsConfig, image_of, run, zeros}
pub use Rattle.tail_config.specs.Differences.{IsNearestDifference, most_middle}
pub use Rattle.tail_config.specs.InverseMaps.{IsInverseMap, WindowMap, map_letter, mapped}
pub use Rattle.tail_config.specs.LeftSplits.{IsLeftSplit}
pub use Rattle.tail_config.specs.Splits.{IsLeastLeftSplit, IsLeastRightSplit, IsNormalRightSplit, IsSettled, last_letters, splits_cmp}
pub use Rattle.tail_config.specs.TailTexts.{HasParts, IsShortTail, Spells}
pub use Rattle.tail_config.specs.TailValues.{IsAcceptedTail, TailOver, config_of}
pub use Rattle.tail_config.specs.Tails.{AgreeLeft, AgreeRight, Different, IsInjective, IsLeftClosing, IsOpen, IsRightClosing, IsRightSplit, IsTail, Same, ShareImage, TailConfig, cell, cells, image_cell, mirror_of}
pub use Rattle.tail_config.proofs.laws.Cells.{IsTail-inside_zeros, IsWord-zero, cell-below, cell-middle, cell-right, cells-left, cells-middle, cells-right, inside_zeros, same_left_part}
pub use Rattle.tail_config.proofs.laws.Decisions.{Different-from_not_same, same_or_different}
pub use Rattle.tail_config.proofs.laws.Differences.{DifferAt, DifferAt-different, differ_at, same_or_differ}
pub use Rattle.tail_config.proofs.laws.Mirror.{IsTail-mirror, cell-mirror, image_of-backwards}
pub use Rattle.tail_config.proofs.laws.Periods.{RepeatsLeft, RepeatsLeft-times, RepeatsRight, RepeatsRight-times, at_run, same_right-back, same_right-period}
pub use Rattle.tail_config.proofs.laws.Repeats.{cell-left_period, cell-right_period, image_of-right_period}
pub use Rattle.tail_config.proofs.laws.Runs.{HaveOneImage-run, IsWord-run, drop-run, get_or-run, image-run, image_of-window, last-run, length-run, run-append, run-by_letters, run-cons, run-push, run-same, same-run, slice_range-run, take-run}
pub use Rattle.tail_config.proofs.laws.TailTexts.{HasParts-unique, Spells-word_text}
