-- The meaning of the results of the functions `right` and `left`, which test whether a rule is closing on a side. A
-- look-ahead is a number n for which m - 1 letters of a word and n letters of its image determine the next letter of
-- the word. A split consists of two different configurations with the same image that agree far out on one side.
use Rattle.std.specs.Prelude.{◌≡◌, ℕ, ◌+◌, ◌/◌, ◌%◌, ◌≤◌, List, length, map}
use Rattle.least_walk.specs.Queues.{most_steps}
use Rattle.pair_rank.specs.Sides.{most_rank}
use Rattle.word_image.specs.LocalRules.{LocalRule, mirrored, most_states}
use Rattle.word_image.specs.Windows.{IsLeastRightAhead}
use Rattle.tail_config.specs.Tails.{TailConfig, IsRightClosing, IsLeftClosing}
use Rattle.tail_config.specs.Splits.{IsLeastRightSplit, IsLeastLeftSplit}
use Rattle.tail_config.specs.TailValues.{TailOver}
use Rattle.closing_test.specs.declared.closing.Closing.{Closing}
use Rattle.closing_test.specs.declared.closing.Closing.TheVariants.{Ahead, Split}
use Rattle.closing_test.specs.declared.split_room.LentClosing.{LentClosing}
use Rattle.closing_test.specs.declared.split_room.LentClosing.TheVariants as lent

-- the least look-ahead of a rule is at most this number: two more than the greatest rank of a pair of nodes
abbrev pub most_ahead : ℕ
most_ahead = most_rank + 2

-- a configuration over the rule's letters whose parts have at most 512 letters each
pub record IsShortOver (r : LocalRule) (t : TailOver) : Type 0 where
  pub states : t.states ≡ r.states
  pub left : length t.config.left ≤ most_steps
  pub middle : length t.config.middle ≤ most_steps
  pub right : length t.config.right ≤ most_steps

-- x and y are the least normal right split, and their parts have at most 512 letters each
pub record IsLeastSplitOf (r : LocalRule) (x y : TailOver) : Type 0 where
  pub least : IsLeastRightSplit r x.config y.config
  pub first : IsShortOver r x
  pub second : IsShortOver r y

-- x and y are the least normal left split, and their parts have at most 512 letters each
pub record IsLeastLeftSplitOf (r : LocalRule) (x y : TailOver) : Type 0 where
  pub least : IsLeastLeftSplit r x.config y.config
  pub first : IsShortOver r x
  pub second : IsShortOver r y

-- the result of `right` is right. `Ahead`: the rule is right-closing, and n is its least right look-ahead. `Split`: the rule isn't right-closing, and x and y are its least normal right split
abbrev pub IsRightAnswer : LocalRule → Closing → Type 0
IsRightAnswer r (Ahead n) = IsRightClosing r × IsLeastRightAhead r n × (n ≤ most_ahead)
IsRightAnswer r (Split x y) = ¬ IsRightClosing r × IsLeastSplitOf r x y

-- the result of `left` is right. `Ahead`: the rule is left-closing, and n is its least left look-ahead. `Split`: the rule isn't left-closing, and x and y are its least normal left split
abbrev pub IsLeftAnswer : LocalRule → Closing → Type 0
IsLeftAnswer r (Ahead n) = IsLeftClosing r × IsLeastRightAhead (mirrored r) n × (n ≤ most_ahead)
IsLeftAnswer r (Split x y) = ¬ IsLeftClosing r × IsLeastLeftSplitOf r x y

-- the same evidence with a split in memory of its own
abbrev pub closing_of : LentClosing → Closing
closing_of (lent.Ahead n) = Ahead n
closing_of (lent.Split x y) = Split x y

-- the configuration over the letters of the rule
abbrev pub tail_over : LocalRule → TailConfig → TailOver
tail_over r t = record { states = r.states; config = t }
