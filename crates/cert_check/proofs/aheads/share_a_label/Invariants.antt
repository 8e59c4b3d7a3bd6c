use Rattle.std.proofs.Common.{◌≢◌, ℕ, ◌<◌}
use Rattle.word_image.proofs.Common.{first_of, second_of, label_at}
use Rattle.cert_check.proofs.aheads.share_a_label.Given as goal

-- no letter so far makes windows with one label
abbrev pub invariant-loop-letter : goal.invariant-loop-letter
invariant-loop-letter l = (a : ℕ) → a < l.letter → label_at l.side l.rule (first_of l.rule l.pair) a ≢ label_at l.side l.rule (second_of l.rule l.pair) a
