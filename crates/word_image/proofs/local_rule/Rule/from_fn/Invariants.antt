use Rattle.std.proofs.Common.{◌≡◌, ℤ, map, slice_index}
use Rattle.word_image.proofs.Common.{range_with_len}
use Rattle.word_image.specs.LocalRules.{LocalRule}
use Rattle.word_image.specs.RulesBy.{IsRuleBy}
use Rattle.word_image.specs.Storage.{padded}
use Rattle.word_image.proofs.local_rule.Rule.from_fn.Given as goal

-- the entries so far are those of the rule
abbrev pub invariant-loop-window : goal.invariant-loop-window
invariant-loop-window g l = (o : ℤ) (r : LocalRule) → IsRuleBy l.fn.k l.fn.m o (goal.F-post g l.letter) r → l.entries ≡ padded (map (slice_index r.table) (range_with_len 0 l.window))
