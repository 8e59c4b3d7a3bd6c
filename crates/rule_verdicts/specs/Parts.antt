-- A window (n, c) proves that a rule is injective: n letters of an image determine the letter at place c of each
-- preimage. This file limits n.
use Rattle.std.specs.Prelude.{◌≤◌, Result, Ok, Err}
use Rattle.word_image.specs.LocalRules.{LocalRule}
use Rattle.inverse_window.specs.FirstWindows.{most_window}
use Rattle.inverse_window.specs.declared.windows.WindowAt.{WindowAt}
use Rattle.short_words.specs.declared.short_word.ShortPair.{ShortPair}
use Rattle.cert_values.specs.Evidence.InjectiveEvidence.{Window, Twins}
use Rattle.certificate_laws.specs.LeastEvidence.{IsInjectivePart}

-- the window is the least evidence that the rule is injective, and it has at most 240 letters of the image
pub record IsShortWindow (r : LocalRule) (at : WindowAt) : Type 0 where
  pub least : IsInjectivePart r (Window at.n at.c)
  pub short : at.n ≤ most_window

-- the result is the least evidence that the rule is injective, or that it isn't
abbrev pub IsWindowOrTwins : LocalRule → Result WindowAt ShortPair → Type 0
IsWindowOrTwins r (Ok at) = IsShortWindow r at
IsWindowOrTwins r (Err pair) = IsInjectivePart r (Twins pair.x pair.y)
