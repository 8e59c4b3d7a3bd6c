-- The reasons why a word has no image under a rule of k states and width m.
use Rattle.std.specs.Prelude.{ℕ, ◌-◌, List, length, Option, Some, None, nat_lt, nat_le, if◌then◌else◌, position}
use Rattle.std.specs.Option.{option_map, option_or}
use Rattle.word_image.specs.LocalRules.{LocalRule}
use Rattle.word_image.specs.declared.images.ImageFault.{ImageFault}
use Rattle.word_image.specs.declared.images.ImageFault.TheVariants.{Letter, Short}

-- the first fault of a word, or None: a letter that isn't below k, with its place, or else fewer than m - 1 letters
abbrev pub image_fault : LocalRule → List ℕ → Option ImageFault
image_fault r x = option_or (option_map Letter (position (λ a. nat_le r.states a) x)) (if nat_lt (length x) (r.width - 1) then Some Short else None)
