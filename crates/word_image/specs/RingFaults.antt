-- The reasons why a ring has no image under a rule of k states.
use Rattle.std.specs.Prelude.{ℕ, List, length, Option, Some, None, nat_le, ◌==◌, if◌then◌else◌, position}
use Rattle.std.specs.Option.{option_map, option_or}
use Rattle.word_image.specs.LocalRules.{LocalRule}
use Rattle.word_image.specs.declared.rings.RingFault.{RingFault}
use Rattle.word_image.specs.declared.rings.RingFault.TheVariants.{Letter, Empty}

-- the first fault of a ring, or None: a letter that isn't below k, with its place, or else no letter at all
abbrev pub ring_fault : LocalRule → List ℕ → Option RingFault
ring_fault r p = option_or (option_map Letter (position (λ a. nat_le r.states a) p)) (if length p == 0 then Some Empty else None)
