-- What a holder of a box owns: the block of the box with some value and the right to give it back, or nothing.
use mathlib.Core.Bool.{Bool, true, false}
use mir.Syntax.{Ty}
use base.Fml.{Fml, ftrue, fex}
use denote.RattleType.{RattleType}
use denote.RawPtr.{Ptr}
use Rattle.std_alloc.specs.Box.Ownership.{box_owns}

-- the block at the pointer, if there is one
abbrev pub held : (Ty → Ptr → Fml) → (R : RattleType) → Ptr → Bool → Fml
held holds R p true = fex R.Denot (λ x. box_owns holds R p x)
held holds R p false = ftrue
