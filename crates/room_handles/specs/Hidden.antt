-- What a hidden box of a room owns.
use mathlib.Core.Bool.{Bool}
use base.Fml.{Fml}
use denote.RawPtr.{Ptr}
use Rattle.std.specs.declared.alloc.Global.{Global}
use Rattle.std.specs.contracts.impls.GlobalAllocator.TheImpl.{ghosts}
use Rattle.room_handles.specs.contracts.rooms.CallRoom.{the_row}
use Rattle.room_handles.specs.Held.{held}

-- the block of a room at the pointer, if there is one
abbrev pub hidden : Global → Ptr → Bool → Fml
hidden a = held (ghosts.dealloc_token a) the_row
