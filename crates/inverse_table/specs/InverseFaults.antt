-- Why a window (n, c) of a rule has no inverse map. The window is determined if n letters of an image determine the
-- letter at place c of each preimage. A determined window has an inverse map, which computes this letter from the n
-- letters.
use Rattle.std.specs.Prelude.{◌≢◌, ℕ, ◌+◌, ◌-◌, ◌^◌, ◌<◌, ◌≤◌, List, slice_index}
use Rattle.inverse_table.specs.MapLimits.{most_map_entries}
use Rattle.word_image.specs.LocalRules.{LocalRule, word_of}
use Rattle.word_image.specs.Windows.{HaveOneImage}
use Rattle.inverse_table.specs.declared.table_room.NoMap.{NoMap}
use Rattle.inverse_table.specs.declared.table_room.NoMap.TheVariants as no
use Rattle.inverse_table.specs.declared.tables.InvFault.{InvFault}
use Rattle.inverse_table.specs.declared.tables.InvFault.TheVariants.{Wide, NotDetermined, Memory}

-- x and y are two words with the same image that differ at place c, so the window (n, c) isn't determined
pub record IsApartAt (r : LocalRule) (n c : ℕ) (x y : List ℕ) : Type 0 where
  pub one_image : HaveOneImage r n x y
  pub differ : slice_index x c ≢ slice_index y c

-- the window (n, c) has this fault. `Wide`: its map would have more than 65,536 letters; this fault comes before the others. `NotDetermined`: the words x and y have the same image and differ at place c. `Memory`: there isn't enough memory
abbrev pub IsInvFault : LocalRule → ℕ → ℕ → InvFault → Type 0
IsInvFault r n c Wide = most_map_entries < r.states ^ n
IsInvFault r n c (NotDetermined x y) = (r.states ^ n ≤ most_map_entries) × IsApartAt r n c x y
IsInvFault r n c (Memory e) = r.states ^ n ≤ most_map_entries

-- x and y are the values of two words of n + m - 1 letters that have the same image and differ at place c
pub record AreApartAt (r : LocalRule) (n c x y : ℕ) : Type 0 where
  pub first : x < r.states ^ (n + (r.width - 1))
  pub second : y < r.states ^ (n + (r.width - 1))
  pub words : IsApartAt r n c (word_of r.states (n + (r.width - 1)) x) (word_of r.states (n + (r.width - 1)) y)

-- the window (n, c) has no map for this reason. `Wide`: the map would have more than 65,536 letters; this reason comes before the other. `NotDetermined`: the words with the values x and y have the same image and differ at place c
abbrev pub IsNoMap : LocalRule → ℕ → ℕ → NoMap → Type 0
IsNoMap r n c no.Wide = most_map_entries < r.states ^ n
IsNoMap r n c (no.NotDetermined x y) = (r.states ^ n ≤ most_map_entries) × AreApartAt r n c x y
