-- Worked examples of a sink and a source in memory. The prover computes each of them.
use Rattle.std.specs.Prelude.{◌≡◌, refl, true, false, [], ◌∷◌, codes}
use Rattle.ca_io.specs.Faults.{count_up}
use Rattle.ca_io.specs.Trays.{Tray, empty_tray, after_taking, after_fault}
use Rattle.ca_io.specs.Trays as tray
use Rattle.ca_io.specs.Feeds.{Feed, whole_feed, after_giving}
use Rattle.ca_io.specs.Feeds as feed

-- A count of faults rises by one, and stops at its greatest value

count_up-small : count_up 3 ≡ 4
count_up-small = refl

count_up-greatest : count_up 18446744073709551615 ≡ 18446744073709551615
count_up-greatest = refl

-- A sink that has room for three bytes and takes one byte in a call; call 1, counted from 0, fails

abbrev pub small_tray : Tray
small_tray = empty_tray 3 1 (1 ∷ [])

first_write : tray.count_to_take small_tray 2 ≡ 1
first_write = refl

second_write : tray.next_write_fails (after_taking small_tray (codes "a")) ≡ true
second_write = refl

third_write : tray.next_write_fails (after_fault (after_taking small_tray (codes "a"))) ≡ false
third_write = refl

full_tray : tray.next_write_fails (after_taking small_tray (codes "aeg")) ≡ true
full_tray = refl

-- A source that has three bytes and gives two bytes in a call; call 1, counted from 0, fails

abbrev pub small_feed : Feed
small_feed = whole_feed (codes "abc") 2 (1 ∷ [])

first_read : feed.count_to_give small_feed 8 ≡ 2
first_read = refl

second_read : feed.next_read_fails (after_giving small_feed 2) ≡ true
second_read = refl
