use Rattle.std.proofs.Common.{◌≡◌, ◌≤◌, ◌∷◌, length, take, slice_index, vec_capacity, filter}
use Rattle.word_image.proofs.Common.{is_cover}
use Rattle.orphan_search.proofs.search.write_cover.Given as goal

-- the covers among the first sets are written
abbrev pub invariant-loop-place : goal.invariant-loop-place
invariant-loop-place l = record {
  covers : l.cover.items ≡ slice_index l.family.sets 0 ∷ filter (is_cover (slice_index l.family.sets 0) l.family.sets) (take l.place l.family.sets);
  few : length l.cover.items ≤ l.place;
  capacity : vec_capacity l.cover ≡ vec_capacity l.initial.cover;
}
