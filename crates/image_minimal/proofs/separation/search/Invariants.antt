use Rattle.image_minimal.proofs.Common.{◌≡◌, ◌+◌, ◌-◌, ◌*◌, IsFalling, IsLinkSearch, set_count, vec_capacity}
use Rattle.image_minimal.proofs.LinkSearches.{IsLinkSearchAt}
use Rattle.image_minimal.proofs.separation.search.Given as goal

-- the edges from the first links are followed
abbrev pub invariant-loop-place : goal.invariant-loop-place
invariant-loop-place l = record { search : IsLinkSearch l.first l.second l.links.items l.parents (l.place * l.first.states); falling : IsFalling l.parents; capacity : vec_capacity l.links ≡ vec_capacity l.fn.links }

-- how many links may still come
abbrev pub decreases-loop-place : goal.decreases-loop-place
decreases-loop-place l = set_count l.first l.second + 1 - l.place

-- the edges on the first letters are followed
abbrev pub invariant-loop-letter : goal.invariant-loop-letter
invariant-loop-letter l = record { search : IsLinkSearchAt l.first l.second l.links.items l.parents l.place l.firsts l.seconds l.letter; falling : IsFalling l.parents; capacity : vec_capacity l.links ≡ vec_capacity l.fn.links }
