-- The cover list of a family, worked by hand, which the prover computes. A family is a list of sets of nodes, given as
-- numbers. Its covers are the set of all nodes, and each set that contains no other set of the list.
use Rattle.std.specs.Prelude.{◌≡◌, [], ◌∷◌, refl}
use Rattle.word_image.specs.Families.{covers_of}

-- among the twelve sets of rule 106 only the sets with one node contain no other set: the cover list has these four sets after the set of all nodes
covers_of-106 : covers_of 15 (15 ∷ 13 ∷ 14 ∷ 9 ∷ 6 ∷ 5 ∷ 10 ∷ 1 ∷ 2 ∷ 12 ∷ 4 ∷ 8 ∷ []) ≡ 15 ∷ 1 ∷ 2 ∷ 4 ∷ 8 ∷ []
covers_of-106 = refl
