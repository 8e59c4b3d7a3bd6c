-- The marked graph of a rule. Its nodes are marked pairs: pairs of nodes of the de Bruijn graph with a mark. The mark
-- is 1 if the two walks that lead to the pair have had different letters in some step, and 0 if not.
use Rattle.std.specs.Prelude.{ℕ, ◌+◌, ◌*◌, ◌%◌, Option, Some, None, ◌==◌, ◌||◌, not, if◌then◌else◌, nat_le}
use Rattle.word_image.specs.LocalRules.{LocalRule}
use Rattle.word_image.specs.Graphs.{next, label, pair_of, first_of, second_of, pair_count, most_pairs}

-- One step in the marked graph: the marked pair to which the letters a and b lead from the marked pair t, or None if the labels differ. The pair p with mark 0 has the number p, and with mark 1 it has p plus the number of pairs. The mark becomes 1 when two letters differ, and stays 1.
abbrev pub marked : LocalRule → ℕ → ℕ → ℕ → Option ℕ
marked r t a b =
    if label r (first_of r (t % pair_count r)) a == label r (second_of r (t % pair_count r)) b
    then Some (pair_of r (next r (first_of r (t % pair_count r)) a) (next r (second_of r (t % pair_count r)) b)
    + (if nat_le (pair_count r) t || not (a == b) then pair_count r else 0))
    else None

-- the greatest number of marked pairs that an accepted rule has
abbrev pub most_marked_pairs : ℕ
most_marked_pairs = 2 * most_pairs
