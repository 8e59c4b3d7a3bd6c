-- A window of m letters consists of a node, which is a word of m - 1 letters, and one more letter. The side says at
-- which end this letter is: at the right end on the side `Right`, and at the left end on the side `Left`. A step from
-- node u on letter a goes along the window of u and a. Windows and nodes are given by their values: with two states,
-- the window 011 has the value 3.
use Rattle.std.specs.Prelude.{ℕ, ◌+◌, ◌*◌, ◌/◌, ◌%◌, slice_index}
use Rattle.word_image.specs.LocalRules.{LocalRule, node_count}
use Rattle.word_image.specs.declared.side.Side.{Side}
use Rattle.word_image.specs.declared.side.Side.TheVariants.{Right, Left}

-- the window that consists of a node and a letter: on the right the letter comes after the node, on the left before it
abbrev pub window_with : Side → LocalRule → ℕ → ℕ → ℕ
window_with Right r u a = u * r.states + a
window_with Left r u a = a * node_count r + u

-- the node at this end of a window: its last m - 1 letters on the right, its first m - 1 letters on the left
abbrev pub end_node : Side → LocalRule → ℕ → ℕ
end_node Right r w = w % node_count r
end_node Left r w = w / r.states

-- the letter at this end of a window: its last letter on the right, its first letter on the left
abbrev pub end_letter : Side → LocalRule → ℕ → ℕ
end_letter Right r w = w % r.states
end_letter Left r w = w / node_count r

-- the letter that the rule gives for the window of node u and letter a
abbrev pub label_at : Side → LocalRule → ℕ → ℕ → ℕ
label_at side r u a = slice_index r.table (window_with side r u a)

-- the node to which a step from node u on letter a leads: the node at this end of their window
abbrev pub end_at : Side → LocalRule → ℕ → ℕ → ℕ
end_at side r u a = end_node side r (window_with side r u a)
