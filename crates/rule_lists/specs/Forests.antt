-- A flux has an integer for each node and proves that a rule is number-conserving: for each window, the letter of the
-- image minus the first letter of the window is the integer of the first node minus the integer of the last node.
-- Fixed letters of a table determine some differences of these integers. Here nodes are joined to trees, and each node
-- has a level. The levels of two nodes of a tree differ by as much as their integers.
use Rattle.std.specs.Prelude.{◌≡◌, ◌≢◌, ◌⊎◌, ◌≤◌, ℕ, ◌+◌, ◌/◌, ◌%◌, ◌<◌, List, slice_index, slice_index_or, ℤ, pos, ◌-ℤ◌}
use Rattle.word_image.specs.LocalRules.{LocalRule, node_count, most_nodes}
use Rattle.word_image.specs.Rings.{IsFlux}
use Rattle.rule_lists.specs.Completions.{IsCompletion}

-- for any two nodes u and v of the same tree, the integer of u in `phi` minus the integer of v is the level of u minus the level of v
abbrev pub AreLevels : ℕ → List ℕ → List ℕ → List ℤ → Type 0
AreLevels n trees levels phi = (u v : ℕ) → u < n → v < n → slice_index trees u ≡ slice_index trees v
    → (slice_index_or phi u (pos 0) -ℤ slice_index_or phi v (pos 0)) ≡ pos (slice_index levels u) -ℤ pos (slice_index levels v)

-- the levels are right for each flux of each rule with the fixed letters: two nodes of the same tree differ in level by as much as in the flux
abbrev pub AreKnown : LocalRule → List ℕ → List ℕ → List ℕ → Type 0
AreKnown r letters trees levels = (s : LocalRule) (phi : List ℤ) → IsCompletion r.states r.width letters s → IsFlux (λ a. a) s phi → AreLevels (node_count r) trees levels phi

-- the level of each node is at most `most`
abbrev pub AreUpTo : ℕ → List ℕ → Type 0
AreUpTo most levels = (v : ℕ) → v < most_nodes → slice_index levels v ≤ most

-- `letter`, as the image of the window w, agrees with `phi`: `letter` minus the first letter of w is the integer of the first node minus the integer of the last node
abbrev pub GainsWith : LocalRule → ℕ → ℕ → List ℤ → Type 0
GainsWith r w letter phi = (pos letter -ℤ pos (w / node_count r)) ≡ slice_index_or phi (w / r.states) (pos 0) -ℤ slice_index_or phi (w % node_count r) (pos 0)

-- joins the tree `gone` to the tree `kept`: a node with this tree and level gets a new tree and level; levels in `kept` rise by `rise`, levels in `gone` by `other`
abbrev pub IsMoved : ℕ → ℕ → ℕ → ℕ → ℕ → ℕ → ℕ → ℕ → Type 0
IsMoved kept rise gone other tree level tree' level' =
    ((tree ≡ kept) × (tree' ≡ kept) × (level' ≡ level + rise)) ⊎ (((tree ≡ gone) × (tree' ≡ kept) × (level' ≡ level + other)) ⊎ ((tree ≢ kept) × (tree ≢ gone) × (tree' ≡ tree) × (level' ≡ level)))
