-- Links for the test whether two rules have the same orphans (Hopcroft and Karp 1971). A link is a pair of sets of
-- nodes that the same word reaches, the first set under the first rule and the second set under the second rule. A
-- colouring f gives each set one of two colours. The sets of the first rule have the numbers below n, and set s of the
-- second rule has the number n + s. Links join two sets if the sets have the same colour under every colouring that
-- gives the two sets of each link the same colour.
use Rattle.std.specs.Prelude.{◌≡◌, ℕ, ◌+◌, ◌≤◌, ◌^◌, List, length, map, slice_get, Some, Bool, nat_eq}
use Rattle.search_laws.specs.SearchQueues.{Place, TreeSpells, IsFilled, filled}
use Rattle.word_image.specs.LocalRules.{LocalRule, node_count}
use Rattle.word_image.specs.Graphs.{full_set}
use Rattle.word_image.specs.Edges.{IsStep}
use Rattle.image_minimal.specs.Joins.{AreColours, class_count}
use Rattle.image_minimal.specs.declared.links.Link.{Link}

-- a link as a place of a breadth-first search through pairs of sets
abbrev pub link_place : Link → Place (ℕ × ℕ)
link_place x = record { state = (x.first, x.second); parent = x.parent; letter = x.letter }

abbrev pub link_places : List Link → List (Place (ℕ × ℕ))
link_places = map link_place

-- f gives the same colour to both sets of each link that the search made while it followed its first e edges
abbrev pub HaveOneColour : ℕ → ℕ → List Link → ℕ → (ℕ → Bool) → Type 0
HaveOneColour n k links e f = (i : ℕ) (x : Link) → slice_get links i ≡ Some x → filled k i (link_place x) ≤ e → f x.first ≡ f (n + x.second)

-- a step on the letter a leads from the pair `from` to the pair `to`: under the rule r from the first set to the first set, and under the rule q from the second set to the second set
abbrev pub LinkStep : LocalRule → LocalRule → ℕ × ℕ → ℕ → ℕ × ℕ → Type 0
LinkStep r q from a to = IsStep r from.0 a to.0 × IsStep q from.1 a to.1

-- the links that the search made while it followed its first e edges join the two sets of the pair
abbrev pub HasChain : LocalRule → List Link → ℕ × ℕ → ℕ → Type 0
HasChain r links pair e = (f : ℕ → Bool) → HaveOneColour (2 ^ node_count r) r.states links e f → f pair.0 ≡ f (2 ^ node_count r + pair.1)

-- how many sets of nodes r and q have together
abbrev pub set_count : LocalRule → LocalRule → ℕ
set_count r q = 2 ^ node_count r + 2 ^ node_count q

-- the greatest number of links of two rules: each link but the first joins two classes of sets, and there are at most 131,072 sets
abbrev pub most_links : ℕ
most_links = 131073

-- A breadth-first search through pairs of a set of r and a set of q. It starts with the two sets of all nodes and has followed its first e edges. A pair makes no link if earlier links join its two sets. In each link both sets are empty or neither is. `parents` joins the sets of both rules into classes, as the links do.
pub record IsLinkSearch (r q : LocalRule) (links : List Link) (parents : List ℕ) (e : ℕ) : Type 0 where
  pub fills : IsFilled (LinkStep r q) (HasChain r links) r.states (full_set r, full_set q) (link_places links) e
  pub even : (i : ℕ) (x : Link) → slice_get links i ≡ Some x → nat_eq x.first 0 ≡ nat_eq x.second 0
  pub long : length parents ≡ set_count r q
  pub joined : (f : ℕ → Bool) → HaveOneColour (2 ^ node_count r) r.states links e f → AreColours parents f
  pub few : length links + class_count parents ≤ set_count r q + 1

-- the word has the letters of the steps from the first link to the link at this place
abbrev pub SpellsLink : List Link → ℕ → List ℕ → Type 0
SpellsLink links = TreeSpells (link_places links)
