-- Used only in this crate: the automaton of a surjective rule, which accepts all words.
use Rattle.std.specs.Prelude.{ℕ, None, replicate}
use Rattle.image_minimal.specs.ImageLanguages.{Automaton}

-- the automaton with one class, which is its own next class on each letter; it has no class of orphans
abbrev pub one_class : ℕ → Automaton
one_class k = record { states = k; classes = 1; next = replicate k 0; dead = None }
