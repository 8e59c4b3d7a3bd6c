-- Walks from state to state along a relation `Step`: `Step s a t` says that a step on the letter a leads from the state
-- s to the state t.
use Rattle.std.specs.Prelude.{◌≡◌, ℕ, List, [], ◌∷◌}
use Rattle.word_image.specs.LocalRules.{IsWord}

-- the letters of the list, one step for each letter, lead from the state s to the state t
abbrev pub Walk : {S L : Type 0} → (S → L → S → Type 0) → S → List L → S → Type 0
Walk Step s [] t = s ≡ t
Walk {S} Step s (a ∷ w) t = (u : S) × Step s a u × Walk Step u w t

-- the letters of the word, all below k, lead from the start to the state t
pub record Leads {S : Type 0} (Step : S → ℕ → S → Type 0) (k : ℕ) (start : S) (w : List ℕ) (t : S) : Type 0 where
  pub walk : Walk Step start w t
  pub word : IsWord k w
