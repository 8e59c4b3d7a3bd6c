-- A word leads from a set to one set.
use Rattle.std.proofs.Common.{◌≡◌, ℕ, List, [], ◌∷◌, sym, subst, ◌∙◌}
use Rattle.word_image.proofs.Common.{LocalRule}
use Rattle.search_laws.proofs.Common.{IsSetOf-unique}
use Rattle.cert_conditions.specs.Sets.{LeadsTo}

-- a word leads from a set to one set
pub LeadsTo-unique : (r : LocalRule) (w : List ℕ) (set end other : ℕ) → LeadsTo r set w end → LeadsTo r set w other → end ≡ other
LeadsTo-unique r [] set end other first second = sym first ∙ second
LeadsTo-unique r (a ∷ w) set end other (next, step, rest) (after, also, more) = LeadsTo-unique r w next end other rest (subst (λ s. LeadsTo r s w other) (IsSetOf-unique also step) more)
