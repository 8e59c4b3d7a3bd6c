-- What the table of a rule shows before the rule is looked at.
use Rattle.std.proofs.Common.{◌<◌, ◌≤◌, ◌↔◌, IsTrue, false, length, arith}
use Rattle.word_image.proofs.Common.{false≢true, one-le-pow, LocalRule, IsRule, IsSurjective}
use Rattle.garden_laws.specs.Tables.{HasMean}
use Rattle.garden_laws.proofs.MeanTables.{HasMean-even}
use Rattle.garden_laws.proofs.EvenTables.{IsEven-surjective}

-- a no is true of what doesn't hold
pub no : {P : Type 0} → ¬ P → IsTrue false ↔ P
no none = ((λ t. absurd (false≢true t)), (λ p. absurd (none p)))

-- a table has a letter
pub some_letters : {r : LocalRule} → IsRule r → 0 < length r.table
some_letters {r} rule = let two : 2 ≤ r.states = rule.shape.least_states in omega (arith, rule.entries, one-le-pow r.width r.states (omega arith))

-- under a surjective rule each letter stands equally often, so the letters have the mean
pub HasMean-surjective : {r : LocalRule} → IsRule r → IsSurjective r → HasMean r.states r.table
HasMean-surjective rule every = HasMean-even rule (IsEven-surjective rule every)
