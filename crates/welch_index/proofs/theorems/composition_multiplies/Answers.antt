use Rattle.welch_index.proofs.Composed.{IsAfter-composed}
use Rattle.welch_index.proofs.Factors.{factors, fewest_factors}
use Rattle.welch_index.proofs.theorems.composition_multiplies.Goals as goal

pub returns-clause-numbers : goal.returns-clause-numbers
returns-clause-numbers _ f s g d n l e m k c p q one two all same h onto_f onto_s first second whole =
    factors (IsAfter-composed one two all same h) onto_f onto_s first second whole

pub returns-clause-fewest : goal.returns-clause-fewest
returns-clause-fewest _ f s g a b c d x y i j k l m n u v w z p q one two all same h onto_f onto_s last_f first_f last_s first_s last_g first_g =
    fewest_factors (IsAfter-composed one two all same h) onto_f onto_s last_f first_f last_s first_s last_g first_g
