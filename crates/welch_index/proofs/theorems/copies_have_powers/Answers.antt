use Rattle.std.proofs.Common.{◌*◌, sym, ap, ◌∙◌}
use Rattle.welch_index.proofs.Composed.{IsAfter-composed}
use Rattle.welch_index.proofs.Factors.{fewest_factors}
use Rattle.welch_index.proofs.Copies.{IsSurjective-copy, copy_numbers}
use Rattle.welch_index.proofs.theorems.copies_have_powers.Goals as goal

pub returns-clause-surjective : goal.returns-clause-surjective
returns-clause-surjective _ r j rule copy = IsSurjective-copy rule copy

pub returns-clause-fewest : goal.returns-clause-fewest
returns-clause-fewest _ r j f b nodes others u v rule copy = copy_numbers rule copy f b nodes others u v

pub returns-clause-undone : goal.returns-clause-undone
returns-clause-undone _ f s g e a b c d x y i j k l m n u v w z p q one two all same h copy onto_f onto_s last_f first_f last_s first_s last_g first_g =
    let products = fewest_factors (IsAfter-composed one two all same h) onto_f onto_s last_f first_f last_s first_s last_g first_g in
    let powers = copy_numbers all copy x y m n p q last_g first_g in
    (sym products.0 ∙ powers.0, sym products.1 ∙ powers.1)

pub returns-clause-widened : goal.returns-clause-widened
returns-clause-widened _ f s g e a b c d x y i j k l m n u v w z p q one two all same h copy onto last_f first_f last_s first_s last_g first_g =
    let products = fewest_factors (IsAfter-composed one two all same h) onto (IsSurjective-copy two copy) last_f first_f last_s first_s last_g first_g in
    let powers = copy_numbers two copy c d k l w z last_s first_s in
    (products.0 ∙ ap (λ t. a * t) powers.0, products.1 ∙ ap (λ t. b * t) powers.1)
