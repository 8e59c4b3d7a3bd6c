use Rattle.std.proofs.Common.{[], slice_index_or, ◌/◌, sym, ◌∙◌, ⊎_elim, arith, unsigned_abs}
use Rattle.std.proofs.Math.Nat.{dvd-mul_right}
use Rattle.word_image.proofs.Common.{eq-one_of_dvd-one, mul-div_cancel'}
use Rattle.kept_sums.specs.Rows.{at}
use Rattle.kept_sums.specs.Spans.{entry}
use Rattle.kept_sums.proofs.laws.Combined.{multiple_of}
use Rattle.kept_sums.proofs.laws.Stages.{stands_or_zero, not_both}
use Rattle.kept_sums.proofs.laws.Unique.{stands_too, same_standing}
use Rattle.kept_sums.proofs.theorems.one_answer.Goals as goal

pub returns-clause-same : goal.returns-clause-same
returns-clause-same c = λ r range rows others counts other_counts rings other_rings one other i a l n.
    ⊎_elim
    (λ stands. same_standing one other i l stands a n)
    (λ zeros. ⊎_elim
    (λ upright. absurd (not_both (entry rows i i) (stands_too other one i l upright).standing.leads (zeros i l)))
    (λ none. zeros a n ∙ sym (none a n))
    (stands_or_zero (other.stage.places i l)))
    (stands_or_zero (one.stage.places i l))

pub returns-clause-primitive : goal.returns-clause-primitive
returns-clause-primitive c = λ r range rows counts rings sums i d l free none divides.
    let row = slice_index_or rows i [] in
    let part = multiple_of row 1 1 d (λ a. unsigned_abs (at row a) / d) (((sums.stage.places i l).standing free none).combined) (omega arith) (λ a h. omega (arith, mul-div_cancel' d (divides a h))) in
    eq-one_of_dvd-one (rw (← part.2) at (dvd-mul_right d part.0))
