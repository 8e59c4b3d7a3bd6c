use Rattle.std.proofs.Common.{◌≤◌, length, sym, ◌∙◌, arith}
use Rattle.std.proofs.lemmas.Slice.Eq.{slice_eq-Decides}
use Rattle.word_image.proofs.Common.{false≢true, nat_tests, Decides-eqb}
use Rattle.cert_conditions.specs.Refusals.IsTwinsBreach.{Length, Same, Image}
use Rattle.cert_check.proofs.twins.lacks.Goals as goal
use Rattle.cert_check.proofs.twins.lacks.Goals.{then-x-y-via-then-x-y, then-x-y-via-else-x-y+then-is_empty}

pub returns-then-x-y : goal.returns-then-x-y
returns-then-x-y c = Length (λ h. elim c.then-x-y.branch [
  | then-x-y-via-then-x-y w ↦ w.if-x-y.true h.0
  | then-x-y-via-else-x-y+then-is_empty w ↦ grind (arith, nat_tests)
])

pub returns-then-eq : goal.returns-then-eq
returns-then-eq c =
    let some : 1 ≤ length c.args.x.now = grind (arith, nat_tests) in
    Same c.if-x-y.false some ((slice_eq-Decides Decides-eqb c.args.x.now c.args.y.now c.eq.result c.eq.ensures).0 c.if-eq.true)

pub returns-then-not-have_one_image : goal.returns-then-not-have_one_image
returns-then-not-have_one_image c =
    let some : 1 ≤ length c.args.x.now = grind (arith, nat_tests) in
    let same = (slice_eq-Decides Decides-eqb c.args.x.now c.args.y.now c.eq.result c.eq.ensures).1 in
    Image c.if-x-y.false some (λ e. false≢true (sym c.if-eq.false ∙ same e)) (λ e. false≢true (sym c.if-not-have_one_image.true ∙ c.have_one_image.ensures.1 e))
