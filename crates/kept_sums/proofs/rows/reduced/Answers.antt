use Rattle.std.proofs.Common.{◌≡◌, ℕ, ◌^◌, ◌≤◌, ℤ, pos, ◌*ℤ◌, refl, sym, subst, ◌∙◌, w64, arith, unsigned_abs, length-set}
use mir.Syntax.{w128}
use Rattle.word_image.proofs.Common.{eq-zero_of_zero-dvd, ints, set_more}
use Rattle.kept_sums.specs.Rows.{at}
use Rattle.kept_sums.proofs.Casts.{back}
use Rattle.kept_sums.proofs.laws.Combined.{IsCombined-divided}
use Rattle.kept_sums.proofs.laws.Zeros.{at-replicate}
use Rattle.kept_sums.proofs.rows.reduced.Goals as goal

pub returns-then-divisor-eq0-clause-part : goal.returns-then-divisor-eq0-clause-part
returns-then-divisor-eq0-clause-part c = record {
  share = 1;
  positive = omega arith;
  multiple = λ a l.
      let zero = eq-zero_of_zero-dvd (rw c.if-divisor-eq0.true at (c.divisor-divisor.ensures.divides a l)) in
      rw (at-replicate 16 a) (omega (arith, ints, zero));
  combined = λ a l some. absurd (some (at-replicate 16 a));
}

pub quotient-requires-clause-divides : goal.quotient-requires-clause-divides
quotient-requires-clause-divides c =
    let n = c.loop-place.place in
    rw (back w128 (at c.args.cross.now n) (2 ^ 118) (c.requires.bounds n (omega arith)) (omega arith))
    (c.divisor-divisor.ensures.divides n (omega arith))

pub loop-place-preserved : goal.loop-place-preserved
loop-place-preserved c =
    let n = c.loop-place.place in
    let x = c.quotient.result in
    let P : ℕ → ℤ → Type 0 = λ a x. (pos c.divisor-divisor.result *ℤ x ≡ at c.args.cross.now a) × (unsigned_abs x ≤ 2 ^ 56) in
    let most = c.quotient.ensures.small in
    let number = back w128 (at c.args.cross.now n) (2 ^ 118) (c.requires.bounds n (omega arith)) (omega arith) in (
      length-set c.loop-place.row n _ ∙ c.loop-place.invariant.0,
      set_more P c.loop-place.row n n (pos 0) _ (omega arith) refl c.loop-place.invariant.1 (subst (P n) (sym (back w64 x (2 ^ 56) most (omega arith))) (c.quotient.ensures.quotient ∙ number, most)),
    )

pub returns-clause-part : goal.returns-clause-part
returns-clause-part c = grind (arith, IsCombined-divided)

pub quotient-requires-clause-small : goal.quotient-requires-clause-small
quotient-requires-clause-small c =
    let n = c.loop-place.place in
    rw (back w128 (at c.args.cross.now n) (2 ^ 118) (c.requires.bounds n (omega arith)) (omega arith))
    (c.requires.divides c.divisor-divisor.result c.divisor-divisor.ensures n (omega arith))
