use Rattle.std.proofs.Common.{◌≡◌, ℕ, ◌^◌, ◌≤◌, ◌-ℤ◌, refl, ap, ap₂, ◌∙◌, arith, unsigned_abs}
use Rattle.word_image.proofs.Common.{one-le-pow, pow-zero, ints}
use Rattle.kept_sums.specs.Rows.{at}
use Rattle.kept_sums.proofs.Casts.{back-sub}
use Rattle.kept_sums.proofs.laws.Zeros.{at-replicate}
use Rattle.kept_sums.proofs.laws.Windows.{words-half, AreNumbers-next}
use Rattle.kept_sums.proofs.fluxes.numbers.Goals.{After-from-in-loop-word-2}
use Rattle.kept_sums.proofs.fluxes.numbers.Goals as goal

pub loop-word-init : goal.loop-word-init
loop-word-init c = record {
  many = refl;
  done = λ phi by v l. let e : v ≡ 0 = omega arith in rw (at-replicate 128 v) (omega (arith, ints, ap phi e));
  bounds = λ v j l m. rw (at-replicate 128 v) (omega arith);
  rest = λ v l. at-replicate 128 v;
}

-- both numbers are small
sizes : (c : After-from-in-loop-word-2) → (unsigned_abs (at c.loop-word.flux c.from-in-loop-word.result) ≤ 2 ^ 60)
    × (unsigned_abs (at c.args.gains.now c.from-in-loop-word-2.result) ≤ 2 ^ 60)
sizes c = grind (arith, words-half)

pub overflow_sub-flux : goal.overflow_sub-flux
overflow_sub-flux c =
    let both = sizes (goal.at.overflow_sub-flux c).After-from-in-loop-word-2 in
    omega (arith, ints, both.0, both.1)

pub loop-word-preserved : goal.loop-word-preserved
loop-word-preserved c =
    let k = c.args.k in
    let v = c.loop-word.word in
    let both = sizes (goal.at.loop-word-preserved c).After-from-in-loop-word-2 in
    let half = words-half k c.args.letters c.requires.states c.requires.few in
    let all = c.pow-word-end.ensures ∙ ap₂ (λ (x y : ℕ). x ^ y) refl c.from.ensures in
    AreNumbers-next k c.args.letters v c.from-in-loop-word-3.result c.args.gains.now c.loop-word.flux _ c.requires.states (omega arith) (omega arith) (omega arith) c.from-in-loop-word-3.ensures
    (c.requires.bounds v (omega arith))
    (back-sub (at c.loop-word.flux c.from-in-loop-word.result) (at c.args.gains.now c.from-in-loop-word-2.result)
    both.0 both.1
    ∙ ap₂ (λ (x y : ℕ). at c.loop-word.flux x -ℤ at c.args.gains.now y) c.from-in-loop-word.ensures c.from-in-loop-word-2.ensures)
    c.loop-word.invariant

pub returns-clause-bounds : goal.returns-clause-bounds
returns-clause-bounds c = grind (arith, one-le-pow)

pub returns-clause-first : goal.returns-clause-first
returns-clause-first c = omega (arith, ints, c.loop-word.invariant.bounds 0 0 (omega arith) (omega (arith, pow-zero c.args.k)))

pub returns-clause-ends : goal.returns-clause-ends
returns-clause-ends c = grind (arith, one-le-pow)
