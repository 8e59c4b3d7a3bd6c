use Rattle.std.proofs.Common.{List, ℕ, take, arith, length-take}
use Rattle.word_image.proofs.Common.{ints}
use Rattle.kept_sums.specs.Spans.{FitNarrowed}
use Rattle.kept_sums.specs.Stages.{IsCondition}
use Rattle.kept_sums.proofs.laws.AfterRings.{IsCondition-swap, IsAfterRing-narrowed}
use Rattle.kept_sums.proofs.laws.Bounds.{FitNarrowed-condition}
use Rattle.kept_sums.proofs.kept.narrow_by_ring.Goals.{After-gain}
use Rattle.kept_sums.proofs.kept.narrow_by_ring.Goals as goal

-- rows that are narrowed by the two words, in either order, fit
fits : (c : After-gain) {x y : List ℕ} → IsCondition c.args.rule.now c.args.range (take c.from.result c.args.letters.now) x y
    → FitNarrowed c.args.sums.now.rows x y c.in-Some.pivot
fits c condition =
    FitNarrowed-condition c.words.ensures.rule c.requires.letter c.requires.few c.requires.stage _ _ _ (rw c.from.ensures c.requires.ring) condition
    (omega (arith, c.from.ensures, c.requires.short, length-take c.from.result c.args.letters.now)) c.in-Some.pivot c.in-Some.ensures.last.within

pub narrow-requires-clause-fits : goal.narrow-requires-clause-fits
narrow-requires-clause-fits c = fits (goal.at.narrow-requires-clause-fits c).After-gain c.words.ensures.condition

pub narrow-requires-else-gain-gt0-clause-fits : goal.narrow-requires-else-gain-gt0-clause-fits
narrow-requires-else-gain-gt0-clause-fits c = fits (goal.at.narrow-requires-else-gain-gt0-clause-fits c).After-gain (IsCondition-swap c.words.ensures.condition)

pub returns-then-gain-gt0 : goal.returns-then-gain-gt0
returns-then-gain-gt0 c =
    rw (c.from-2.ensures, c.from-3.ensures, ← c.from.ensures)
    (IsAfterRing-narrowed c.words.ensures.rule c.from.result c.args.letters.now c.requires.stage c.requires.few c.words.ensures.condition c.in-Some.ensures.last.within c.in-Some.ensures.last.last
    c.narrow.ensures.narrowed c.narrow.ensures.small (omega arith) (omega arith) (rw c.from.ensures c.requires.ring))

pub returns-else-gain-gt0 : goal.returns-else-gain-gt0
returns-else-gain-gt0 c =
    rw (c.from-2.ensures, c.from-3.ensures, ← c.from.ensures)
    (IsAfterRing-narrowed c.words.ensures.rule c.from.result c.args.letters.now c.requires.stage c.requires.few (IsCondition-swap c.words.ensures.condition) c.in-Some.ensures.last.within
    (λ i l h. omega (arith, ints, c.in-Some.ensures.last.last i l h))
    c.narrow-else-gain-gt0.ensures.narrowed c.narrow-else-gain-gt0.ensures.small (omega arith) (omega arith) (rw c.from.ensures c.requires.ring))
