use Rattle.std.proofs.Common.{◌≡◌, ◌+◌, ◌-◌, ◌*◌, ◌<◌, slice_index, subst, ltb-true, ltb-false, arith, leb-false}
use Rattle.rule_classes.specs.Colourings.{AgreeFrom, IsChosen, entry}
use Rattle.rule_classes.proofs.laws.Readings.{IsRow-made}
use Rattle.rule_classes.proofs.laws.Colourings.{slice_index-best, recoloured_number-less}
use Rattle.rule_classes.proofs.laws.KnownWindows.{IsKnown, IsKnown-at, entry-chosen, entry-free}
use Rattle.rule_classes.proofs.laws.Completions.{Completes-itself, AgreeFrom-less, none_less}
use Rattle.rule_classes.proofs.search.compare_row.Goals.{After-from-in-loop-letter}
use Rattle.rule_classes.proofs.search.compare_row.Goals as goal

pub read-colour-requires-clause-row : goal.read-colour-requires-clause-row
read-colour-requires-clause-row c = grind (arith, IsRow-made)

-- at a letter above which the tables agree: what is known of its window, and the entries of both there
here : (c : After-from-in-loop-letter)
    → IsKnown c.args.rule.now c.args.low c.args.high (c.args.node * c.args.rule.now.states + (c.loop-letter.letter - 1))
    × AgreeFrom c.args.rule.now c.args.colouring.now c.args.low c.args.high c.args.best.now.colouring (c.args.node * c.args.rule.now.states + (c.loop-letter.letter - 1) + 1)
    × (c.read-colour.result.1 ≡ entry c.args.rule.now c.args.colouring.now (c.args.node * c.args.rule.now.states + (c.loop-letter.letter - 1)))
    × (slice_index c.args.best.now.entries c.from-in-loop-letter.result ≡ entry c.args.rule.now c.args.best.now.colouring (c.args.node * c.args.rule.now.states + (c.loop-letter.letter - 1)))
here c =
    let letter : c.loop-letter.letter - 1 < c.args.rule.now.states = omega (arith, c.k-k.ensures.states) in
    let known = IsKnown-at c.k-k.ensures.rule c.args.node c.args.first (c.loop-letter.letter - 1) c.requires.node letter (omega arith) c.requires.known in
    let other = slice_index-best c.args.best.now (c.args.node * c.args.rule.now.states + (c.loop-letter.letter - 1)) c.requires.best known.below in
    (known, grind arith, grind (arith, IsRow-made), grind arith)

pub returns-then-is_free-clause-no_less : goal.returns-then-is_free-clause-no_less
returns-then-is_free-clause-no_less c greater =
    let (known, agree, colour, other) = here (goal.at.returns-then-is_free-clause-no_less c).After-from-in-loop-letter in
    none_less c.k-k.ensures.rule c.requires.best.colouring known.below agree (λ d completes.
    omega (arith, other, leb-false _ _ greater, entry-free c.k-k.ensures.rule c.requires.colouring completes known (omega (arith, colour, (c.is_free.ensures.free c.if-is_free.true).0))))

pub returns-then-colour-other-clause-less : goal.returns-then-colour-other-clause-less
returns-then-colour-other-clause-less c less same = grind (arith, here, recoloured_number-less, Completes-itself, ltb-true)

pub returns-then-colour-other-clause-no_less : goal.returns-then-colour-other-clause-no_less
returns-then-colour-other-clause-no_less c greater =
    let (known, agree, colour, other) = here (goal.at.returns-then-colour-other-clause-no_less c).After-from-in-loop-letter in
    let chosen = subst (IsChosen c.args.low c.args.high) colour (c.is_free.ensures.chosen c.if-is_free.false) in
    none_less c.k-k.ensures.rule c.requires.best.colouring known.below agree (λ d completes.
    omega (arith, colour, other, ltb-false _ _ greater, c.if-colour-other.true, entry-chosen c.k-k.ensures.rule c.requires.colouring completes known chosen))

pub loop-letter-preserved : goal.loop-letter-preserved
loop-letter-preserved c = grind (arith, here, AgreeFrom-less)
