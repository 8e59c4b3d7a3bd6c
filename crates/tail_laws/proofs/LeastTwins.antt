-- The least twins are the first of the least walks in the marked graph from a pair without the mark to the same pair with it.
use Rattle.std.proofs.Common.{◌≢◌, ℕ, ◌+◌, ◌<◌, ◌≤◌, List, [], ◌∷◌, length, map, sym, subst, arith, zip, Greater}
use Rattle.std.proofs.lemmas.Slice.Zip.{length-zip}
use Rattle.word_image.proofs.Common.{LocalRule, IsRule, pair_count, marked, IsTwins, IsLeastTwins, pairs_cmp, pair_count_pos, pair_count-le}
use Rattle.search_laws.proofs.Common.{IsLeastWalk, length-IsLeastWalk}
use Rattle.tail_laws.specs.Turns.{IsTurn}
use Rattle.pair_laws.proofs.Common.{marked-below}
use Rattle.tail_laws.proofs.SplitWalks.{zip-sides}
use Rattle.tail_laws.proofs.MarkedTurns.{twins-turn, IsTwins-turn}
use Rattle.tail_laws.specs.FirstLists.{IsLeastOf, NoneBelow, IsFirstBelow}

-- the least walk from the pair p to p with the mark
abbrev pub IsLeastTurn : LocalRule → ℕ → List (ℕ × ℕ) → Type 0
IsLeastTurn r p w = IsLeastWalk (marked r) r.states p (p + pair_count r) w

-- a walk from the pair p to p with the mark has a step
pub turn-some : {r : LocalRule} → IsRule r → (p : ℕ) (w : List (ℕ × ℕ)) → IsTurn r p w → 0 < length w
turn-some rule p [] turn = omega (arith, pair_count_pos)
turn-some rule p (ab ∷ w) turn = omega arith

-- the least walk from the pair p to p with the mark that has a step is the least of all such walks
pub IsLeastOf-turn : {r : LocalRule} {p : ℕ} {w : List (ℕ × ℕ)} → IsRule r → IsLeastTurn r p w → IsLeastOf (IsTurn r) p w
IsLeastOf-turn {r} {p} rule first = record { has = first.walk; least = λ v turn. first.least v (turn-some rule p v turn) turn }

-- the first of all walks has the least twins
pub IsLeastTwins-first : {r : LocalRule} {w : List (ℕ × ℕ)} → IsRule r → IsFirstBelow (IsTurn r) (pair_count r) w
    → IsLeastTwins r (map (λ a. a.0) w) (map (λ a. a.1) w)
IsLeastTwins-first {w = w} rule first = record {
  twins = IsTwins-turn rule first.below first.has;
  least = λ u v twins. let turn = twins-turn rule twins in subst (λ z. pairs_cmp z (zip u v) ≢ Greater) (sym (zip-sides w)) (first.least turn.0 (zip u v) turn.1 turn.2);
}

-- where no pair has a walk to itself with the mark, there are no twins
pub no_twins-none : {r : LocalRule} → IsRule r → NoneBelow (IsTurn r) (pair_count r) → (x y : List ℕ) → ¬ IsTwins r x y
no_twins-none rule none x y twins = let turn = twins-turn rule twins in none turn.0 (zip x y) turn.1 turn.2

-- the least twins are the least walk from a pair to itself with the mark, so each has at most 512 letters
pub length-IsLeastTwins : {r : LocalRule} {x y : List ℕ} → IsRule r → IsLeastTwins r x y → (length x ≤ 512) × (length y ≤ 512)
length-IsLeastTwins {r} {x} {y} rule first =
    let (p, below, turn) = twins-turn rule first.twins in
    let walk : IsLeastTurn r p (zip x y) = record {
      some = turn-some rule p (zip x y) turn;
      walk = turn;
      least = λ v some other. subst (λ z. pairs_cmp (zip x y) z ≢ Greater) (zip-sides v) (first.least _ _ (IsTwins-turn rule below other));
    } in
    let most = pair_count-le rule in
    let few = length-IsLeastWalk (marked-below rule) walk in
    let one = first.twins.one_length in
    let long = length-zip x y in
    (omega arith, omega arith)
