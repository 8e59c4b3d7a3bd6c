-- Twins are the walks in the marked graph from a pair without the mark to the same pair with it.
use Rattle.std.proofs.Common.{◌≡◌, ℕ, ◌+◌, ◌<◌, ◌≤◌, pos, List, [], ◌∷◌, length, map, sym, ◌∙◌, inr, arith, mod-eq_of_lt, zip}
use Rattle.word_image.proofs.Common.{add-mod_right, length-map, LocalRule, IsRule, first_of, second_of, pair_count, IsTwins}
use Rattle.pair_laws.proofs.Common.{pair_of-below, pair_of-first_of, first_of-below, second_of-below}
use Rattle.tail_laws.specs.Turns.{IsTurn}
use Rattle.tail_laws.proofs.PairLeads.{PairLeads, pair_at}
use Rattle.tail_laws.proofs.TwinTails.{round, IsTail-round, ShareImage-rings}
use Rattle.tail_laws.proofs.Nodes.{node_at-below}
use Rattle.tail_laws.proofs.TwinWalks.{loop-ShareImage, IsTwins-walk}
use Rattle.tail_laws.proofs.MarkedWalks.{HasOther, HasOther-zip, HasOther-different, IsMarkedWalk-leads, leads-marked}
use Rattle.tail_laws.proofs.SplitWalks.{zip-sides, IsWord-side, ArePairs-zip, MarkedLeads-below, with_mark-marked}

-- the letter pairs of twins are a walk from a pair to itself with the mark
pub twins-turn : {r : LocalRule} {x y : List ℕ} → IsRule r → IsTwins r x y → (p : ℕ) × (p < pair_count r) × IsTurn r p (zip x y)
twins-turn {r} {x} {y} rule twins =
    let n : ℕ = pair_count r in
    let p : ℕ = pair_at r (round x) (round y) (pos 0) in
    let below : p < n = pair_of-below r _ _ (node_at-below rule (IsTail-round twins.first) (pos 0)) (node_at-below rule (IsTail-round twins.second) (pos 0)) in
    let loop = loop-ShareImage rule twins.first twins.second twins.one_length (ShareImage-rings r x y twins.first.some twins.one_length twins.one_image) in
    let (s, steps, ends) = leads-marked rule (zip x y) p p (rw (mod-eq_of_lt {n = p} below) loop) in
    let other = HasOther-zip x y twins.one_length twins.different in
    let has_mark : n ≤ s = (IsMarkedWalk-leads rule (zip x y) p s steps).mark.1 (inr other) in
    let end : s ≡ p + n = with_mark-marked rule s p (MarkedLeads-below rule (zip x y) p s (omega arith) steps) has_mark ends in
    (p, below, record { steps = rw end at steps; letters = ArePairs-zip r.states x y twins.first.word twins.second.word })

-- letter pairs with two different letters are at least one
HasOther-some : (w : List (ℕ × ℕ)) → HasOther w → 0 < length w
HasOther-some [] h = absurd h
HasOther-some (ab ∷ w) h = omega arith

-- the letters of a walk from a pair to itself with the mark are twins
pub IsTwins-turn : {r : LocalRule} {p : ℕ} {w : List (ℕ × ℕ)} → IsRule r → p < pair_count r → IsTurn r p w
    → IsTwins r (map (λ a. a.0) w) (map (λ a. a.1) w)
IsTwins-turn {r} {p} {w} rule below turn =
    let n : ℕ = pair_count r in
    let walk = IsMarkedWalk-leads rule w p (p + n) turn.steps in
    let other : HasOther w = grind arith in
    let some = HasOther-some w other in
    let first = length-map w (λ (a : ℕ × ℕ). a.0) in
    let second = length-map w (λ (a : ℕ × ℕ). a.1) in
    let start = mod-eq_of_lt {n = p} below in
    let loop : PairLeads r p w p = grind (arith, add-mod_right) in
    IsTwins-walk rule (record { word = IsWord-side (λ a. a.0) (λ a l. l.0) w turn.letters; some = omega arith })
    (record { word = IsWord-side (λ a. a.1) (λ a l. l.1) w turn.letters; some = omega arith }) (first ∙ sym second)
    (HasOther-different _ _ (rw (zip-sides w) other)) (first_of r p) (second_of r p) (first_of-below rule p below) (second_of-below rule p)
    (rw (pair_of-first_of r p, zip-sides w) loop)
