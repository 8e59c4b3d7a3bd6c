use Rattle.image_minimal.proofs.Common.{◌≡◌, ℕ, ◌+◌, ◌*◌, ◌<◌, List, [], ◌∷◌, ◌++◌, take, slice_index, length-take-le, sym, ap, ap₂, ◌∙◌, arith, mul_comm, take_all, mul-add-lt, take_more}
use Rattle.image_minimal.proofs.ClassSearches.{the_automaton}
use Rattle.image_minimal.proofs.classes.Minimal.write_rows.Goals as goal

pub class_of-requires-clause-class : goal.class_of-requires-clause-class
class_of-requires-clause-class c =
    let h = c.self.invariant.0 in
    let class : ℕ = c.loop-class.class in
    let letter : ℕ = c.loop-letter.letter in
    let below : letter < c.self.inside.subsets.states = omega arith in (
      slice_index h.automaton.next (class * h.automaton.states + letter),
      rw c.deref-closures.ensures.value (h.next class letter c.at-set.result _ (omega (arith, c.len-class-end.ensures.len)) c.at-set.ensures below (c.steps-steps.ensures letter below)),
    )

pub push_reserved-requires : goal.push_reserved-requires
push_reserved-requires c = grind (arith, mul-add-lt, mul_comm, length-take-le)

pub loop-letter-preserved : goal.loop-letter-preserved
loop-letter-preserved c = record {
  rows = λ a least.
      let h = c.self.invariant.0 in
      let class : ℕ = c.loop-class.class in
      let letter : ℕ = c.loop-letter.letter in
      let same = the_automaton h c.self.view_is least in
      let below : letter < a.states = omega (arith, ap (λ r. r.states) c.self.view_is, least.states) in
      let inside = mul-add-lt class a.states letter a.classes (omega (arith, c.len-class-end.ensures.len, h.long, ap (λ m. m.classes) same)) below in
      let here : letter < c.self.inside.subsets.states = omega arith in
      let there = h.next class letter c.at-set.result _ (omega (arith, c.len-class-end.ensures.len)) c.at-set.ensures here (c.steps-steps.ensures letter here) in
      let next : c.class_of.result ≡ slice_index a.next (class * a.states + letter) = c.class_of.ensures _ (rw c.deref-closures.ensures.value there) ∙ ap (λ m. slice_index m.next (class * m.states + letter)) same in
      c.push_reserved.ensures.items ∙ ap₂ (λ (l : List ℕ) (x : ℕ). l ++ x ∷ []) (c.loop-letter.invariant.rows a least) next
      ∙ sym (take_more a.next (class * a.states + letter) 0 (omega (arith, inside, least.long, mul_comm a.states a.classes))) ∙ ap (λ n. take n a.next) (omega arith);
  capacity = c.push_reserved.ensures.capacity ∙ c.loop-letter.invariant.capacity;
}

pub returns-clause-rows : goal.returns-clause-rows
returns-clause-rows c a least =
    let all : c.loop-class.class ≡ a.classes = omega (arith, c.len-class-end.ensures.len, c.self.invariant.0.long, ap (λ m. m.classes) (the_automaton c.self.invariant.0 c.self.view_is least)) in
    c.loop-class.invariant.rows a least ∙ ap (λ n. take (n * a.states) a.next) all ∙ take_all (a.classes * a.states) a.next (omega (arith, least.long))
