use Rattle.image_minimal.proofs.Common.{◌+◌, ◌<◌, ◌≤◌, ◌++◌, ◌∷◌, [], length, set, Some, subst, sym, arith, length_push, Contains, IsExactIndex}
use Rattle.image_minimal.proofs.Indexes.{IsExactIndex-push, length-listed-le}
use Rattle.image_minimal.proofs.listed.Listed.append.Goals as goal
use Rattle.image_minimal.proofs.listed.Listed.append.Goals.{After-len-place}

-- the index of the list with the new set
pushed : (c : After-len-place)
    → IsExactIndex (c.self.inside.sets.items ++ c.args.set ∷ []) (set c.self.inside.places.items c.args.set (Some (length c.self.inside.sets.items)))
pushed c = IsExactIndex-push c.self.invariant.0 c.args.set (subst (λ l. c.args.set < l.limit) (sym c.self.view_is) c.requires.set) (subst (λ l. ¬ Contains l.sets c.args.set) (sym c.self.view_is) c.requires.new)

-- there is room for the new set
room : (c : After-len-place) → length c.self.inside.sets.items + 1 ≤ 65536
room c = omega (arith, length-listed-le (pushed c), length_push c.self.inside.sets.items c.args.set)

pub overflow_cast-place : goal.overflow_cast-place
overflow_cast-place c = omega (arith, room (goal.at.overflow_cast-place c).After-len-place, c.len-place.ensures)

pub push_reserved-requires : goal.push_reserved-requires
push_reserved-requires c = omega (arith, room (goal.at.push_reserved-requires c).After-len-place, c.self.invariant.1)

pub invariant_of-self : goal.invariant_of-self
invariant_of-self c = grind (arith, pushed)
