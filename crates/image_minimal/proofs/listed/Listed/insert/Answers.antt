use Rattle.image_minimal.proofs.Common.{◌≡◌, ℕ, List, Option, Some, None, Contains, not, inl, refl, sym, ap, ◌∙◌, true, true≢false, Contains-slice_get, IsPlaceOf}
use Rattle.std.specs.Prelude.{is_some}
use Rattle.image_minimal.proofs.listed.Listed.insert.Goals as goal

-- a set with a place is in the list
placed : (sets : List ℕ) (set : ℕ) (place : Option ℕ) → IsPlaceOf sets set place → is_some place ≡ true → Contains sets set
placed sets set None at some = absurd (true≢false (sym some))
placed sets set (Some i) at some = Contains-slice_get sets i set ((at i).0 refl)

pub returns-else-is_none-clause-sets : goal.returns-else-is_none-clause-sets
returns-else-is_none-clause-sets c = inl (refl, placed c.args.self.now.sets c.args.set c.place.result c.place.ensures (c.is_none.ensures ∙ ap not c.if-is_none.false))
