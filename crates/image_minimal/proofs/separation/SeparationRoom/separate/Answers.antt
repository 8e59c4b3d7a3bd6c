use Rattle.image_minimal.proofs.Common.{◌+◌, ap₂, ◌∙◌, subst₂, range_with_len, HaveSameOrphans}
use Rattle.image_minimal.proofs.separation.SeparationRoom.separate.Goals as goal

pub search-requires-clause-classes : goal.search-requires-clause-classes
search-requires-clause-classes c =
    c.deref_mut.ensures.value ∙ c.write_classes.ensures.numbers ∙ ap₂ (λ m n. range_with_len 0 (m + n)) c.count_sets.ensures.count c.count_sets-2.ensures.count

pub returns-else-search : goal.returns-else-search
returns-else-search c = record { word = subst₂ HaveSameOrphans c.of-one.ensures c.of-other.ensures (c.search.ensures.none c.if-search.false); short = tt }
