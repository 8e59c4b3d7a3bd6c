-- What the proofs of this crate cite of the crates below, of the kit and of specs/, passed on from one place. Declares nothing.
pub use Rattle.image_minimal.specs.Closures.{AreClosures, ArePartClosures, IsBack, IsClosedStep, IsClosure, IsLedInto, IsPartClosure, IsUnread, IsUnreadSet, IsWithin, IsWithinFrom, StepsInto}
pub use Rattle.image_minimal.specs.ImageLanguages.{Alike, Automaton, HaveSameOrphans, IsClassList, IsDeadClass, IsLeastAlike, IsLeastAutomaton, IsNextClass, Separates}
pub use Rattle.image_minimal.specs.Indexes.{IsExactIndex, IsInserted, IsPlaceOf}
pub use Rattle.image_minimal.specs.Joins.{AreColours, IsFalling, IsJoin, IsOnWay, class_count, root_mark}
pub use Rattle.image_minimal.specs.Links.{HasChain, HaveOneColour, IsLinkSearch, LinkStep, SpellsLink, link_place, link_places, set_count}
pub use Rattle.image_minimal.specs.Searches.{AreUnreadSets, HasClasses, IsClassSearch}
pub use Rattle.image_minimal.specs.declared.links.Link.{Link}
pub use Rattle.image_subsets.proofs.Steps.{HasRows-tables}
pub use Rattle.image_subsets.specs.StepTables.{AreTables}
pub use Rattle.pair_laws.proofs.Common.{IsBitSet-and, IsBitSet-minus}
pub use Rattle.search_laws.proofs.Common.{All-walk, Contains-state, IsAscending-sorted, IsFilled, IsFilled-new, IsFilled-start, IsFilled-there, IsLastSet-orphan, IsLastSet-unique, IsQueue, IsSearch, IsSearch-new, IsSearch-start, IsSearch-there, IsSetOf-unique, IsStep-some, Leads, Leads-induct, Leads-push, Leads-spelled, Place, Root, TreeSpells, TreeSpells-ascending, TreeSpells-cases, TreeSpells-some, Walk, chosen, edge-within, edges-ascending, filled-later, length-search, length-search-le, letter_before, mapped_at, one_place, one_word, place_of_listed, same_members, same_set, search-below, search_place, some_set, spelled-within, stands_at, state-all, unmapped_at, word_number, word_number-less, word_number-snoc}
pub use Rattle.search_laws.proofs.LeastFirst.{IsLeastTo, IsLeastTo-spelled, reached_all}
pub use Rattle.std.proofs.Common.{Bool, Contains, IsBitSet, List, None, Option, Some, [], ap, append-nil, append_assoc, ap₂, arith, below_more, bit_and, bit_or, cond, div-lt_iff_lt-mul, eq-eqb, ext_get_or, false, get_or, get_or-set_other, get_or-set_same, inl, inr, le-ltb, length, length-set, length-take-le, lt-ltb, ltb, map, mod-lt, mul-le-mul_left, mul-le-mul_right, mul-one, mul-zero, mul_comm, nat_eq, ne_eqb, not, pow_pos, refl, replicate, reverse, rules, set, slice_get, slice_index, subst, subst₂, suc, suc-mul, sym, take, true, true≢false, vec_capacity, zero, ℕ, ⊎_elim, ◌%◌, ◌*◌, ◌++◌, ◌+◌, ◌-◌, ◌/◌, ◌<◌, ◌^◌, ◌↔◌, ◌∙◌, ◌∷◌, ◌≡◌, ◌≢◌, ◌≤◌, ◌⊎◌}
pub use Rattle.std.proofs.Math.Bool.{beq}
pub use Rattle.std.proofs.Math.Pow.{pow-lt}
pub use Rattle.std.proofs.lemmas.Bool.{eqb-true}
pub use Rattle.std.proofs.lemmas.List.{take_all}
pub use Rattle.std.proofs.lemmas.List.Elements.{All-map}
pub use Rattle.std.proofs.lemmas.List.FromFn.{get_or-map-range_with_len, length-map-range_with_len}
pub use Rattle.std.proofs.lemmas.List.Sums.{sum_by-le}
pub use Rattle.std.proofs.lemmas.Nat.Bits.{bit_at-lt, shr_and_one}
pub use Rattle.std.specs.Prelude.{if◌then◌else◌, pos, sum_by}
pub use Rattle.word_image.proofs.Common.{All-cons, All-head, All-replicate, All-tail, Contains-slice_get, each-set, IsBitSet-decide, IsBitSet-full, IsBitSet-or, IsBitSet-pow, IsBitSet-some, IsBitSet-zero, IsEdge, IsEnds, IsLastSet, IsLastSet-full, IsLastSet-step, IsNodeSet, IsOrphan, IsOrphan-empty_set, IsPreimage-nonempty_set, IsRule, IsSetOf, IsShape-shape_fault, IsSetOf-same, IsSetTo, IsSetTo-all, IsSetTo-skip, IsSetTo-take, IsStep, IsWord, LocalRule, and_le_l, bit_at-IsBitSet, bit_set_by_shift, cases_eq, cases_lt, decide_both, div-add-mod, full_set, get_or-range_with_len, get_or-replicate, get_or_default, get_or_from_slice_get, label, le_or_l, length-map, length-range_with_len, length-replicate, length_push, map-append, mul-add-lt, nat_tests, next, next-below, node_count, node_count_pos, none-some, one-le-pow, one_shl, only_place, or_lt, pow-le-pow_right, range-more, range_with_len, same_Some, same_from_place, slice_get-Contains, slice_get-append, slice_get-get_or, slice_get-push, slice_get-push_cases, slice_get-unique, slice_get_read, slice_get_within, some_below, sum_by-set, take_more, twice_below, value, value-append, word_cmp_total}
pub use Rattle.word_image.specs.declared.side.Side.TheVariants.{Right}
pub use mathlib.Core.Logic.{⊎_map}
pub use mathlib.Core.Logic.Iff.{symm as iff_sym, trans as iff_then}
