-- The definitions and lemmas of this crate, and the most cited of std, that proofs above cite, passed on from one place. Declares nothing.
pub use Rattle.std.specs.Cmp.{IsTotalOrder, nat_cmp_is, nat_eq_equiv}
pub use Rattle.std.specs.Cmp.Lexicographic.{pointwise, slice_cmp, told_text}
pub use Rattle.std.specs.Int.{IsGcd, bit_at, bit_not, from_bool, int_rem_euclid}
pub use Rattle.std.specs.List.{AllByRecursion, AllZip, IsDistinct, join_by, list_all, list_any, position_or_len, prefix_len, range_with_len, repeat}
pub use Rattle.std.specs.Ordering.{match_ordering, ord_max, ordering_reverse, ordering_then}
pub use Rattle.std.proofs.Math.Nat.{add-mod_right, add-mul-mod_self_right, div-add-mod, div-div-eq-div-mul, div-eq_of_lt, div-lt_self, dvd_of_mul-dvd-mul_left, eq-one_of_dvd-one, eq-zero_of_zero-dvd, eq_of_mul-eq-mul_left, max-le, mod-add-div, mod-add-mod, mod-eq-sub-mod, mod-mod, mod_self, mul-div_cancel', mul-div_cancel_left, mul-dvd-mul_left, mul-mod_left, one-le-pow, pow-le-pow_left, pow-le-pow_right, pow-zero, suc-mod, zero-div, zero-mod}
pub use Rattle.std.proofs.Math.Seq.{drop-append-add, drop-append_seam, get_or-append_seam, take-append-add, take-append_seam, take-length}
pub use Rattle.std.proofs.lemmas.Bool.{and_parts, cases_Bool, cases_eq, cases_lt, cases_order, cond-false, cond-true, cond_both, eqb-false, false≢true, not-true}
pub use Rattle.std.proofs.lemmas.Bool.Decides.{Decides-below_and, Decides-eqb, Decides-ltb, eqb_tells, leb_tells, nat_tests, not_from_Decides, same_from_decides}
pub use Rattle.std.proofs.lemmas.Grind.{and_numeral, flat_map-append, get_or-set_at, same_number_lists}
pub use Rattle.std.proofs.lemmas.Int.{by_lt_z, fits_signed_from_abs, ints, unsigned_abs-mul}
pub use Rattle.std.proofs.lemmas.List.{drop-append-le, drop-map, drop-replicate, drop-set, drop-take, drop_all, drop_more, flat_map_more, get_or-append_right, get_or-map, get_or-replicate, get_or-reverse, get_or_append_left, get_or_at, get_or_default, get_or_past, get_or_push, length-map, length-replicate, length-reverse, length_push, map-append, map_more, map_push, nil_from_length, replicate-append-replicate, reverse-append, reverse-reverse, same_from_push, same_lists, take-append-le, take-map, take-replicate, take_more, take_more_set, take_rest}
pub use Rattle.std.proofs.lemmas.List.Elements.{All-append, All-cons, All-contains, All-contains_itself, All-drop, All-filter, All-from_get_or, All-from_recursion, All-head, All-map, All-more, All-nil, All-push, All-replicate, All-set, All-tail, All-take, All-weaker, Contains-append_cases, Contains-append_left, Contains-append_right, Contains-get_or, Contains-push, Contains-push_cases, filter_more, recursion_from_All}
pub use Rattle.std.proofs.lemmas.List.FromFn.{fill_by_all, get_or-map-range_with_len, get_or-range_with_len, length-map-range_with_len, length-range_with_len, map-range_with_len_more, sum_by-map-range_with_len_more, take-map-range_with_len}
pub use Rattle.std.proofs.lemmas.List.Sums.{AllPass-from_list_all, count_by_more_no, count_by_more_yes, fails_before_first, position_or_len_is, sum_by-append, sum_by-cons, sum_by-le, sum_by-set, sum_by-take-drop, sum_by_more, sum_by_push}
pub use Rattle.std.proofs.lemmas.Nat.{and-not, and_assoc, and_comm, and_le_l, and_le_r, and_mask, bit_set_by_shift, div-mul-add, div_below, le_or_l, mod-mul-add, mod_below, mul-add-lt, mul-le, mul-pow, one_shl, or_lt, pow_below, same_from_place, shl-shr}
pub use Rattle.std.proofs.lemmas.Option.{get_or_from_slice_get, none-some, same_Some, slice_get-get_or, slice_get-map, slice_get_read, slice_get_within, unwrap_or-slice_get}
pub use Rattle.std.proofs.lemmas.Result.{IfOk-at_ok, IfOk-weaker, err_from_is_err_and, on_ok_weaker}
pub use Rattle.word_image.specs.Digits.{IsHexDigit, hex_value, letter_at, lower_digit, word_text}
pub use Rattle.word_image.specs.Edges.{AreEdgeRows, IsEdge, IsEnds, IsStep}
pub use Rattle.word_image.specs.Ends.{end_at, end_node, label_at, window_with}
pub use Rattle.word_image.specs.Erasure.{IsErasable, IsLeastErasable}
pub use Rattle.word_image.specs.Families.{IsAscending, IsCoverList, IsFamily, IsLeastWordOf, covers_of, is_cover, is_minimal, is_subset}
pub use Rattle.word_image.specs.FirstPairs.{IsFirstOf, IsFirstOfLeft, IsFirstOfRight}
pub use Rattle.word_image.specs.Grammars.{Begins, IsFormFault}
pub use Rattle.word_image.specs.Graphs.{HasBit, IsNodeSet, IsSetOf, LeadsOn, PairStep, first_of, follow, follow_on, full_set, label, next, node_letter, pair_count, pair_of, second_of}
pub use Rattle.word_image.specs.LocalRules.{IsRule, IsShape, IsWord, LocalRule, local_map, mirrored, node_count, value, wolfram_number, word_of}
pub use Rattle.word_image.specs.MarkedPairs.{marked}
pub use Rattle.word_image.specs.PairLists.{IsPairList}
pub use Rattle.word_image.specs.Ranks.{BeginTogether, EndTogether, IsEndless, IsLastNode, IsLastSet, IsRank}
pub use Rattle.word_image.specs.Rings.{IsConserving, IsFlux, IsLeastLossyRing, IsLeastTwins, IsLossyRing, IsRing, IsTwins, KeepsSum, pair_cmp, pairs_cmp, ring_image, ring_letter, ring_letters}
pub use Rattle.word_image.specs.RuleFaults.{rule_fault, shape_fault, table_fault}
pub use Rattle.word_image.specs.RulesBy.{IsRuleBy}
pub use Rattle.word_image.specs.Sides.{IsLeftAhead, PairGoes, Together, other, seen_from}
pub use Rattle.word_image.specs.Storage.{padded}
pub use Rattle.word_image.specs.Weights.{AreWeights, own_weights}
pub use Rattle.word_image.specs.Windows.{HaveOneImage, IsDetermined, IsLeastDetermined, IsLeastRightAhead, IsRightAhead, WindowBefore}
pub use Rattle.word_image.specs.Words.{IsLeastOrphan, IsOrphan, IsPreimage, IsSurjective, image, word_cmp}
pub use Rattle.word_image.proofs.laws.Bits.{IsBitSet-decide, IsBitSet-or, IsBitSet-pow, IsBitSet-some, IsBitSet-zero, bit_at-IsBitSet}
pub use Rattle.word_image.proofs.laws.Comparisons.{key_not_greater, key_number, nat_cmp-equal, nat_cmp-le, no_later, not_before, pair_cmp_total, pairs_cmp_total, slice_cmp-append, slice_cmp-map, slice_cmp-same, then_assoc, then_not_greater, tied, word_cmp_total}
pub use Rattle.word_image.proofs.laws.Graphs.{local_map-label, next-below, node_count_pos, pair_count-le, pair_count_pos, value-front, value-next, value-node, value-tail}
pub use Rattle.word_image.proofs.laws.Images.{IsRule-mirrored, IsWord-reverse, image-drop, image-mirrored, local_map-mirrored, mirrored-mirrored}
pub use Rattle.word_image.proofs.laws.LastSets.{IsBitSet-full, IsLastSet-full, IsLastSet-step, IsOrphan-empty_set, IsOrphan-not_surjective, IsPreimage-nonempty_set}
pub use Rattle.word_image.proofs.laws.Lists.{AllZip-places, Contains-range, filled_more, letters_more, paired_at, paired_length, range-more, reverse-cut, slice_index-zeros}
pub use Rattle.word_image.proofs.laws.Orders.{digits-lt, nat_cmp-add, nat_cmp-digits, slice_cmp-value, then_equal}
pub use Rattle.word_image.proofs.laws.Places.{Contains-slice_get, at-set, each-set, only_place, set_more, slice_get-Contains, slice_get-append, slice_get-cut, slice_get-push, slice_get-push_cases, slice_get-unique}
pub use Rattle.word_image.proofs.laws.Prefixes.{Begins-prefix, IsFormFault-next, IsFormFault-rest, IsFormFault-stuck, IsFormFault-unique}
pub use Rattle.word_image.proofs.laws.Results.{handed_on}
pub use Rattle.word_image.proofs.laws.RingSums.{ring_letters-turn, sum_by-ring_image-from, sum_by-ring_letters, turn-all}
pub use Rattle.word_image.proofs.laws.Rings.{IsWord-ring_letters, again-times, ring_letter-below, ring_letter-turn, ring_letters-rem}
pub use Rattle.word_image.proofs.laws.RuleFaults.{IsShape-offset, IsShape-shape_fault, IsWord-position, IsWord-table_fault, part_long, power-few, shape_fault-IsShape, table_fault-IsWord, window_count-le}
pub use Rattle.word_image.proofs.laws.RulesBy.{FitsSigned-offset, IsRuleBy-entries, IsRuleBy-map}
pub use Rattle.word_image.proofs.laws.SameRules.{rule_from_parts}
pub use Rattle.word_image.proofs.laws.Searches.{all_taken, but, but_cases, but_else, but_there, chosen_below, decide_both, exists_below, moved, some_below, twice_below}
pub use Rattle.word_image.proofs.laws.Unions.{IsSetOf-same, IsSetTo, IsSetTo-all, IsSetTo-skip, IsSetTo-take, IsUnion, IsUnion-none, IsUnion-take}
pub use Rattle.word_image.proofs.laws.Values.{IsWord-word_of, length-word_of, value-append, value-below, value-drop, value-injective, value-snoc, value-take, value-take-below, value-take_more, value-word_of, value-zeros, word_of-value}
pub use Rattle.word_image.proofs.laws.WindowParts.{end_node-below, get_or-word_of, letter-value, node_count-rest, node_parts, power-below, rest_count, some_letter, window_parts, window_with-within, windows-nodes}
pub use Rattle.word_image.proofs.laws.WindowValues.{by_ends, fewer_values, get_or-image-word_of, length-image-word_of, value-take-word_of}
pub use Rattle.word_image.proofs.laws.Words.{IsLongerPreimage, IsPreimage-empty, IsPreimage-push, IsPreimage-snoc, IsWord-image, IsWord-le, entry-below, get_or-image, image-by_letters, image-short, image-snoc, image-take, length-image, split_last, word_by_test}
pub use Rattle.word_image.proofs.laws.WordsBy.{IsWordBy-letters}
