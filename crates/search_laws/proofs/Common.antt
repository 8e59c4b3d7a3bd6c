-- The definitions and lemmas that the proofs of crates above cite, passed on from one place. Declares nothing.
pub use Rattle.search_laws.specs.PairWalks.{ArePairs, IsLeastWalk, IsLeastWalkTo, LetterPairStep, PairWalk, uncode}
pub use Rattle.search_laws.specs.SearchQueues.{IsFilled, IsQueue, IsSearch, NoEdgeBefore, Place, TreeSpells, filled}
pub use Rattle.search_laws.specs.SearchQueues.TreeSpells.{Branch, Root}
pub use Rattle.search_laws.specs.Walks.{Leads, Walk}
pub use Rattle.search_laws.proofs.Families.{IsFamily-closed, IsFamily-stopped, chosen, stands_at}
pub use Rattle.search_laws.proofs.PairWalks.{ArePairs-walk, CodeStep-some, IsLeastWalk-steps, Leads-walk, PairWalk-leads, code, length-IsLeastWalk, no_walk, pairs_cmp-leads, pairs_cmp-uncode, slice_cmp-uncode}
pub use Rattle.search_laws.proofs.QueueStates.{Contains-state, length-queue-le, mapped_at, place_of_listed, state-all, state-below, states_of, unmapped_at}
pub use Rattle.search_laws.proofs.QueueSteps.{HaveMet-next, HaveMet-push, IsFilled-new, IsFilled-start, IsFilled-there, IsQueue-new, IsQueue-start, IsQueue-there, edge-within, filled-later}
pub use Rattle.search_laws.proofs.Searches.{IsSearch-new, IsSearch-start, IsSearch-there, length-search, length-search-le, search-below, search_place}
pub use Rattle.search_laws.proofs.SortedLists.{IsAscending-sorted, one_place, same_members}
pub use Rattle.search_laws.proofs.SpelledWords.{Leads-spelled, TreeSpells-ascending, TreeSpells-cases, TreeSpells-some, TreeSpells-unique, edges-ascending, length-spelled-le, letter_before, spelled-within}
pub use Rattle.search_laws.proofs.StepSets.{IsLastSet-leads, IsLastSet-orphan, IsLastSet-unique, IsSetOf-unique, IsStep-some, LeadsToSet, LeadsToSet-last, LeadsToSet-some, same_set, some_set}
pub use Rattle.search_laws.proofs.Walks.{All-walk, Leads-induct, Leads-push, Walk-cut, Walk-each, Walk-join, Walk-push, Walk-shortened}
pub use Rattle.search_laws.proofs.WordOrder.{one_word, word_cmp-not_greater, word_cmp-number, word_number, word_number-le, word_number-less, word_number-snoc}
