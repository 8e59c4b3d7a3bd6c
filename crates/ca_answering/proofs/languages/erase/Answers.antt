use Rattle.std.proofs.Common.{ℕ, List, refl, sym, ◌↔◌, IsNone, Option, None, Some, MatchOption}
use Rattle.short_words.specs.declared.short_word.ShortPair.{ShortPair}
use Rattle.word_image.proofs.Common.{false≢true, LocalRule, IsSurjective, IsErasable, IsLeastErasable}
use Rattle.ca_questions.proofs.Common.{IsErasedFound, IsFinding}
use Rattle.ca_questions.specs.Values.{pair_of}
use Rattle.ca_answering.proofs.languages.erase.Goals as goal

-- the least erasable pair, or that there is none, answers the question
IsErasedFound-pair : {r : LocalRule} (found : Option ShortPair) → IsNone found ↔ IsSurjective r
    → MatchOption found ((x y : List ℕ) → ¬ IsErasable r x y) (λ pair. IsLeastErasable r pair.x pair.y)
    → IsErasedFound r (pair_of found)
IsErasedFound-pair None exact none = (exact.0 refl, none)
IsErasedFound-pair (Some pair) exact least = ((λ every. false≢true (sym (exact.1 every))), least)

pub returns : goal.returns
returns c = IsFinding.Erase c.args.rule.now _ (IsErasedFound-pair c.least_erasable.result c.least_erasable.ensures.surjective c.least_erasable.ensures.least)
