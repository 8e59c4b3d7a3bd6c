use Rattle.std.proofs.Common.{rules, ◌≡◌, ◌≢◌, ◌-◌, Bool, [], if◌then◌else◌, length, slice_index, ℕ, List, refl, sym, ap, ap₂, ◌∙◌, subst, arith}
use Rattle.word_image.proofs.Common.{get_or_from_slice_get, full_set, IsFamily, covers_of, IsOrphan-not_surjective}
use Rattle.orphan_search.proofs.Verdicts.{IsLeastOrphan-empty, IsSurjective-family, nonempty_family}
use Rattle.orphan_search.proofs.search.Search.run_over.Goals as goal

pub returns-then-self-clause-verdict : goal.returns-then-self-clause-verdict
returns-then-self-clause-verdict c =
    let tree = c.explore.ensures in
    let sets = c.explore.new.self.sets in
    let some : slice_index sets (length sets - 1) ≢ 0 = λ empty.
    let none : c.set.result ≡ 0 = c.set.ensures ∙ ap (λ n. slice_index sets (n - 1)) c.len-last.ensures.len ∙ empty in
    grind (arith, none, c.if-self.true) in
    let first : slice_index sets 0 ≡ full_set c.args.graph.now = get_or_from_slice_get sets 0 (full_set c.args.graph.now) 0 tree.starts in (
      IsSurjective-family tree.rule tree.family (nonempty_family tree.family some),
      subst (IsFamily c.args.graph.now) (sym (ap (λ (closed : Bool). if closed then sets else []) c.if-self.true)) tree.family,
      c.clear.ensures.items,
      c.write_cover.ensures.cover ∙ ap₂ (λ (full : ℕ) (family : List ℕ). covers_of full family) first (sym (ap (λ (closed : Bool). if closed then sets else []) c.if-self.true)),
    )

pub returns-then-self-clause-exactly : goal.returns-then-self-clause-exactly
returns-then-self-clause-exactly c =
    let every = (returns-then-self-clause-verdict c).0 in
    (λ _. every, λ _. refl)

pub returns-clause-verdict : goal.returns-clause-verdict
returns-clause-verdict c =
    let tree = c.explore.ensures in
    let empty : c.set.result ≡ 0 = search (rules, c.if-self.false) in (
      IsLeastOrphan-empty tree.rule (c.write_word.ensures.least c.args.graph.now tree) (sym c.set.ensures ∙ empty),
      omega (arith, c.write_word.ensures.short, c.len-last.ensures.most),
      ap (λ (closed : Bool). if closed then c.explore.new.self.sets else []) c.if-self.false,
      c.clear-2.ensures.items,
    )

pub returns-clause-exactly : goal.returns-clause-exactly
returns-clause-exactly c =
    let least = (returns-clause-verdict c).0 in
    (λ same. absurd (cc), λ every. absurd (IsOrphan-not_surjective least.orphan every))
