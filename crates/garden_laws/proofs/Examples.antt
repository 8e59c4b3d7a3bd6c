-- Worked examples: pair lists, each step of which the check follows.
use Rattle.std.proofs.Common.{◌≡◌, ℕ, ◌<◌, List, [], ◌∷◌, Option, Some, None, Contains, Bool, true, false, not, ◌||◌, ◌==◌, eqb, refl, sym, ap, ◌∙◌, subst, ltb, true≢false, eq-eqb, ne_eqb}
use Rattle.std.proofs.lemmas.Map.Views.{Contains-from_any}
use Rattle.word_image.proofs.Common.{list_all, list_any, range_with_len, not-true, Decides-eqb, Decides-ltb, AllPass-from_list_all, LocalRule, node_count, Contains-range, next, label, follow, pair_of, first_of, second_of, pair_count, IsPairList}
use Rattle.word_image.specs.Examples.{stay, sum_mod_two}
use Rattle.garden_laws.specs.Examples.{left_of_three}

-- each number below n passes the test
abbrev pub passes_below : ℕ → (ℕ → Bool) → Bool
passes_below n test = list_all test (range_with_len 0 n)

-- all letter pairs pass the test
abbrev pub all_letters : LocalRule → (ℕ → ℕ → Bool) → Bool
all_letters r test = passes_below r.states (λ a. passes_below r.states (test a))

-- the list has the pair
abbrev pub has : List ℕ → ℕ → Bool
has pairs p = list_any (eqb p) pairs

-- the list has the pair that follows, if one follows
abbrev pub has_some : List ℕ → Option ℕ → Bool
has_some pairs None = true
has_some pairs (Some q) = has pairs q

-- the list has pairs alone
abbrev pub below_test : LocalRule → List ℕ → Bool
below_test r pairs = list_all (λ p. ltb p (pair_count r)) pairs

-- the list has the first pairs of the right
abbrev pub firsts_test : LocalRule → List ℕ → Bool
firsts_test r pairs = passes_below (node_count r) (λ u. all_letters r (λ a b. a == b || not (label r u a == label r u b) || has pairs (pair_of r (next r u a) (next r u b))))

-- the list has what follows its pairs
abbrev pub closed_test : LocalRule → List ℕ → Bool
closed_test r pairs = list_all (λ p. all_letters r (λ a b. has_some pairs (follow r p a b))) pairs

-- the list has no pair of a node with itself
abbrev pub apart_test : LocalRule → List ℕ → Bool
apart_test r pairs = list_all (λ p. not (first_of r p == second_of r p)) pairs

-- what all pass, each passes
passes : (test : ℕ → Bool) (xs : List ℕ) (x : ℕ) → list_all test xs ≡ true → Contains xs x → test x ≡ true
passes test xs x all (i, within, at) = subst (λ y. test y ≡ true) at (AllPass-from_list_all test xs all i x within)

-- where all letter pairs pass a test, each two letters pass
letters_pass : (r : LocalRule) (test : ℕ → ℕ → Bool) (a b : ℕ) → all_letters r test ≡ true → a < r.states → b < r.states → test a b ≡ true
letters_pass r test a b all ha hb = passes (test a) (range_with_len 0 r.states) b (passes (λ a. passes_below r.states (test a)) (range_with_len 0 r.states) a all (Contains-range r.states a ha)) (Contains-range r.states b hb)

-- of tests of which the first two are false the third is true
last_test : (p q s : Bool) → p ≡ false → q ≡ false → (p || q || s) ≡ true → s ≡ true
last_test p q s first second e = cc

-- a list that passes all four is a pair list
pub IsPairList-tests : {r : LocalRule} {pairs : List ℕ} → below_test r pairs ≡ true → firsts_test r pairs ≡ true → closed_test r pairs ≡ true
    → apart_test r pairs ≡ true → IsPairList r pairs
IsPairList-tests {r} {pairs} below firsts closed apart = record {
  below = λ p contains. (Decides-ltb p (pair_count r)).0 (passes (λ p. ltb p (pair_count r)) pairs p below contains);
  firsts = λ p first.
      let u : ℕ = first.node in
      let a : ℕ = first.a in
      let b : ℕ = first.b in
      let test : ℕ → ℕ → ℕ → Bool = λ u a b. a == b || not (label r u a == label r u b) || has pairs (pair_of r (next r u a) (next r u b)) in
      let all : test u a b ≡ true = letters_pass r (test u) a b (passes (λ u. all_letters r (test u)) (range_with_len 0 (node_count r)) u firsts (Contains-range (node_count r) u first.in_nodes)) first.a_letter first.b_letter in
      let there : has pairs (pair_of r (next r u a) (next r u b)) ≡ true = last_test (a == b) (not (label r u a == label r u b)) _ (ne_eqb a b first.different) (ap not (eq-eqb (label r u a) (label r u b) first.one_label)) all in
      subst (Contains pairs) (sym first.pair) (listed _ there);
  closed = λ p a b q contains ha hb f.
      let all : has_some pairs (follow r p a b) ≡ true = letters_pass r (λ a b. has_some pairs (follow r p a b)) a b (passes (λ p. all_letters r (λ a b. has_some pairs (follow r p a b))) pairs p closed contains) ha hb in
      listed q (sym (ap (has_some pairs) f) ∙ all);
  off_diagonal = λ p contains same. absurd (true≢false (sym (eq-eqb (first_of r p) (second_of r p) same) ∙ not-true (first_of r p == second_of r p) (passes (λ p. not (first_of r p == second_of r p)) pairs p apart contains)));
}
  where
    listed : (p : ℕ) → has pairs p ≡ true → Contains pairs p
    listed p there = Contains-from_any (λ x y same. (Decides-eqb x y).0 same) p pairs there

-- two letters whose sum is known: no letter may stand for another
pairs-sum_mod_two : IsPairList sum_mod_two []
pairs-sum_mod_two = IsPairList-tests refl refl refl refl

-- each cell keeps its letter: the letters 0 and 1 lead to the pairs 1 and 2, and from there to these
pairs-stay : IsPairList stay (1 ∷ 2 ∷ [])
pairs-stay = IsPairList-tests refl refl refl refl

-- the left cell of three: all pairs of two different nodes
pairs-left_of_three : IsPairList left_of_three (1 ∷ 2 ∷ 3 ∷ 4 ∷ 6 ∷ 7 ∷ 8 ∷ 9 ∷ 11 ∷ 12 ∷ 13 ∷ 14 ∷ [])
pairs-left_of_three = IsPairList-tests refl refl refl refl
