-- The pairs that are reached from the first pairs of the right: none of them has two equal nodes exactly where the rule is surjective. So a pair list proves surjectivity.
use Rattle.std.proofs.Common.{◌≡◌, ◌≢◌, ℕ, zero, suc, ◌+◌, ◌-◌, ◌<◌, ◌⊎◌, inl, inr, ◌↔◌, List, [], ◌∷◌, ◌++◌, length, take, drop, Contains, Some, refl, sym, ap, ap₂, ◌∙◌, subst, ⊎_elim, arith, take_all}
use Rattle.word_image.proofs.Common.{cases_eq, take-append-le, same_from_push, LocalRule, IsRule, value, word_of, IsSurjective, HaveOneImage, next, label, follow, pair_of, first_of, second_of, pair_count, IsErasable, IsPairList, IsFirstOfRight, length-word_of, IsWord-word_of, value-word_of}
use Rattle.pair_laws.proofs.Common.{HaveOneImage-none, follow-pair_of, follow-below, IsFirstOfRight-below}
use Rattle.garden_laws.specs.ReachedPairs.{IsReached}
use Rattle.garden_laws.specs.ReachedPairs.IsReached.{First, On}
use Rattle.garden_laws.proofs.Exchange.{IsErasable-nodes}
use Rattle.garden_laws.proofs.GardenOfEden.{IsSurjective-none_erasable, none_erasable-surjective}
use Rattle.garden_laws.proofs.PairEnds.{last-below, pair_behind, first_of-behind, second_of-behind, HaveOneImage-follow, IsPush-some}

-- with one letter more at the end, two words begin alike exactly where they did
take-push : {r : LocalRule} {n : ℕ} {x y : List ℕ} (a b : ℕ) → HaveOneImage r n x y
    → take (r.width - 1) (x ++ a ∷ []) ≡ take (r.width - 1) (y ++ b ∷ []) ↔ (take (r.width - 1) x ≡ take (r.width - 1) y)
take-push a b h = grind (arith, take-append-le)

-- of two words with one image and one beginning that differ, the pair of their last nodes is reached
pub same_or_reached : {r : LocalRule} → IsRule r → (n : ℕ) (x y : List ℕ) → HaveOneImage r n x y → take (r.width - 1) x ≡ take (r.width - 1) y
    → (x ≡ y) ⊎ IsReached r (pair_behind r n x y)
same_or_reached {r} rule zero x y h front = inl (sym (take_all (r.width - 1) x (omega (arith, h.first_long))) ∙ front ∙ take_all (r.width - 1) y (omega (arith, h.second_long)))
same_or_reached {r} rule (suc n) x y h front =
    let more : suc n ≡ n + 1 = omega arith in
    let p = IsPush-some rule (subst (λ i. HaveOneImage r i x y) more h) in
    let before : take (r.width - 1) p.before_x ≡ take (r.width - 1) p.before_y = (take-push p.a p.b p.one_image).0 (ap (take (r.width - 1)) (sym p.x_is) ∙ front ∙ ap (take (r.width - 1)) p.y_is) in
    let u : ℕ = value r.states (drop n p.before_x) in
    let v : ℕ = value r.states (drop n p.before_y) in
    let below = last-below r n p.before_y p.one_image.second p.one_image.second_long in
    ⊎_elim
    (λ same. ⊎_elim
    (λ letter. inl (p.x_is ∙ ap₂ (λ (z : List ℕ) (c : ℕ). z ++ c ∷ []) same letter ∙ sym p.y_is))
    (λ other.
    let node : u ≡ v = ap (λ z. value r.states (drop n z)) same in
    inr (First _ (record {
      node = v;
      a = p.a;
      b = p.b;
      in_nodes = below;
      a_letter = p.a_letter;
      b_letter = p.b_letter;
      different = other;
      one_label = ap (λ w. label r w p.a) (sym node) ∙ p.one_label;
      pair = ap (λ i. pair_behind r i x y) more ∙ p.pair ∙ ap (λ w. pair_of r (next r w p.a) (next r v p.b)) node;
    })))
    (cases_eq p.a p.b))
    (λ reached. inr (On (pair_of r u v) p.a p.b _ reached p.a_letter p.b_letter
    (follow-pair_of r u v p.a p.b below p.one_label ∙ ap (λ q. Some q) (sym p.pair ∙ ap (λ i. pair_behind r i x y) (sym more)))))
    (same_or_reached rule n p.before_x p.before_y p.one_image before)

-- two different words with one image and one beginning that end with the nodes of a pair
pub record ReachingWords (r : LocalRule) (p : ℕ) : Type 0 where
  pub n : ℕ
  pub x : List ℕ
  pub y : List ℕ
  pub one_image : HaveOneImage r n x y
  pub different : x ≢ y
  pub same_front : take (r.width - 1) x ≡ take (r.width - 1) y
  pub pair : pair_behind r n x y ≡ p

-- a step leads two words with one image and one beginning to two different such words, if they or the letters differ
ReachingWords-push : {r : LocalRule} {n p q : ℕ} {x y : List ℕ} → IsRule r → HaveOneImage r n x y → take (r.width - 1) x ≡ take (r.width - 1) y
    → pair_behind r n x y ≡ p → (a b : ℕ) → a < r.states → b < r.states
    → follow r p a b ≡ Some q → ((x ≡ y) → a ≢ b) → ReachingWords r q
ReachingWords-push {r} {n} {p} {q} {x} {y} rule h front e a b ha hb f other =
    let after = HaveOneImage-follow rule h a b ha hb (ap (λ s. follow r s a b) e ∙ f) in
    record {
      n = n + 1;
      x = x ++ a ∷ [];
      y = y ++ b ∷ [];
      one_image = after.0;
      different = λ e. let parts = same_from_push x y a b e in other parts.0 parts.1;
      same_front = (take-push a b h).1 front;
      pair = after.1;
    }

-- each reached pair has two different words with one image and one beginning that end with it
pub words-reached : {r : LocalRule} {p : ℕ} → IsRule r → IsReached r p → ReachingWords r p
words-reached {r} rule (First p h) =
    let z = word_of r.states (r.width - 1) h.node in
    let word = IsWord-word_of r.states (r.width - 1) h.node h.in_nodes in
    let long = length-word_of r.states (r.width - 1) h.node in
    let node = value-word_of r.states (r.width - 1) h.node h.in_nodes in
    ReachingWords-push rule (HaveOneImage-none r z z word word long long) refl (ap₂ (pair_of r) node node) h.a h.b h.a_letter h.b_letter
    (follow-pair_of r h.node h.node h.a h.b h.in_nodes h.one_label ∙ ap (λ q. Some q) (sym h.pair)) (λ same. h.different)
words-reached rule (On p a b q reached ha hb f) =
    let w = words-reached rule reached in
    ReachingWords-push rule w.one_image w.same_front w.pair a b ha hb f (λ same. absurd (w.different same))

-- if the pair has two equal nodes, the words are an erasable pair
pub IsErasable-words : {r : LocalRule} {p : ℕ} → (w : ReachingWords r p) → first_of r p ≡ second_of r p → IsErasable r w.x w.y
IsErasable-words w same = grind (arith, first_of-behind, IsErasable-nodes)

-- an erasable pair is two words with one image
pub HaveOneImage-erasable : {r : LocalRule} {x y : List ℕ} → IsErasable r x y → HaveOneImage r (length x - (r.width - 1)) x y
HaveOneImage-erasable h = grind arith

-- the words of an erasable pair end with one node
pub last-erasable : {r : LocalRule} {x y : List ℕ} → IsErasable r x y → drop (length x - (r.width - 1)) x ≡ drop (length x - (r.width - 1)) y
last-erasable {r} {y = y} h = h.same_back ∙ ap (λ j. drop (j - (r.width - 1)) y) (sym h.one_length)

-- an erasable pair gives a reached pair of two equal nodes
IsReached-erasable : {r : LocalRule} {x y : List ℕ} → IsRule r → IsErasable r x y → (p : ℕ) × IsReached r p × (first_of r p ≡ second_of r p)
IsReached-erasable {r} {x} {y} rule h =
    let n : ℕ = length x - (r.width - 1) in
    let one = HaveOneImage-erasable h in
    ⊎_elim (λ same. absurd (h.different same))
    (λ reached. (pair_behind r n x y, reached, first_of-behind one ∙ ap (value r.states) (last-erasable h) ∙ sym (second_of-behind one)))
    (same_or_reached rule n x y one h.same_front)

-- a rule is surjective exactly where no reached pair has two equal nodes
pub IsSurjective-reached : {r : LocalRule} → IsRule r → (IsSurjective r ↔ ((p : ℕ) → IsReached r p → first_of r p ≢ second_of r p))
IsSurjective-reached rule = (
  (λ every p reached same. let w = words-reached rule reached in none_erasable-surjective rule every w.x w.y (IsErasable-words w same)),
  (λ apart. IsSurjective-none_erasable rule (λ x y h. let p = IsReached-erasable rule h in apart p.0 p.1 p.2)),
)

-- reached pairs are pairs
pub IsReached-below : {r : LocalRule} {p : ℕ} → IsRule r → IsReached r p → p < pair_count r
IsReached-below rule (First p h) = IsFirstOfRight-below rule h
IsReached-below rule (On p a b q reached ha hb f) = follow-below rule p a b q f

-- what holds of the first pairs, and of each pair that follows one of which it holds, holds of all reached pairs
pub holds-reached : {r : LocalRule} {p : ℕ} (Holds : ℕ → Type 0) → ((q : ℕ) → IsFirstOfRight r q → Holds q)
    → ((q a b s : ℕ) → Holds q → a < r.states → b < r.states → follow r q a b ≡ Some s → Holds s) → IsReached r p → Holds p
holds-reached Holds firsts closed (First p h) = firsts p h
holds-reached Holds firsts closed (On p a b q reached ha hb f) = closed p a b q (holds-reached Holds firsts closed reached) ha hb f

-- a rule with a pair list is surjective
pub IsSurjective-pair_list : {r : LocalRule} {pairs : List ℕ} → IsRule r → IsPairList r pairs → IsSurjective r
IsSurjective-pair_list rule list = (IsSurjective-reached rule).1 (λ p reached. list.off_diagonal p (holds-reached (Contains _) list.firsts list.closed reached))

-- where a rule is surjective, the list of the reached pairs is a pair list
pub IsPairList-reached : {r : LocalRule} {pairs : List ℕ} → IsRule r → IsSurjective r → ((p : ℕ) → Contains pairs p ↔ IsReached r p)
    → IsPairList r pairs
IsPairList-reached rule every are = record {
  below = λ p listed. IsReached-below rule ((are p).0 listed);
  firsts = λ p h. (are p).1 (First p h);
  closed = λ p a b q listed ha hb f. (are q).1 (On p a b q ((are p).0 listed) ha hb f);
  off_diagonal = λ p listed. (IsSurjective-reached rule).0 every p ((are p).0 listed);
}
