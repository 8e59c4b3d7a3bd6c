-- Walks of pairs of nodes: two words with one image lead from the pair that they begin with to the pair that they end with.
use Rattle.std.proofs.lemmas.Grind.{common_steps}
use Rattle.std.proofs.Common.{◌≡◌, ℕ, ◌+◌, ◌-◌, ◌<◌, List, [], ◌∷◌, ◌++◌, length, take, drop, refl, sym, ap, subst₂, ◌∙◌, arith, length-drop, take-take, take_all, drop-drop}
use Rattle.word_image.proofs.Common.{take-append-le, drop-take, LocalRule, IsRule, IsWord, value, node_count, HaveOneImage, next, label, length-word_of, IsWord-word_of, value-word_of, value-node, value-next}
use Rattle.pair_laws.proofs.Edges.{image-one, value-one, HaveOneImage-push}
use Rattle.pair_laws.proofs.Joins.{drop-join_more, same_node, HaveOneImage-take, HaveOneImage-drop, HaveOneImage-join}

-- two words of n + m - 1 letters with one image begin with the nodes u and v, and end with s and t
pub record LeadTogether (r : LocalRule) (u v n s t : ℕ) : Type 0 where
  pub x : List ℕ
  pub y : List ℕ
  pub one_image : HaveOneImage r n x y
  pub first : value r.states (take (r.width - 1) x) ≡ u
  pub second : value r.states (take (r.width - 1) y) ≡ v
  pub first_last : value r.states (drop n x) ≡ s
  pub second_last : value r.states (drop n y) ≡ t

-- where a joined word ends
value-join : (k d i j n : ℕ) (x y : List ℕ) → i + j ≡ n → IsWord k x → IsWord k y → length x ≡ i + d → length y ≡ j + d
    → value k (drop i x) ≡ value k (take d y)
    → value k (drop n (x ++ drop d y)) ≡ value k (drop j y)
value-join k d i j n x y e hx hy long_x long_y seam = grind (arith, drop-join_more, same_node)

-- a walk that ends where another one begins goes on as that one
pub LeadTogether-join : {r : LocalRule} {u v p q s t i j n : ℕ} → IsRule r → i + j ≡ n → LeadTogether r u v i p q → LeadTogether r p q j s t
    → LeadTogether r u v n s t
LeadTogether-join {r} {i = i} {j = j} {n = n} rule e h g =
    record {
      x = h.x ++ drop (r.width - 1) g.x;
      y = h.y ++ drop (r.width - 1) g.y;
      one_image = HaveOneImage-join rule e h.one_image g.one_image (h.first_last ∙ sym g.first) (h.second_last ∙ sym g.second);
      first = ap (value r.states) (take-append-le (r.width - 1) h.x (drop (r.width - 1) g.x) (omega arith)) ∙ h.first;
      second = ap (value r.states) (take-append-le (r.width - 1) h.y (drop (r.width - 1) g.y) (omega arith)) ∙ h.second;
      first_last = value-join r.states (r.width - 1) i j n h.x g.x e h.one_image.first g.one_image.first h.one_image.first_long g.one_image.first_long (h.first_last ∙ sym g.first) ∙ g.first_last;
      second_last = value-join r.states (r.width - 1) i j n h.y g.y e h.one_image.second g.one_image.second h.one_image.second_long g.one_image.second_long (h.second_last ∙ sym g.second) ∙ g.second_last;
    }

-- the node at place i of a word
abbrev pub place_node : LocalRule → List ℕ → ℕ → ℕ
place_node r x i = value r.states (take (r.width - 1) (drop i x))

-- two words with one image lead from the nodes at each place to those at each later one
pub HaveOneImage-between : {r : LocalRule} {x y : List ℕ} → IsRule r → (i l j k n : ℕ) → i + l ≡ j → j + k ≡ n → HaveOneImage r n x y
    → LeadTogether r (place_node r x i) (place_node r y i) l (place_node r x j) (place_node r y j)
HaveOneImage-between {r} {x} {y} rule i l j k n e f h =
    record {
      x = take (l + (r.width - 1)) (drop i x);
      y = take (l + (r.width - 1)) (drop i y);
      one_image = HaveOneImage-take rule l k (l + k) refl (HaveOneImage-drop i (l + k) n (omega arith) h);
      first = ap (value r.states) (take-take (r.width - 1) (l + (r.width - 1)) (drop i x) (omega arith));
      second = ap (value r.states) (take-take (r.width - 1) (l + (r.width - 1)) (drop i y) (omega arith));
      first_last = ap (value r.states) (drop-take l (r.width - 1) (drop i x) ∙ ap (take (r.width - 1)) (drop-drop l i x ∙ ap (λ m. drop m x) e));
      second_last = ap (value r.states) (drop-take l (r.width - 1) (drop i y) ∙ ap (take (r.width - 1)) (drop-drop l i y ∙ ap (λ m. drop m y) e));
    }

-- a walk of i + j steps is at the nodes at place i after i of them
pub LeadTogether-front : {r : LocalRule} {u v s t n : ℕ} → IsRule r → (i j : ℕ) → i + j ≡ n → (h : LeadTogether r u v n s t)
    → LeadTogether r u v i (place_node r h.x i) (place_node r h.y i)
LeadTogether-front {r} {n = n} rule i j e h =
    subst₂ (λ (a b : ℕ). LeadTogether r a b i (place_node r h.x i) (place_node r h.y i)) h.first h.second (HaveOneImage-between rule 0 i i j n (omega arith) e h.one_image)

-- a walk of i + j steps goes on for j from the nodes at place i
pub LeadTogether-rest : {r : LocalRule} {u v s t n : ℕ} → IsRule r → (i j : ℕ) → i + j ≡ n → (h : LeadTogether r u v n s t)
    → LeadTogether r (place_node r h.x i) (place_node r h.y i) j s t
LeadTogether-rest {r} {n = n} rule i j e h =
    let last : (z : List ℕ) → length z ≡ n + (r.width - 1) → place_node r z n ≡ value r.states (drop n z) = grind (arith, take_all, length-drop) in
    subst₂ (LeadTogether r (place_node r h.x i) (place_node r h.y i) j) (last h.x h.one_image.first_long ∙ h.first_last) (last h.y h.one_image.second_long ∙ h.second_last)
    (HaveOneImage-between rule i j n 0 n e (omega arith) h.one_image)

-- a walk of i + j steps is a walk of i steps and one of j
pub LeadTogether-cut : {r : LocalRule} {u v s t n : ℕ} → IsRule r → (i j : ℕ) → i + j ≡ n → LeadTogether r u v n s t
    → (p : ℕ) × (q : ℕ) × LeadTogether r u v i p q × LeadTogether r p q j s t
LeadTogether-cut {r} rule i j e h = (place_node r h.x i, place_node r h.y i, LeadTogether-front rule i j e h, LeadTogether-rest rule i j e h)

-- a walk leads from two nodes
pub LeadTogether-first : {r : LocalRule} {u v s t n : ℕ} → LeadTogether r u v n s t → (u < node_count r) × (v < node_count r)
LeadTogether-first h = grind (arith, common_steps, value-node)

-- a walk leads to two nodes
pub LeadTogether-last : {r : LocalRule} {u v s t n : ℕ} → LeadTogether r u v n s t → (s < node_count r) × (t < node_count r)
LeadTogether-last {n = n} h = grind (arith, common_steps, value-node)

-- from two nodes a walk of no step leads to them
pub LeadTogether-none : (r : LocalRule) (u v : ℕ) → u < node_count r → v < node_count r → LeadTogether r u v 0 u v
LeadTogether-none r u v hu hv =
    let z_long = length-word_of r.states (r.width - 1) u in
    let w_long = length-word_of r.states (r.width - 1) v in
    grind (arith, value-word_of, IsWord-word_of, take_all)

-- a walk goes on along two edges with one label
pub LeadTogether-push : {r : LocalRule} {u v s t j n : ℕ} → IsRule r → j + 1 ≡ n → LeadTogether r u v j s t → (a b : ℕ) → a < r.states → b < r.states
    → label r s a ≡ label r t b → LeadTogether r u v n (next r s a) (next r t b)
LeadTogether-push {r} {j = j} {n = n} rule e h a b ha hb l =
    record {
      x = h.x ++ a ∷ [];
      y = h.y ++ b ∷ [];
      one_image = HaveOneImage-push rule e h.one_image a b ha hb (ap (λ c. label r c a) h.first_last ∙ l ∙ ap (λ c. label r c b) (sym h.second_last));
      first = ap (value r.states) (take-append-le (r.width - 1) h.x (a ∷ []) (omega arith)) ∙ h.first;
      second = ap (value r.states) (take-append-le (r.width - 1) h.y (b ∷ []) (omega arith)) ∙ h.second;
      first_last = ap (λ i. value r.states (drop i (h.x ++ a ∷ []))) (sym e) ∙ value-next rule j h.x a h.one_image.first h.one_image.first_long ha ∙ ap (λ c. next r c a) h.first_last;
      second_last = ap (λ i. value r.states (drop i (h.y ++ b ∷ []))) (sym e) ∙ value-next rule j h.y b h.one_image.second h.one_image.second_long hb ∙ ap (λ c. next r c b) h.second_last;
    }

-- two edges with one label are a walk of one step
pub LeadTogether-edges : {r : LocalRule} → IsRule r → (u v a b : ℕ) → u < node_count r → v < node_count r → a < r.states → b < r.states
    → label r u a ≡ label r v b → LeadTogether r u v 1 (next r u a) (next r v b)
LeadTogether-edges {r} rule u v a b hu hv ha hb l = LeadTogether-push rule (omega arith) (LeadTogether-none r u v hu hv) a b ha hb l

-- a walk of one step is two edges with one label
pub LeadTogether-one : {r : LocalRule} {u v s t : ℕ} → IsRule r → LeadTogether r u v 1 s t
    → (a : ℕ) × (b : ℕ) × (a < r.states) × (b < r.states) × (label r u a ≡ label r v b) × (next r u a ≡ s) × (next r v b ≡ t)
LeadTogether-one rule h = grind (arith, image-one, value-one)
