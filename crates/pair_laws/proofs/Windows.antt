-- Determined windows by pairs of nodes: no two that differ at a letter end together for what is before it and begin together for what is behind.
use Rattle.std.proofs.Common.{◌≡◌, ◌≢◌, ℕ, ◌+◌, ◌-◌, ◌<◌, ◌≤◌, ◌↔◌, min, List, ◌++◌, length, take, drop, get_or, slice_index, refl, subst₂, sym, ap, ap₂, ◌∙◌, ⊎_elim, arith, length-drop, length-take-le, get_or-take, get_or-drop}
use Rattle.word_image.proofs.Common.{cases_eq, All-take, All-drop, LocalRule, IsRule, IsWord, value, word_of, HaveOneImage, IsDetermined, first_of, second_of, pair_of, pair_count, node_letter, BeginTogether, EndTogether, word_of-value}
use Rattle.word_image.specs.declared.side.Side.TheVariants.{Right}
use Rattle.pair_laws.proofs.Joins.{drop-join, same_node, HaveOneImage-drop, HaveOneImage-join}
use Rattle.pair_laws.proofs.Walks.{HaveOneImage-between}
use Rattle.pair_laws.proofs.Ranks.{LeadTogether-end, Together-below}
use Rattle.pair_laws.proofs.Pairs.{first_of-pair_of, second_of-pair_of, pair_of-below}

-- the letters of the node at place j of a word are the word's letters from there on
pub node_letter-at : (r : LocalRule) (u j i : ℕ) (x : List ℕ) → IsWord r.states x → j + (r.width - 1) ≤ length x
    → value r.states (take (r.width - 1) (drop j x)) ≡ u
    → i < r.width - 1 → node_letter r u i ≡ slice_index x (j + i)
node_letter-at r u j i x h long at l =
    let z : List ℕ = take (r.width - 1) (drop j x) in
    let z_long : length z ≡ r.width - 1 = length-take-le (r.width - 1) (drop j x) (omega (arith, length-drop j x)) in
    let word = word_of-value r.states z (All-take (λ a. a < r.states) (r.width - 1) (drop j x) (All-drop (λ a. a < r.states) j x h)) in
    ap₂ (λ (d v : ℕ). get_or (word_of r.states d v) i 0) (sym z_long) (sym at) ∙ ap (λ y. get_or y i 0) word
    ∙ get_or-take (r.width - 1) (drop j x) i 0 l ∙ get_or-drop j x i 0

-- two words with one image, cut at i: the nodes there end together for i
pub HaveOneImage-end : {r : LocalRule} {x y : List ℕ} → IsRule r → (i j n : ℕ) → i + j ≡ n → HaveOneImage r n x y
    → EndTogether r (value r.states (take (r.width - 1) (drop i x))) (value r.states (take (r.width - 1) (drop i y))) i
HaveOneImage-end rule i j n e h = LeadTogether-end (HaveOneImage-between rule 0 i i j n (omega arith) e h)

-- of two words with one image, cut at i, the nodes there begin together for the rest
pub HaveOneImage-begin : {r : LocalRule} {x y : List ℕ} → (i j n : ℕ) → i + j ≡ n → HaveOneImage r n x y
    → BeginTogether r (value r.states (take (r.width - 1) (drop i x))) (value r.states (take (r.width - 1) (drop i y))) j
HaveOneImage-begin {r} {x} {y} i j n e h = record { x = drop i x; y = drop i y; one_image = HaveOneImage-drop i j n e h; first = refl; second = refl }

-- two nodes end together for i and begin together for j: two words with one image have them at i
pub record Meet (r : LocalRule) (u v i n : ℕ) : Type 0 where
  pub x : List ℕ
  pub y : List ℕ
  pub one_image : HaveOneImage r n x y
  pub first : value r.states (take (r.width - 1) (drop i x)) ≡ u
  pub second : value r.states (take (r.width - 1) (drop i y)) ≡ v

-- where two nodes end together for i and begin together for j, two words with one image have them at i
pub Meet-together : {r : LocalRule} {u v i j n : ℕ} → IsRule r → i + j ≡ n → EndTogether r u v i → BeginTogether r u v j → Meet r u v i n
Meet-together {r} {i = i} rule e h g =
    let at_x : drop i h.x ≡ take (r.width - 1) g.x =
    same_node r.states i (r.width - 1) h.x g.x h.one_image.first g.one_image.first h.one_image.first_long (omega arith) (h.first ∙ sym g.first) in
    let at_y : drop i h.y ≡ take (r.width - 1) g.y =
    same_node r.states i (r.width - 1) h.y g.y h.one_image.second g.one_image.second h.one_image.second_long (omega arith) (h.second ∙ sym g.second) in
    record {
      x = h.x ++ drop (r.width - 1) g.x;
      y = h.y ++ drop (r.width - 1) g.y;
      one_image = HaveOneImage-join rule e h.one_image g.one_image (h.first ∙ sym g.first) (h.second ∙ sym g.second);
      first = ap (λ z. value r.states (take (r.width - 1) z)) (drop-join i (r.width - 1) h.x g.x h.one_image.first_long at_x) ∙ g.first;
      second = ap (λ z. value r.states (take (r.width - 1) z)) (drop-join i (r.width - 1) h.y g.y h.one_image.second_long at_y) ∙ g.second;
    }

-- nodes that differ at the letter c of a window don't end together for what is before them and begin together for what is behind
abbrev pub IsApart : LocalRule → ℕ → ℕ → ℕ → ℕ → Type 0
IsApart r n c u v = node_letter r u (c - min c n) ≢ node_letter r v (c - min c n) → EndTogether r u v (min c n) → ¬ BeginTogether r u v (n - min c n)

-- where a window is determined, no two nodes do
pub IsApart-determined : {r : LocalRule} {n c : ℕ} → IsRule r → IsDetermined r n c → (u v : ℕ) → IsApart r n c u v
IsApart-determined {r} {n} {c} rule h u v different ends begins =
    let m : Meet r u v (min c n) n = Meet-together rule (omega arith) ends begins in
    let place : min c n + (c - min c n) ≡ c = omega arith in
    grind (arith, node_letter-at)

-- a window is determined exactly where no pair does
pub IsDetermined-pairs : {r : LocalRule} → IsRule r → (n c : ℕ)
    → IsDetermined r n c ↔ ((1 ≤ n) × (c ≤ n + r.width - 2) × ((p : ℕ) → p < pair_count r → IsApart r n c (first_of r p) (second_of r p)))
IsDetermined-pairs {r} rule n c = (
  (λ h. (h.some, h.inside, (λ p l. IsApart-determined rule h (first_of r p) (second_of r p)))),
  (λ (some, inside, apart). record {
    some = some;
    inside = inside;
    letter = λ x y h.
        let i : ℕ = min c n in
        let place : i + (c - i) ≡ c = omega arith in
        let begins = HaveOneImage-begin i (n - i) n (omega arith) h in
        let (hu, hv) = Together-below Right _ _ _ _ begins in
        let first = node_letter-at r _ i (c - i) x h.first (omega arith) refl (omega arith) ∙ ap (slice_index x) place in
        let second = node_letter-at r _ i (c - i) y h.second (omega arith) refl (omega arith) ∙ ap (slice_index y) place in
        let nodes = subst₂ (λ (s t : ℕ). IsApart r n c s t) (first_of-pair_of r _ _ hv) (second_of-pair_of r _ _ hv) (apart (pair_of r _ _) (pair_of-below r _ _ hu hv)) in
        ⊎_elim (λ same. same)
        (λ other. absurd (nodes (λ same. other (sym first ∙ same ∙ second)) (HaveOneImage-end rule i (n - i) n (omega arith) h) begins))
        (cases_eq (slice_index x c) (slice_index y c));
  }),
)
