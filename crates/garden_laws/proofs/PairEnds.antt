-- Two words with one image by the pair of their last nodes: one more letter each is a step from this pair.
use Rattle.std.proofs.Common.{◌≡◌, ℕ, ◌+◌, ◌-◌, ◌<◌, List, [], ◌∷◌, ◌++◌, length, take, drop, get_or, Some, sym, ap, ap₂, ◌∙◌, arith, length-drop}
use Rattle.word_image.proofs.Common.{same_from_push, All-drop, LocalRule, IsRule, IsWord, value, node_count, image, HaveOneImage, next, label, follow, pair_of, first_of, second_of, split_last, value-next, value-node}
use Rattle.pair_laws.proofs.Common.{HaveOneImage-take, image-push, HaveOneImage-push, first_of-pair_of, second_of-pair_of}

-- the last m - 1 letters of a word are a node
pub last-below : (r : LocalRule) (n : ℕ) (x : List ℕ) → IsWord r.states x → length x ≡ n + (r.width - 1) → value r.states (drop n x) < node_count r
last-below r n x h long = value-node r (drop n x) (All-drop (λ a. a < r.states) n x h) (omega (arith, length-drop n x))

-- the pair of the nodes behind the first n letters of two words
abbrev pub pair_behind : LocalRule → ℕ → List ℕ → List ℕ → ℕ
pair_behind r n x y = pair_of r (value r.states (drop n x)) (value r.states (drop n y))

-- the first node of the pair behind the first n letters of two words
pub first_of-behind : {r : LocalRule} {n : ℕ} {x y : List ℕ} → HaveOneImage r n x y → first_of r (pair_behind r n x y) ≡ value r.states (drop n x)
first_of-behind {r} {n} {x} {y} h = first_of-pair_of r (value r.states (drop n x)) (value r.states (drop n y)) (last-below r n y h.second h.second_long)

-- the second node of the pair behind two words
pub second_of-behind : {r : LocalRule} {n : ℕ} {x y : List ℕ} → HaveOneImage r n x y → second_of r (pair_behind r n x y) ≡ value r.states (drop n y)
second_of-behind {r} {n} {x} {y} h = second_of-pair_of r (value r.states (drop n x)) (value r.states (drop n y)) (last-below r n y h.second h.second_long)

-- where the pair of two words leads by one more letter each
pair_behind-push : {r : LocalRule} {n : ℕ} {x y : List ℕ} → IsRule r → HaveOneImage r n x y → (a b : ℕ) → a < r.states → b < r.states
    → pair_behind r (n + 1) (x ++ a ∷ []) (y ++ b ∷ []) ≡ pair_of r (next r (value r.states (drop n x)) a) (next r (value r.states (drop n y)) b)
pair_behind-push {r} {n} {x} {y} rule h a b ha hb = ap₂ (pair_of r) (value-next rule n x a h.first h.first_long ha) (value-next rule n y b h.second h.second_long hb)

-- two words with one image go on along a step of their pair
pub HaveOneImage-follow : {r : LocalRule} {n q : ℕ} {x y : List ℕ} → IsRule r → HaveOneImage r n x y → (a b : ℕ) → a < r.states → b < r.states
    → follow r (pair_behind r n x y) a b ≡ Some q
    → HaveOneImage r (n + 1) (x ++ a ∷ []) (y ++ b ∷ []) × (pair_behind r (n + 1) (x ++ a ∷ []) (y ++ b ∷ []) ≡ q)
HaveOneImage-follow rule h a b ha hb f =
    grind (arith, first_of-behind, second_of-behind, pair_behind-push, HaveOneImage-push)

-- two words with one image that end with the letters a and b, and what stands before these
pub record IsPush (r : LocalRule) (n : ℕ) (x y : List ℕ) : Type 0 where
  pub before_x : List ℕ
  pub before_y : List ℕ
  pub a : ℕ
  pub b : ℕ
  pub x_is : x ≡ before_x ++ a ∷ []
  pub y_is : y ≡ before_y ++ b ∷ []
  pub a_letter : a < r.states
  pub b_letter : b < r.states
  pub one_image : HaveOneImage r n before_x before_y
  pub one_label : label r (value r.states (drop n before_x)) a ≡ label r (value r.states (drop n before_y)) b
  pub pair : pair_behind r (n + 1) x y ≡ pair_of r (next r (value r.states (drop n before_x)) a) (next r (value r.states (drop n before_y)) b)

-- two words with one image of n + 1 letters end with letters behind two words with one image of n letters
pub IsPush-some : {r : LocalRule} {n : ℕ} {x y : List ℕ} → IsRule r → HaveOneImage r (n + 1) x y → IsPush r n x y
IsPush-some {r} {n} {x} {y} rule h =
    let m : ℕ = r.width - 1 in
    let before : List ℕ → List ℕ = take (n + m) in
    let letter : List ℕ → ℕ = λ z. get_or z (n + m) 0 in
    let split : (z : List ℕ) → length z ≡ n + 1 + m → z ≡ before z ++ letter z ∷ [] = λ z e.
    let last : length z - 1 ≡ n + m = omega arith in
    split_last z (omega arith) ∙ ap (λ i. take i z ++ get_or z i 0 ∷ []) last in
    let one : HaveOneImage r n (before x) (before y) = HaveOneImage-take rule n 1 (n + 1) (omega arith) h in
    let ha : letter x < r.states = h.first (n + m) 0 (omega (arith, h.first_long)) in
    let hb : letter y < r.states = h.second (n + m) 0 (omega (arith, h.second_long)) in
    let images : image r (before x) ++ label r (value r.states (drop n (before x))) (letter x) ∷ [] ≡ image r (before y) ++ label r (value r.states (drop n (before y))) (letter y) ∷ [] =
    sym (image-push rule n (before x) (letter x) one.first_long) ∙ ap (image r) (sym (split x h.first_long)) ∙ h.one_image ∙ ap (image r) (split y h.second_long) ∙ image-push rule n (before y) (letter y) one.second_long in
    record {
      before_x = before x;
      before_y = before y;
      a = letter x;
      b = letter y;
      x_is = split x h.first_long;
      y_is = split y h.second_long;
      a_letter = ha;
      b_letter = hb;
      one_image = one;
      one_label = (same_from_push _ _ _ _ images).1;
      pair = ap₂ (pair_behind r (n + 1)) (split x h.first_long) (split y h.second_long) ∙ pair_behind-push rule one (letter x) (letter y) ha hb;
    }
