-- A rule that gives one letter of its window, such as a shift: its fewest last nodes, its fewest first nodes and its degree.
use Rattle.std.proofs.Common.{◌≡◌, ℕ, suc, ◌+◌, ◌-◌, ◌*◌, ◌/◌, ◌%◌, ◌^◌, ◌<◌, ◌≤◌, List, [], ◌∷◌, ◌++◌, length, take, drop, get_or, replicate, refl, sym, ap, ◌∙◌, subst, ⊎_elim, arith, length-append, length-drop, length-take-le, get_or-take, mul-le-mul, mul-le-mul_left, mul-le-mul_right, mul_comm, mod-lt, div-add-mod', le_of_mul-le-mul_right}
use Rattle.std.specs.List.{slice_range}
use Rattle.std.proofs.lemmas.List.{get_or-drop, get_or-replicate, get_or-append_right}
use Rattle.std.proofs.lemmas.Nat.{pow-add, mod-mul-add}
use native.Mathlib.Nat.{pow-zero}
use Rattle.word_image.proofs.Common.{cases_lt, pow-le-pow_right, length-replicate, All-take, All-drop, All-append, get_or_append_left, get_or-image, image-by_letters, LocalRule, IsRule, IsWord, local_map, value, value-take, value-drop, IsPreimage, IsLastNode, IsSurjective, node_count, node_count_pos, some_letter}
use Rattle.welch_index.specs.Fewest.{IsFirstNode, IsFewestLast, IsFewestFirst}
use Rattle.welch_index.specs.Degrees.{IsDegree, IsCopy}
use Rattle.welch_index.proofs.Totals.{total, total-le, total-const, total-append, total-product, total-one, sign-most}
use Rattle.welch_index.proofs.Cuts.{reads, ends, last_count, first_count}
use Rattle.welch_index.proofs.Links.{reads-IsFirstNode, ends-IsLastNode}
use Rattle.welch_index.proofs.Products.{fewest-last_count, IsDegree-fewest, not_surjective-fewest}
use Rattle.welch_index.proofs.Firsts.{fewest-first_count, IsFewestLast-first}
use Rattle.welch_index.proofs.Quotients.{AreQuotients-fewest}

-- the value of a word of zeros
zero_value : (k : ℕ) (w : List ℕ) → ((i : ℕ) → i < length w → get_or w i 0 ≡ 0) → value k w ≡ 0
zero_value k [] each = refl
zero_value k (a ∷ w) each = let first : a ≡ 0 = each 0 (omega arith) in omega (arith, ap (λ b. b * k ^ length w) first, zero_value k w (λ i l. each (suc i) (omega (arith, l))))

-- a power of the number of letters isn't 0
some_power : {r : LocalRule} → IsRule r → (n : ℕ) → 0 < r.states ^ n
some_power {r} rule n =
    let grows : r.states ^ 0 ≤ r.states ^ n = pow-le-pow_right (some_letter rule) (omega arith) in
    omega (arith, grows, pow-zero r.states)

-- as many zeros as a node has letters
abbrev zeros : LocalRule → List ℕ
zeros r = replicate (r.width - 1) 0

IsWord-zeros : {r : LocalRule} → IsRule r → (n : ℕ) → IsWord r.states (replicate n 0)
IsWord-zeros {r} rule n i d l = omega (arith, get_or-replicate n i 0 d (omega (arith, l, length-replicate {A = ℕ} n 0)), some_letter rule)

module _ {r : LocalRule} {j : ℕ} (rule : IsRule r) (copy : IsCopy r j) where
  -- a letter of an image stands j cells later in the word
  letter-copied : (x : List ℕ) → IsWord r.states x → (i : ℕ) → i < length x - (r.width - 1) → local_map r (slice_range x i (i + r.width)) ≡ get_or x (i + j) 0
  letter-copied x word i l =
      let n = i + r.width - i in
      let window : List ℕ = slice_range x i (i + r.width) in
      let long : length window ≡ r.width = length-take-le n (drop i x) (omega (arith, length-drop i x, rule.shape.least_width, l)) ∙ omega arith in
      copy.copies window (All-take (λ a. a < r.states) n (drop i x) (All-drop (λ a. a < r.states) i x word)) long
      ∙ get_or-take n (drop i x) j 0 (omega (arith, copy.inside))
      ∙ get_or-drop i x j 0

  -- the letters of a preimage of zeros
  zero_at : (x : List ℕ) → IsPreimage r (zeros r) x → (i : ℕ) → i < r.width - 1 → get_or x (i + j) 0 ≡ 0
  zero_at x p i l =
      let inside : i < length x - (r.width - 1) = omega (arith, p.long, length-replicate {A = ℕ} (r.width - 1) 0, l) in
      sym (get_or-image r x i inside ∙ letter-copied x p.word i inside) ∙ ap (λ w. get_or w i 0) p.maps ∙ get_or-replicate (r.width - 1) i 0 0 l

  -- the first j letters of a last node of the zeros are zeros
  last-below : (u : ℕ) → IsLastNode r (zeros r) u → u < r.states ^ (r.width - 1 - j)
  last-below u h =
      let k = r.states in
      let b = k ^ (r.width - 1 - j) in
      let n = length (zeros r) in
      let n_is : n ≡ r.width - 1 = length-replicate {A = ℕ} (r.width - 1) 0 in
      let y = drop n h.x in
      let long : length y ≡ r.width - 1 = omega (arith, length-drop n h.x, h.preimage.long) in
      let none = zero_value k (take j y) (λ i l.
      let before : i < j = omega (arith, l, length-take-le j y (omega (arith, long, copy.inside))) in
      let place : (n + i - j) + j ≡ n + i = omega (arith, n_is, copy.inside) in
      get_or-take j y i 0 before ∙ get_or-drop n h.x i 0 ∙ ap (λ p. get_or h.x p 0) (sym place) ∙ zero_at h.x h.preimage (n + i - j) (omega (arith, before, n_is, copy.inside))) in
      let high : value k y / b ≡ 0 = subst (λ m. value k y / k ^ (m - j) ≡ 0) long (sym (value-take k j y (All-drop (λ a. a < k) n h.x h.preimage.word) (omega (arith, long, copy.inside))) ∙ none) in
      let cut = div-add-mod' (value k y) b in
      let gone : value k y / b * b ≡ 0 * b = ap (λ q. q * b) high in
      omega (arith, cut, gone, mod-lt (value k y) (some_power rule (r.width - 1 - j)), h.last)

  -- the last letters of a first node of the zeros are zeros
  first-divided : (u : ℕ) → IsFirstNode r (zeros r) u → u % r.states ^ (r.width - 1 - j) ≡ 0
  first-divided u h =
      let k = r.states in
      let y = take (r.width - 1) h.x in
      let long : length y ≡ r.width - 1 = length-take-le (r.width - 1) h.x (omega (arith, h.preimage.long)) in
      let none = zero_value k (drop j y) (λ i l.
      let before : j + i < r.width - 1 = omega (arith, l, length-drop j y, long) in
      get_or-drop j y i 0 ∙ get_or-take (r.width - 1) h.x (j + i) 0 before ∙ ap (λ p. get_or h.x p 0) (omega arith) ∙ zero_at h.x h.preimage i (omega (arith, before))) in
      ap (λ v. v % k ^ (r.width - 1 - j)) (sym h.first)
      ∙ subst (λ m. value k y % k ^ (m - j) ≡ 0) long (sym (value-drop k j y (All-take (λ a. a < k) (r.width - 1) h.x h.preimage.word) (omega (arith, long, copy.inside))) ∙ none)

  -- the nodes are pairs of j letters and the others
  nodes_cut : node_count r ≡ r.states ^ j * r.states ^ (r.width - 1 - j)
  nodes_cut = ap (λ n. r.states ^ n) (omega (arith, copy.inside)) ∙ pow-add r.states j (r.width - 1 - j)

  last_count-zeros : last_count r (zeros r) ≤ r.states ^ (r.width - 1 - j)
  last_count-zeros =
      let b = r.states ^ (r.width - 1 - j) in
      let f = ends r (zeros r) in
      let fits : b ≤ node_count r = pow-le-pow_right (some_letter rule) (omega arith) in
      let rest = node_count r - b in
      let split : node_count r ≡ b + rest = omega (arith, fits) in
      let first = total-le f (λ i. 1) b (λ i l. sign-most _) in
      let later = total-le (λ i. f (b + i)) (λ i. 0) rest (λ i l. ⊎_elim
      (λ some. absurd (omega (arith, last-below (b + i) ((ends-IsLastNode rule (zeros r) (b + i) (omega (arith, l, fits))).0 some))))
      (λ none. none) (cases_lt 0 (f (b + i)))) in
      omega (arith, ap (total f) split, total-append f b rest, first, later, total-const 1 b, total-const 0 rest)

  first_count-zeros : first_count r (zeros r) ≤ r.states ^ j
  first_count-zeros =
      let a = r.states ^ j in
      let b = r.states ^ (r.width - 1 - j) in
      let f = reads r (zeros r) in
      let inner : (i : ℕ) → i < a → total (λ t. f (i * b + t)) b ≤ 1 = λ i l.
      let up = mul-le-mul_right b l in
      let zeroth : (t : ℕ) → t < b → 0 < f (i * b + t) → t ≡ 0 = λ t h some.
      let more : suc i * b ≡ i * b + b = omega arith in
      sym (mod-mul-add i b t h) ∙ first-divided (i * b + t) ((reads-IsFirstNode rule (zeros r) (i * b + t) (omega (arith, up, more, h, nodes_cut))).0 some) in
      total-one (λ t. f (i * b + t)) b (λ t h. sign-most _) (λ s t hs ht ps pt. zeroth s hs ps ∙ sym (zeroth t ht pt)) in
      omega (arith, ap (total f) nodes_cut, total-product f a b, total-le (λ i. total (λ t. f (i * b + t)) b) (λ i. 1) a inner, total-const 1 a)

  -- each word has a preimage
  pub IsSurjective-copy : IsSurjective r
  IsSurjective-copy w word =
      let e = r.width - 1 - j in
      let tail = w ++ replicate e 0 in
      let x : List ℕ = replicate j 0 ++ tail in
      let letters : IsWord r.states x = All-append (λ a. a < r.states) (replicate j 0) tail (IsWord-zeros rule j) (All-append (λ a. a < r.states) w (replicate e 0) word (IsWord-zeros rule e)) in
      let long : length x ≡ length w + (r.width - 1) = omega (arith, length-append (replicate j 0) tail, length-append w (replicate e 0), length-replicate {A = ℕ} j 0, length-replicate {A = ℕ} e 0, copy.inside) in (
        x,
        record {
          word = letters;
          long = long;
          maps = image-by_letters r x w (omega (arith, long)) (λ i l.
              let at : i + j - j ≡ i = omega arith in
              sym (letter-copied x letters i (omega (arith, long, l)) ∙ get_or-append_right (replicate j 0) tail j (i + j) 0 (length-replicate {A = ℕ} j 0) (omega arith) ∙ ap (λ p. get_or tail p 0) at ∙ get_or_append_left w (replicate e 0) 0 i l));
        },
      )

  -- the fewest last nodes, the fewest first nodes and the degree
  pub copy_numbers : (f b nodes others : ℕ) (u v : List ℕ) → IsFewestLast r f nodes u → IsFewestFirst r b others v
      → (f ≡ r.states ^ (r.width - 1 - j)) × (b ≡ r.states ^ j) × IsDegree r 1
  copy_numbers f b nodes others u v lasts firsts =
      let n = node_count r in
      let p = r.states ^ j in
      let q = r.states ^ (r.width - 1 - j) in
      let (d, is, product, each) = IsDegree-fewest v rule IsSurjective-copy lasts (IsFewestLast-first rule firsts).1 in
      let few_f : f ≤ q = omega (arith, fewest-last_count rule lasts (zeros r) (IsWord-zeros rule (r.width - 1)), last_count-zeros) in
      let few_b : b ≤ p = omega (arith, fewest-first_count rule firsts (zeros r) (IsWord-zeros rule (r.width - 1)), first_count-zeros) in
      let some_f : 0 < f = ⊎_elim (λ some. some) (λ none. absurd (not_surjective-fewest lasts (omega (arith, none)) IsSurjective-copy)) (cases_lt 0 f) in
      let some_b : 0 < b = (AreQuotients-fewest rule (λ none. omega (arith, none, some_f)) lasts firsts).some_first in
      let some_d : 1 ≤ d = ⊎_elim (λ some. some) (λ none. let gone : n * d ≡ n * 0 = ap (λ z. n * z) (omega (arith, none)) in absurd (omega (arith, gone, product, mul-le-mul some_f some_b))) (cases_lt 0 d) in
      let all : n * 1 ≤ n * d = mul-le-mul_left n some_d in
      let of_b = mul-le-mul_left f few_b in
      let of_f = mul-le-mul_right b few_f in
      let least_f : q ≤ f = le_of_mul-le-mul_right {m = q} {n = f} {k = p} (omega (arith, all, product, of_b, nodes_cut, mul_comm p q)) (some_power rule j) in
      let least_b : p ≤ b = le_of_mul-le-mul_right {m = p} {n = b} {k = q} (omega (arith, all, product, of_f, nodes_cut, mul_comm q b)) (some_power rule (r.width - 1 - j)) in
      let whole : n * d ≤ n * 1 = omega (arith, product, of_b, mul-le-mul_right p few_f, nodes_cut, mul_comm p q) in
      let one : d ≡ 1 = omega (arith, some_d, le_of_mul-le-mul_right {m = d} {n = 1} {k = n} (omega (arith, whole, mul_comm n d)) (node_count_pos rule)) in
      (omega (arith, few_f, least_f), omega (arith, few_b, least_b), subst (IsDegree r) one is)
