-- Either word of an erasable pair may stand for the other in any word and in any configuration, and the image stays.
use Rattle.std.proofs.Common.{◌≡◌, ◌≢◌, ℕ, ◌+◌, ◌-◌, ◌<◌, ◌≤◌, List, ◌++◌, length, take, drop, refl, sym, ap, ap₂, ◌∙◌, arith, ℤ, pos, ◌+ℤ◌, ◌-ℤ◌, unsigned_abs, subst, ◌<ℤ◌, ◌≤ℤ◌, length-drop, length-take-le, take_all, take_at}
use Rattle.word_image.proofs.Common.{ints, cases_lt, take-append-le, drop-append-le, take-append-add, drop-append_seam, All-take, All-drop, LocalRule, IsRule, value, image, HaveOneImage, IsErasable, value-injective}
use Rattle.tail_config.proofs.Common.{Config, run, image_of, run-same, same-run, run-append, image-run}
use Rattle.pair_laws.proofs.Common.{image-cut}

-- the image of a word between two others: windows that begin before it see its first m - 1 letters, windows that end behind it its last
image-between : {r : LocalRule} → IsRule r → (p x s : List ℕ) → r.width - 1 ≤ length x
    → image r (p ++ (x ++ s)) ≡ image r (p ++ take (r.width - 1) x) ++ (image r x ++ image r (drop (length x - (r.width - 1)) x ++ s))
image-between {r} rule p x s long =
    let d : ℕ = r.width - 1 in
    let n : ℕ = length x - d in
    let whole : length x ≡ n + d = omega arith in
    let front = take-append-add p (x ++ s) d ∙ ap (λ z. p ++ z) (take-append-le d x s long) in
    image-cut rule (length p) (p ++ (x ++ s))
    ∙ ap₂ (λ (u v : List ℕ). image r u ++ image r v) front (drop-append_seam p (x ++ s))
    ∙ ap (λ z. image r (p ++ take d x) ++ z) (image-cut rule n (x ++ s) ∙ ap₂ (λ (u v : List ℕ). image r u ++ image r v) (take_at x s (n + d) whole) (drop-append-le n x s (omega arith)))

-- two different words with one image that begin with one node, and end with one, are an erasable pair
pub IsErasable-nodes : {r : LocalRule} {n : ℕ} {x y : List ℕ} → HaveOneImage r n x y → x ≢ y
    → value r.states (take (r.width - 1) x) ≡ value r.states (take (r.width - 1) y)
    → value r.states (drop n x) ≡ value r.states (drop n y) → IsErasable r x y
IsErasable-nodes {r} {n} {x} {y} h other first last =
    let d : ℕ = r.width - 1 in
    let Below : ℕ → Type 0 = λ a. a < r.states in
    let front = value-injective r.states (take d x) (take d y) (All-take Below d x h.first) (All-take Below d y h.second)
    (length-take-le d x (omega arith) ∙ sym (length-take-le d y (omega arith))) first in
    let back = value-injective r.states (drop n x) (drop n y) (All-drop Below n x h.first) (All-drop Below n y h.second) (omega (arith, length-drop n x, length-drop n y)) last in
    grind arith

-- an erasable word has more than m - 1 letters
pub IsErasable-long : {r : LocalRule} {x y : List ℕ} → IsErasable r x y → r.width - 1 < length x
IsErasable-long {r} {x} {y} h = grind (arith, take_all, cases_lt)

-- either word of an erasable pair may stand for the other within a word
pub image-exchange : {r : LocalRule} {x y : List ℕ} → IsRule r → IsErasable r x y → (p s : List ℕ) → image r (p ++ (x ++ s)) ≡ image r (p ++ (y ++ s))
image-exchange {r} {x} {y} rule h p s = grind (arith, IsErasable-long, image-between)

-- two configurations that have the words of an erasable pair at one place, and equal letters elsewhere, share an image
pub image_of-exchange : {r : LocalRule} {x y : List ℕ} {f g : Config} → IsRule r → IsErasable r x y → (s : ℤ) → run f s (length x) ≡ x
    → run g s (length x) ≡ y
    → ((j : ℤ) → j <ℤ s → f j ≡ g j) → ((j : ℤ) → (s +ℤ pos (length x)) ≤ℤ j → f j ≡ g j) → (j : ℤ) → image_of r f j ≡ image_of r g j
image_of-exchange {r} {x} {y} {f} {g} rule h s at_f at_g before after j =
    let l : ℕ = length x in
    let a : ℕ = unsigned_abs (j +ℤ r.offset -ℤ s) in
    let b : ℕ = a + r.width in
    let n : ℕ = a + l + a + 1 in
    let i : ℤ = s -ℤ pos a in
    let o : ℤ = i -ℤ r.offset in
    let e : ℤ = s +ℤ pos l in
    let cut : (z : Config) → run z i (n + (r.width - 1)) ≡ run z i a ++ (run z s l ++ run z e b) = λ z.
    ap (run z i) (omega arith) ∙ run-append z i s a (l + b) (omega (arith, ints)) ∙ ap (λ w. run z i a ++ w) (run-append z s e l b refl) in
    let same = ap (image r) (cut f ∙ ap (λ w. run f i a ++ (w ++ run f e b)) at_f) ∙ image-exchange rule h (run f i a) (run f e b)
    ∙ ap (image r) (ap₂ (λ (u v : List ℕ). u ++ v) (run-same f g i i a (λ c k. before (i +ℤ pos c) (omega (arith, ints))))
    (ap₂ (λ (u v : List ℕ). u ++ v) (sym at_g) (run-same f g e e b (λ c k. after (e +ℤ pos c) (omega (arith, ints))))) ∙ sym (cut g)) in
    let under : o +ℤ r.offset ≡ i = omega (arith, ints) in
    subst (λ k. image_of r f k ≡ image_of r g k) (omega (arith, ints))
    (same-run (image_of r f) (image_of r g) o o n (sym (image-run rule f o i n under) ∙ same ∙ image-run rule g o i n under) (unsigned_abs (j -ℤ o)) (omega (arith, ints)))
