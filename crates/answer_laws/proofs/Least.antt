-- What is the least of its kind is one: orphans, twins, rings, windows, look-aheads, splits and erasable pairs.
use Rattle.std.proofs.Common.{inr, ◌≡◌, ℕ, ◌<◌, List, sym, ap, ◌∙◌, arith}
use Rattle.word_image.proofs.Common.{LocalRule, IsLeastOrphan, IsLeastTwins, IsLeastLossyRing, IsLeastErasable, IsLeastDetermined, IsLeastRightAhead}
use Rattle.search_laws.proofs.Common.{one_word}
use Rattle.tail_config.proofs.Common.{TailConfig, mirror_of, config_of, IsLeastRightSplit, IsLeastLeftSplit}
use Rattle.ca_questions.proofs.Fits.{IsLeastDetermined-length}
use Rattle.answer_laws.proofs.Orders.{one_pair, one_split}

-- a rule has one least orphan
pub IsLeastOrphan-unique : {r : LocalRule} {v w : List ℕ} → IsLeastOrphan r v → IsLeastOrphan r w → v ≡ w
IsLeastOrphan-unique {v = v} {w = w} h g = one_word v w (h.least w g.orphan) (g.least v h.orphan)

-- a rule has one least ring that doesn't keep its sum
pub IsLeastLossyRing-unique : {weight : ℕ → ℕ} {r : LocalRule} {p q : List ℕ} → IsLeastLossyRing weight r p → IsLeastLossyRing weight r q → p ≡ q
IsLeastLossyRing-unique {p = p} {q = q} h g = one_word p q (h.least q g.lossy) (g.least p h.lossy)

-- a rule has its least twins once
pub IsLeastTwins-unique : {r : LocalRule} {x y u v : List ℕ} → IsLeastTwins r x y → IsLeastTwins r u v → (x ≡ u) × (y ≡ v)
IsLeastTwins-unique {x = x} {y = y} {u = u} {v = v} h g = one_pair x y u v h.twins.one_length g.twins.one_length (h.least u v g.twins) (g.least x y h.twins)

-- a rule has one least erasable pair
pub IsLeastErasable-unique : {r : LocalRule} {x y u v : List ℕ} → IsLeastErasable r x y → IsLeastErasable r u v → (x ≡ u) × (y ≡ v)
IsLeastErasable-unique {x = x} {y = y} {u = u} {v = v} h g =
    one_pair x y u v h.erasable.one_length g.erasable.one_length (h.least u v g.erasable) (g.least x y h.erasable)

-- a rule has one least determined window
pub IsLeastDetermined-unique : {r : LocalRule} {n c m d : ℕ} → IsLeastDetermined r n c → IsLeastDetermined r m d → (n ≡ m) × (c ≡ d)
IsLeastDetermined-unique {n = n} {c = c} {m = m} {d = d} h g =
    let long : n ≡ m = IsLeastDetermined-length h g in
    let before : ¬ (c < d) = λ less. g.least n c (inr (long, less)) h.determined in
    let behind : ¬ (d < c) = λ less. h.least m d (inr (sym long, less)) g.determined in
    (long, omega (arith, before, behind))

-- a rule has one least look-ahead
pub IsLeastRightAhead-unique : {r : LocalRule} {n m : ℕ} → IsLeastRightAhead r n → IsLeastRightAhead r m → n ≡ m
IsLeastRightAhead-unique {n = n} {m = m} h g =
    let below : ¬ (n < m) = λ less. g.least n less h.ahead in
    let above : ¬ (m < n) = λ less. h.least m less g.ahead in
    omega (arith, below, above)

-- a rule has one least normal split on the right
pub IsLeastRightSplit-unique : {r : LocalRule} {x y u v : TailConfig} → IsLeastRightSplit r x y → IsLeastRightSplit r u v → (x ≡ u) × (y ≡ v)
IsLeastRightSplit-unique {x = x} {y = y} {u = u} {v = v} h g =
    let (middles, rights) = one_split x y u v h.split.middles h.split.rights g.split.middles g.split.rights (h.least u v g.split) (g.least x y h.split) in (
      λ i. config_of ((h.split.first.left ∙ sym g.split.first.left) i) (middles.0 i) (rights.0 i),
      λ i. config_of ((h.split.second.left ∙ sym g.split.second.left) i) (middles.1 i) (rights.1 i),
    )

-- a rule has one least normal split on the left
pub IsLeastLeftSplit-unique : {r : LocalRule} {x y u v : TailConfig} → IsLeastLeftSplit r x y → IsLeastLeftSplit r u v → (x ≡ u) × (y ≡ v)
IsLeastLeftSplit-unique h g =
    let (first, second) = IsLeastRightSplit-unique h.right g.right in
    (h.x_is ∙ ap mirror_of first ∙ sym g.x_is, h.y_is ∙ ap mirror_of second ∙ sym g.y_is)
