-- A walk of two configurations in step: through the middles, and once through right periods that lead back to their nodes.
use Rattle.std.proofs.Common.{◌≡◌, ℕ, ◌+◌, ◌-◌, ◌<◌, length, ℤ, pos, ◌+ℤ◌, ◌-ℤ◌, unsigned_abs, sym, ap, ◌∙◌, arith}
use Rattle.word_image.proofs.Common.{ints, by_lt_z, LocalRule, IsRule, local_map}
use Rattle.tail_config.proofs.Common.{TailConfig, IsTail, ShareImage, cell, run-same, same-run, same_left_part, RepeatsRight, at_run, same_right-period, cell-right_period}
use Rattle.tail_laws.proofs.Nodes.{node_at, label_over, same_nodes, ShareImage-labels}

-- the right period leads back to the node at which it begins
abbrev pub IsLooped : LocalRule → TailConfig → Type 0
IsLooped r t = node_at r t (pos (length t.middle)) ≡ node_at r t (pos (length t.middle + length t.right))

-- where the right period leads back to its node, the node's cells repeat too
pub looped-cells : (r : LocalRule) {t : TailConfig} → IsTail r.states t → IsLooped r t
    → RepeatsRight (length t.right) (cell t) (pos (length t.middle) -ℤ pos (r.width - 1))
looped-cells r {t} h loop i l =
    let m : ℕ = length t.middle in
    let n : ℕ = length t.right in
    let start : ℤ = pos m -ℤ pos (r.width - 1) in
    let same = same-run (cell t) (cell t) start (pos (m + n) -ℤ pos (r.width - 1)) (r.width - 1) (same_nodes r h h (pos m) (pos (m + n)) loop) in
    let turn : (a : ℕ) → a < r.width - 1 → cell t (start +ℤ pos a) ≡ cell t (start +ℤ pos a +ℤ pos n) = λ a k.
    same a k ∙ ap (cell t) (omega (arith, ints)) in
    by_lt_z i (pos m) (λ k. sym (at_run (cell t) (λ j. cell t (j +ℤ pos n)) start (r.width - 1) turn i l (omega (arith, ints)))) (cell-right_period t i)

-- the labels repeat from the place at which the period begins
pub looped-labels : {r : LocalRule} {t : TailConfig} → IsRule r → IsTail r.states t → IsLooped r t
    → RepeatsRight (length t.right) (label_over r t) (pos (length t.middle))
looped-labels {r} {t} rule h loop i l =
    let m : ℕ = r.width - 1 in
    ap (local_map r) (run-same (cell t) (cell t) (i +ℤ pos (length t.right) -ℤ pos m) (i -ℤ pos m) r.width (λ a k.
    ap (cell t) (omega (arith, ints)) ∙ looped-cells r h loop (i -ℤ pos m +ℤ pos a) (omega (arith, ints))))

-- two configurations go in step: the labels are equal through the middles and once through the right periods, which lead back
pub record IsInStep (r : LocalRule) (x y : TailConfig) : Type 0 where
  pub labels : (d : ℕ) → d < length x.middle + length x.right → label_over r x (pos d) ≡ label_over r y (pos d)
  pub first : IsLooped r x
  pub second : IsLooped r y

-- configurations with one left part that go in step share an image
pub ShareImage-in_step : {r : LocalRule} {x y : TailConfig} → IsRule r → IsTail r.states x → IsTail r.states y → x.left ≡ y.left
    → length x.middle ≡ length y.middle → length x.right ≡ length y.right
    → IsInStep r x y → ShareImage r x y
ShareImage-in_step {r} {x} {y} rule hx hy left middles rights steps =
    let m : ℕ = length x.middle in
    let n : ℕ = length x.right in
    let second : RepeatsRight n (label_over r y) (pos m) = grind (arith, looped-labels) in
    ShareImage-labels r x y (λ i.
    by_lt_z i (pos 0)
    (λ l. ap (local_map r) (run-same (cell x) (cell y) (i -ℤ pos (r.width - 1)) (i -ℤ pos (r.width - 1)) r.width (λ a k. same_left_part x y left (i -ℤ pos (r.width - 1) +ℤ pos a) (omega (arith, ints)))))
    (λ l. by_lt_z i (pos m)
    (λ k. let place : pos (unsigned_abs i) ≡ i = omega (arith, ints) in
    ap (label_over r x) (sym place) ∙ steps.labels (unsigned_abs i) (omega (arith, ints)) ∙ ap (label_over r y) place)
    (same_right-period (label_over r x) (label_over r y) n (pos m) hx.right_some (looped-labels rule hx steps.first) second (λ d k. steps.labels (m + d) (omega arith)) i)))
