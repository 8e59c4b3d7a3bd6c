-- A placed configuration that maps to another is a walk that spells the other's letters, and from its shape come three walks.
use Rattle.std.proofs.Common.{◌≡◌, ℕ, ◌+◌, ◌-◌, ◌*◌, List, length, take, drop, ℤ, pos, ◌+ℤ◌, ◌-ℤ◌, neg_ℤ, refl, sym, ap, ◌∙◌, subst, arith}
use Rattle.word_image.proofs.Common.{ints, LocalRule, IsRule, value, local_map, IsPreimage}
use Rattle.tail_config.proofs.Common.{image_of, TailConfig, cell, cells, length-run, IsWord-run, run-same, take-run, drop-run, image-run, cell-below, cells-middle, cells-left, cells-right, cell-right_period}
use Rattle.tail_preimage.specs.Walks.{IsWalk, before_last}
use Rattle.tail_preimage.specs.Preimages.{PlacedConfig, MapsTo, Shape, IsShapedPreimage, stretch}
use Rattle.tail_preimage.specs.FirstWalks.{AreLoopWalks, placed_of}
use Rattle.tail_preimage.proofs.laws.Stretches.{stretch_length, stretch_start, cells-lefts, cells-rights, cells-stretch}
use Rattle.tail_preimage.proofs.laws.Placements.{placed_cells-cells}

-- a run of the cells of a placed configuration is a preimage of a run of the letters
IsPreimage-placed : {r : LocalRule} {t : TailConfig} {p : PlacedConfig} → IsRule r → MapsTo r p t → (i j : ℤ) (n : ℕ) → i +ℤ r.offset -ℤ p.at ≡ j
    → IsPreimage r (cells t i n) (cells p.config j (n + (r.width - 1)))
IsPreimage-placed {r} {t} {p} rule h i j n e =
    let c : TailConfig = p.config in
    let first : ℤ = i -ℤ p.at in
    let labels = run-same (image_of r (cell c)) (cell t) first i n (λ a l.
    ap (local_map r) (sym (placed_cells-cells p (i +ℤ pos a +ℤ r.offset) (first +ℤ pos a +ℤ r.offset) r.width (omega (arith, ints)))) ∙ h.cells (i +ℤ pos a)) in
    record {
      word = IsWord-run (cell-below h.config) j (n + (r.width - 1));
      long = length-run (cell c) j (n + (r.width - 1)) ∙ ap (λ a. a + (r.width - 1)) (sym (length-run (cell t) i n));
      maps = image-run rule (cell c) first j n (omega (arith, ints)) ∙ labels;
    }

-- the node of a configuration that begins at a place
abbrev pub node_from : LocalRule → TailConfig → ℤ → ℕ
node_from r c j = value r.states (cells c j (r.width - 1))

-- the cells of a configuration that maps to t are a walk along t's cells from node to node
pub IsWalk-placed : {r : LocalRule} {t : TailConfig} {p : PlacedConfig} {w : List ℕ} → IsRule r → MapsTo r p t → (i j q : ℤ) (n : ℕ)
    → i +ℤ r.offset -ℤ p.at ≡ j → j +ℤ pos n ≡ q → cells t i n ≡ w
    → IsWalk r w (node_from r p.config j) (node_from r p.config q) (cells p.config j (n + (r.width - 1)))
IsWalk-placed {r} {t} {p} rule h i j q n e end same =
    let d : ℕ = r.width - 1 in
    record {
      preimage = subst (λ z. IsPreimage r z (cells p.config j (n + d))) same (IsPreimage-placed rule h i j n e);
      first = ap (value r.states) (take-run (cell p.config) j (n + d) d (omega arith));
      last = ap (λ a. value r.states (drop a (cells p.config j (n + d)))) (ap length (sym same) ∙ length-run (cell t) i n) ∙ ap (value r.states) (drop-run (cell p.config) j q n d end);
    }

-- a stretch has a preimage where some placed configuration maps to all
pub IsPreimage-stretch : {r : LocalRule} {t : TailConfig} {p : PlacedConfig} → IsRule r → MapsTo r p t → (b a : ℕ)
    → (x : List ℕ) × IsPreimage r (stretch t b a) x
IsPreimage-stretch {r} {t} {p} rule h b a =
    let i : ℤ = stretch_start t b in
    let j : ℤ = i +ℤ r.offset -ℤ p.at in
    let x : List ℕ = cells p.config j (stretch_length t b a + (r.width - 1)) in
    (x, subst (λ w. IsPreimage r w x) (cells-stretch t b a) (IsPreimage-placed rule h i j (stretch_length t b a) refl))

-- a walk along a run of n letters, whose letters before its last node are the run of the configuration there
before_last-cells : (r : LocalRule) (c : TailConfig) (j : ℤ) (n : ℕ) → before_last r (cells c j (n + (r.width - 1))) ≡ cells c j n
before_last-cells r c j n =
    ap (λ i. take i (cells c j (n + (r.width - 1)))) (omega (arith, length-run (cell c) j (n + (r.width - 1)))) ∙ take-run (cell c) j (n + (r.width - 1)) n (omega arith)

-- three walks of the shape of a placed configuration, which is theirs
pub record HasLoopWalks (r : LocalRule) (t : TailConfig) (s : Shape) (p : PlacedConfig) : Type 0 where
  pub v : ℕ
  pub w : ℕ
  pub x : List ℕ
  pub y : List ℕ
  pub z : List ℕ
  pub walks : AreLoopWalks r t s v w x y z
  pub placed : placed_of r t s.before x y z ≡ p

-- a placed configuration that has a shape and maps to t is made of three walks
pub HasLoopWalks-shape : {r : LocalRule} {t : TailConfig} {s : Shape} {p : PlacedConfig} → IsRule r → IsShapedPreimage r t s p → HasLoopWalks r t s p
HasLoopWalks-shape {r} {t} {s} {p} rule h =
    let c : TailConfig = p.config in
    let d : ℕ = r.width - 1 in
    let left : ℕ = s.back * length t.left in
    let middle : ℕ = stretch_length t s.before s.after in
    let right : ℕ = s.on * length t.right in
    let left_long : length c.left ≡ left = h.shape.left in
    let middle_long : length c.middle ≡ middle = h.shape.middle in
    let right_long : length c.right ≡ right = h.shape.right in
    let first : ℤ = neg_ℤ (pos left) in
    let last : ℤ = pos middle in
    let x : List ℕ = cells c first (left + d) in
    let y : List ℕ = cells c (pos 0) (middle + d) in
    let z : List ℕ = cells c last (right + d) in
    let v : ℕ = node_from r c (pos 0) in
    let w : ℕ = node_from r c last in
    let at_node : p.at -ℤ p.at ≡ pos 0 = omega (arith, ints) in
    let at_loop : p.at -ℤ pos left -ℤ p.at ≡ first = omega (arith, ints) in
    let round : node_from r c first ≡ v = grind (arith, placed_cells-cells) in
    let turn = ap (value r.states) (run-same (cell c) (cell c) (last +ℤ pos right) last d (λ a l.
    let place : last +ℤ pos right +ℤ pos a ≡ last +ℤ pos a +ℤ pos (length c.right) = omega (arith, ints) in
    ap (cell c) place ∙ cell-right_period c (last +ℤ pos a) (omega (arith, ints)))) in
    record {
      v = v;
      w = w;
      x = x;
      y = y;
      z = z;
      walks = record {
        back_some = h.shape.back_some;
        on_some = h.shape.on_some;
        left = rw round at
            (IsWalk-placed rule h.maps (stretch_start t (s.back + s.before)) first (pos 0) left (omega (arith, ints)) (omega (arith, ints)) (cells-lefts t s.before s.back _ refl));
        middle = IsWalk-placed rule h.maps (stretch_start t s.before) (pos 0) last middle (omega (arith, ints)) (omega (arith, ints)) (cells-stretch t s.before s.after);
        right = rw turn at
            (IsWalk-placed rule h.maps (pos (length t.middle + s.after * length t.right)) last (last +ℤ pos right) right (omega (arith, ints)) refl (cells-rights t s.after s.on _ refl));
      };
      placed = grind (arith, before_last-cells, cells-left, cells-middle, cells-right);
    }
