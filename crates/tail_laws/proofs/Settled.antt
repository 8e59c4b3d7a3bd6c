-- Normal right splits are the walks in the graph of pairs that lead from the pair of the nodes of zeros into a loop.
use Rattle.std.proofs.Common.{◌≡◌, ℕ, ◌+◌, List, [], ◌∷◌, ◌++◌, length, replicate, pos, ◌+ℤ◌, ◌-ℤ◌, neg_ℤ, sym, ap, ap₂, ◌∙◌, arith, append_assoc, zip, rules}
use Rattle.word_image.proofs.Common.{ints, length-replicate, get_or-replicate, LocalRule, IsRule, value-zeros}
use Rattle.tail_config.proofs.Common.{TailConfig, IsTail, Same, cell, cells, last_letters, IsSettled, IsNormalRightSplit, run-by_letters, run-same, last-run, run-append, cells-middle, cells-right, same_left_part, Different-from_not_same}
use Rattle.tail_laws.proofs.Nodes.{same_nodes}
use Rattle.tail_laws.proofs.Loops.{IsLooped, ShareImage-in_step}
use Rattle.tail_laws.proofs.PairLeads.{PairLeads, pair_at, IsInStep-walk, walk-ShareImage}

-- where the left period is the letter 0, runs of cells left of place 0 are zeros
pub cells-zeros : (t : TailConfig) (n : ℕ) → t.left ≡ 0 ∷ [] → cells t (neg_ℤ (pos n)) n ≡ replicate n 0
cells-zeros t n e =
    sym (run-by_letters (cell t) (neg_ℤ (pos n)) n (replicate n 0) (length-replicate n 0) (grind (arith, get_or-replicate)))

-- behind n zeros the last n letters of the first cells are the cells left of the next
last-zeros : (t : TailConfig) (n l : ℕ) {w : List ℕ} → t.left ≡ 0 ∷ [] → cells t (pos 0) l ≡ w
    → last_letters n (replicate n 0 ++ w) ≡ cells t (pos l -ℤ pos n) n
last-zeros t n l e is =
    ap (last_letters n) (sym (run-append (cell t) (neg_ℤ (pos n)) (pos 0) n l (omega (arith, ints)) ∙ ap₂ (λ (u v : List ℕ). u ++ v) (cells-zeros t n e) is) ∙ ap (cells t (neg_ℤ (pos n))) (omega arith))
    ∙ last-run (cell t) (neg_ℤ (pos n)) (pos l -ℤ pos n) l n (omega (arith, ints))

-- the last n letters of the middle, behind zeros, are the cells left of the right period
last-middle : (t : TailConfig) (n : ℕ) → t.left ≡ 0 ∷ [] → last_letters n (replicate n 0 ++ t.middle) ≡ cells t (pos (length t.middle) -ℤ pos n) n
last-middle t n e = last-zeros t n (length t.middle) e (cells-middle t)

-- the last n letters with the right period are the cells left of the second turn of that period
last-right : (t : TailConfig) (n : ℕ) → t.left ≡ 0 ∷ []
    → last_letters n (replicate n 0 ++ t.middle ++ t.right) ≡ cells t (pos (length t.middle + length t.right) -ℤ pos n) n
last-right t n e =
    let m : ℕ = length t.middle in
    ap (last_letters n) (append_assoc (replicate n 0) t.middle t.right)
    ∙ last-zeros t n (m + length t.right) e (run-append (cell t) (pos 0) (pos m) m (length t.right) (omega (arith, ints)) ∙ ap₂ (λ (u v : List ℕ). u ++ v) (cells-middle t) (cells-right t))

-- a configuration is settled where its left period is the letter 0 and its right one leads back to the node at which it begins
pub IsSettled-looped : {r : LocalRule} {t : TailConfig} → IsTail r.states t → t.left ≡ 0 ∷ [] → IsLooped r t → IsSettled r t
IsSettled-looped h left loop = search (rules, last-middle, same_nodes, last-right)

-- where both left periods are the letter 0, the pair of the nodes before place 0 is that of zeros
pair_at-zeros : (r : LocalRule) (x y : TailConfig) → x.left ≡ 0 ∷ [] → y.left ≡ 0 ∷ [] → pair_at r x y (pos 0) ≡ 0
pair_at-zeros r x y e f = grind (arith, cells-zeros, value-zeros)

-- configurations with the same cells, and parts of one length, have the same parts
pub same_parts : {k : ℕ} {x y : TailConfig} → IsTail k x → IsTail k y → length x.middle ≡ length y.middle → length x.right ≡ length y.right → Same x y
    → (x.middle ≡ y.middle) × (x.right ≡ y.right)
same_parts {k} {x} {y} hx hy middles rights same = (
  sym (cells-middle x) ∙ run-same (cell x) (cell y) (pos 0) (pos 0) (length x.middle) (λ a l. same (pos 0 +ℤ pos a)) ∙ ap (cells y (pos 0)) middles ∙ cells-middle y,
  sym (cells-right x) ∙ run-same (cell x) (cell y) (pos (length x.middle)) (pos (length x.middle)) (length x.right) (λ a l. same (pos (length x.middle) +ℤ pos a))
      ∙ ap₂ (λ a b. cells y (pos a) b) middles rights ∙ cells-right y,
)

-- where from the pair of the nodes of zeros the letter pairs of the middles lead to a pair, and those of the right periods from there back to it, two configurations are a normal right split
pub IsNormalRightSplit-walk : {r : LocalRule} {x y : TailConfig} → IsRule r → IsTail r.states x → IsTail r.states y → x.left ≡ 0 ∷ []
    → y.left ≡ 0 ∷ []
    → length x.middle ≡ length y.middle → length x.right ≡ length y.right → (q : ℕ) → PairLeads r 0 (zip x.middle y.middle) q
    → PairLeads r q (zip x.right y.right) q
    → ¬ ((x.middle ≡ y.middle) × (x.right ≡ y.right)) → IsNormalRightSplit r x y
IsNormalRightSplit-walk {r} {x} {y} rule hx hy left_x left_y middles rights q reach loop other =
    let left : x.left ≡ y.left = left_x ∙ sym left_y in
    let steps = IsInStep-walk rule hx hy middles rights q (rw (pair_at-zeros r x y left_x left_y) reach) loop in
    record {
      split = record {
        first = hx;
        second = hy;
        different = Different-from_not_same hx hy (λ same. other (same_parts hx hy middles rights same));
        share = ShareImage-in_step rule hx hy left middles rights steps;
        agree = (pos 0, same_left_part x y left);
      };
      first = IsSettled-looped hx left_x steps.first;
      second = IsSettled-looped hy left_y steps.second;
      middles = middles;
      rights = rights;
    }

-- a normal right split is two walks of its parts
pub normal_split-walk : {r : LocalRule} {x y : TailConfig} → IsRule r → IsNormalRightSplit r x y
    → (q : ℕ) × PairLeads r 0 (zip x.middle y.middle) q × PairLeads r q (zip x.right y.right) q
normal_split-walk rule n = grind (arith, walk-ShareImage, pair_at-zeros, last-middle, last-right)
