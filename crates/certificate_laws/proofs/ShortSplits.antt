-- The least normal right split is short: its middle and right period have together at most as many letters as there are pairs, and m more.
use Rattle.std.proofs.Common.{ℕ, ◌+◌, ◌-◌, ◌≤◌, ◌∷◌, length, subst, ⊎_elim, arith, length-append}
use Rattle.word_image.proofs.Common.{cases_lt, LocalRule, IsRule, word_of, IsRightAhead, pair_count, IsFirstOfRight, length-word_of, PairGoes, key_not_greater}
use Rattle.word_image.specs.declared.side.Side.TheVariants.{Right}
use Rattle.pair_laws.proofs.Common.{pair_of-first_of, Together-endless}
use Rattle.pair_laws.proofs.Aheads.{IsRightAhead-pairs}
use Rattle.tail_config.proofs.Common.{TailConfig, IsNormalRightSplit, IsLeastRightSplit}
use Rattle.tail_laws.proofs.FirstPairs.{LeadsToLoop, looped_tail, normal_split-loop}
use Rattle.tail_laws.proofs.EndlessPairs.{LeadsToLoop-begin}
use Rattle.tail_laws.proofs.Common.{IsRightClosing-ahead, no_right_closing}

-- a normal right split with few letters
record HasShortSplit (r : LocalRule) : Type 0 where
  pub x : TailConfig
  pub y : TailConfig
  pub split : IsNormalRightSplit r x y
  pub short : length x.middle + length x.right ≤ r.width - 1 + 1 + pair_count r

-- a first pair that begins together for as long as there are pairs gives one
HasShortSplit-begins : {r : LocalRule} {p : ℕ} → IsRule r → IsFirstOfRight r p → PairGoes Right r p (pair_count r) → HasShortSplit r
HasShortSplit-begins {r} {p} rule f begins =
    let way : LeadsToLoop r p = subst (LeadsToLoop r) (pair_of-first_of r p) (LeadsToLoop-begin rule begins) in
    record {
      x = looped_tail r f.node f.a way.reach.a way.loop.a;
      y = looped_tail r f.node f.b way.reach.b way.loop.b;
      split = normal_split-loop rule f way;
      short = omega (arith, length-append (word_of r.states (r.width - 1) f.node) (f.a ∷ way.reach.a), length-word_of r.states (r.width - 1) f.node, way.reach.a_long, way.loop.a_long, way.within);
    }

-- the middle and the right period of the least right split have together at most m letters more than there are pairs
pub IsLeastRightSplit-le : {r : LocalRule} {x y : TailConfig} → IsRule r → IsLeastRightSplit r x y
    → length x.middle + length x.right ≤ r.width - 1 + 1 + pair_count r
IsLeastRightSplit-le {r} {x} {y} rule least =
    ⊎_elim
    (λ long.
    let ahead : IsRightAhead r (pair_count r + 1) = (IsRightAhead-pairs rule (pair_count r + 1)).1 (
      omega arith,
      (λ p first begins.
          let other = HasShortSplit-begins rule first (Together-endless Right rule _ _ _ (omega arith) begins (pair_count r)) in
          omega (arith, other.short, ((key_not_greater (length x.middle + length x.right) (length (other.x).middle + length (other.x).right) _).0 (least.least other.x other.y other.split)).0)),
    ) in
    absurd (no_right_closing least (IsRightClosing-ahead rule ahead)))
    (λ short. short)
    (cases_lt (r.width - 1 + 1 + pair_count r) (length x.middle + length x.right))
