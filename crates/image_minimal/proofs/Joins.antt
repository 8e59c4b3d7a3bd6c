-- Ways from parent to parent: what halving them keeps, and what joining two roots does.
use Rattle.image_minimal.proofs.Common.{◌≡◌, ◌≢◌, ℕ, ◌<◌, ◌≤◌, ◌⊎◌, List, length, set, slice_index, Bool, true, false, true≢false, sym, ap, ◌∙◌, arith, ⊎_elim, length-set, AreColours, IsFalling, IsOnWay, IsJoin, range_with_len, get_or-range_with_len, length-range_with_len, each-set}
use Rattle.image_minimal.proofs.laws.ClassCounts.{class_count-lower, class_count-root}

-- each of the numbers is its own parent
pub IsFalling-numbers : (n : ℕ) → IsFalling (range_with_len 0 n)
IsFalling-numbers n x l = omega (arith, get_or-range_with_len 0 n x 0 (omega (arith, l, length-range_with_len 0 n)))

-- a number that is no root leads to the parent of its parent, and the way goes on from there
pub IsOnWay-next : {old new : List ℕ} {number at : ℕ} → IsOnWay old new number at → number < length old → slice_index new at ≢ at
    → IsOnWay old (set new at (slice_index new (slice_index new at))) number (slice_index new (slice_index new at))
IsOnWay-next {old} {new} {number} {at} way inside no_root =
    let h = way.halved in
    let parent = slice_index new at in
    let above = slice_index new parent in
    let room : at < length new = omega (arith, h.long, way.within) in
    let below : parent ≤ at = h.falling at room in
    let lower : above ≤ parent = h.falling parent (omega arith) in
    let less : above < at = omega (arith, lower, below, (λ (same : parent ≡ at). no_root same)) in
    let one : (f : ℕ → Bool) → AreColours old f → f above ≡ f at = λ f of. h.colours f of parent (omega arith) ∙ h.colours f of at room in
    record {
      halved = record {
        long = length-set new at above ∙ h.long;
        falling = each-set (λ x up. up ≤ x) new at 0 above room (λ x l _. h.falling x l) (omega arith);
        colours = λ f of. each-set (λ x up. f up ≡ f x) new at 0 above room (λ x l _. h.colours f of x l) (one f of);
        roots = λ x l root. each-set (λ y up. slice_index old y ≡ y → up ≡ y) new at 0 above room (λ y k _. h.roots y (omega (arith, h.long)))
            (λ root. absurd (no_root (h.roots at (omega (arith, h.long)) root))) x (omega (arith, h.long, length-set new at above)) root;
        no_more = omega (arith, class_count-lower new at above room less, h.no_more);
      };
      within = omega (arith, way.within);
      one = λ f of. way.one f of ∙ sym (one f of);
    }

-- two numbers that lead to one root
pub IsJoin-one : {old middle new : List ℕ} {x y a b : ℕ} → IsOnWay old middle x a → IsOnWay middle new y b → a ≡ b → IsJoin old new x y false
IsJoin-one first second same = record {
  long = second.halved.long ∙ first.halved.long;
  one = λ f of _. first.one f of ∙ ap f same ∙ sym (second.one f (first.halved.colours f of));
  colours = λ f of _. second.halved.colours f (first.halved.colours f of);
  fewer = omega (arith, first.halved.no_more, second.halved.no_more);
}

-- of two different roots the greater one is led to the lesser one
pub IsJoin-roots : {old middle new : List ℕ} {x y a b : ℕ} → IsOnWay old middle x a → IsOnWay middle new y b → x < length old → y < length old
    → slice_index middle a ≡ a → slice_index new b ≡ b
    → (high low : ℕ) → low < high → ((high ≡ b) × (low ≡ a)) ⊎ ((high ≡ a) × (low ≡ b)) → IsJoin old (set new high low) x y true
IsJoin-roots {old} {middle} {new} {a = a} {b = b} first second inside also root_a root_b high low less which =
    let still : slice_index new a ≡ a = second.halved.roots a (omega (arith, first.within, first.halved.long)) root_a in
    let high_is : (high < length new) × (slice_index new high ≡ high) = grind arith in
    record {
      long = length-set new high low ∙ second.halved.long ∙ first.halved.long;
      one = λ f of never. absurd (true≢false never);
      colours = λ f of same.
          let mid = first.halved.colours f of in
          let one = first.one f of in
          let two = second.one f mid in
          each-set (λ i up. f up ≡ f i) new high 0 low high_is.0 (λ i l _. second.halved.colours f mid i l) (⊎_elim (λ (p, q). cc) (λ (p, q). cc) which);
      fewer = omega (arith, class_count-root new high low high_is.0 high_is.1 less, first.halved.no_more, second.halved.no_more);
    }
