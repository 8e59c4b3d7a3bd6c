-- The first possible shape is found key by key, and the first gap side by side.
use Rattle.std.proofs.Common.{◌≡◌, ◌↔◌, ℕ, ◌+◌, ◌-◌, ◌<◌, ◌≤◌, IsBitSet, refl, sym, arith, ⊎_elim, nat_cmp}
use Rattle.word_image.proofs.Common.{ordering_then, cases_lt, LocalRule, node_count, IsNodeSet, HasBit, nat_cmp-le, key_not_greater}
use Rattle.pair_laws.proofs.Common.{IsBitSet-below}
use Rattle.tail_config.proofs.Common.{TailConfig}
use Rattle.tail_preimage.specs.Preimages.{Shape}
use Rattle.tail_preimage.specs.Relations.{Open, Rounds, SomeRounds, Meets, IsFirst}
use Rattle.tail_preimage.specs.Parts.{AreTailParts, Through, IsFirstShape}
use Rattle.tail_preimage.specs.declared.shapes.PartRelations.{PartRelations}
use Rattle.tail_preimage.proofs.laws.Steps.{exact_rounds, Open-rounds}
use Rattle.tail_preimage.proofs.laws.Parts.{ArePeriods-end}

-- the first number of which something holds is no greater than another
pub IsFirst-le : (P : ℕ → Type 0) (n i : ℕ) → IsFirst P n → P i → n ≤ i
IsFirst-le P n i h holds = ⊎_elim (λ less. absurd (h.none i less holds)) (λ l. l) (cases_lt i n)

-- the middle leads from a node of P to one of Q exactly where one of P is a node from which the middle leads into the set of Q
pub Through-before : {Q : ℕ → Type 0} {set rears : ℕ} → (r : LocalRule) (parts : PartRelations) (P : ℕ → Type 0) → IsNodeSet r Q set
    → IsNodeSet r (λ v. (w : ℕ) × HasBit parts.middle v w × IsBitSet set w) rears → Meets r P rears ↔ Through r parts P Q
Through-before {set = set} r parts P h g = grind (arith, IsBitSet-below)

-- a set meets the nodes to which the middle leads from a set exactly where something leads through
pub Through-behind : {P : ℕ → Type 0} {set fronts : ℕ} → (r : LocalRule) (parts : PartRelations) (Q : ℕ → Type 0) → IsNodeSet r P set
    → IsNodeSet r (λ w. (v : ℕ) × (v < node_count r) × (IsBitSet set v × HasBit parts.middle v w)) fronts → Meets r Q fronts ↔ Through r parts P Q
Through-behind r parts Q h g = grind arith

-- what the four keys of the first shape are: walks have them, and each in turn is the least
pub record AreFirstKeys (r : LocalRule) (parts : PartRelations) (left right before after : ℕ) : Type 0 where
  pub left_few : left ≤ 16
  pub right_few : right ≤ 16
  pub before_less : before < left
  pub after_less : after < right
  pub holds : Through r parts (Rounds (HasBit parts.left.period) before (left - before)) (Rounds (HasBit parts.right.period) after (right - after))
  pub left_least : (n : ℕ) → Through r parts (SomeRounds (HasBit parts.left.period) n) (Open (HasBit parts.right.period) 16) → left ≤ n
  pub right_least : (n : ℕ) → Through r parts (SomeRounds (HasBit parts.left.period) left) (SomeRounds (HasBit parts.right.period) n) → right ≤ n
  pub before_least : (n : ℕ) → Through r parts (Rounds (HasBit parts.left.period) n (left - n)) (SomeRounds (HasBit parts.right.period) right)
      → before ≤ n
  pub after_least : (n : ℕ)
      → Through r parts (Rounds (HasBit parts.left.period) before (left - before)) (Rounds (HasBit parts.right.period) n (right - n)) → after ≤ n

-- the first keys of both sides are those of the first shape
pub IsFirstShape-keys : {r : LocalRule} {t : TailConfig} {parts : PartRelations} → AreTailParts r t parts → (left right before after : ℕ)
    → AreFirstKeys r parts left right before after
    → IsFirstShape r parts (record { before = before; back = left - before; after = after; on = right - after })
IsFirstShape-keys {r} {t} {parts} h left right before after keys =
    let A : ℕ → ℕ → Type 0 = HasBit parts.left.period in
    let C : ℕ → ℕ → Type 0 = HasBit parts.right.period in
    let s : Shape = record { before = before; back = left - before; after = after; on = right - after } in
    record {
      possible =
          let (v, w, v_node, w_node, (n, lefts, turn), row, behind) = keys.holds in
          record { back_some = omega arith; on_some = omega arith; node = n; below = ArePeriods-end h.left_periods v_node lefts; starts = (turn, (v, v_node, lefts, (w, w_node, row, behind))) };
      small = record { left = omega (arith, keys.left_few); right = omega (arith, keys.right_few) };
      least = λ u possible.
          let (turn, (v, v_node, lefts, (w, w_node, row, behind))) = possible.starts in
          let rounds : Rounds A u.before u.back v = (possible.node, lefts, turn) in
          let first = keys.left_least (u.back + u.before) (v, w, v_node, w_node, (u.before, u.back, omega arith, possible.back_some, rounds), row, Open-rounds C u.after u.on w possible.on_some behind 16) in
          (key_not_greater (s.back + s.before) (u.back + u.before) (ordering_then (nat_cmp (s.on + s.after) (u.on + u.after)) (ordering_then (nat_cmp before u.before) (nat_cmp after u.after)))).1 (
            omega (arith, first),
            λ e.
                let left_sum : u.before + u.back ≡ left = omega (arith, e) in
                let second = keys.right_least (u.on + u.after) (v, w, v_node, w_node, (u.before, u.back, left_sum, possible.back_some, rounds), row, (u.after, u.on, omega arith, possible.on_some, behind)) in
                (key_not_greater (s.on + s.after) (u.on + u.after) (ordering_then (nat_cmp before u.before) (nat_cmp after u.after))).1 (
                  omega (arith, second),
                  λ f.
                      let right_sum : u.after + u.on ≡ right = omega (arith, f) in
                      (key_not_greater before u.before (nat_cmp after u.after)).1 (
                        keys.before_least u.before (v, w, v_node, w_node, exact_rounds A u.before u.before u.back left v refl left_sum rounds, row, (u.after, u.on, right_sum, possible.on_some, behind)),
                        λ g.
                            nat_cmp-le after u.after
                            (keys.after_least u.after (v, w, v_node, w_node, exact_rounds A u.before before u.back left v (sym g) left_sum rounds, row, exact_rounds C u.after u.after u.on right w refl right_sum behind)),
                      ),
                ),
          );
    }
