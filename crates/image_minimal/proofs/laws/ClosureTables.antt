-- The closure of a set, step by step: what the unread sets that contain it, and beyond it only the first nodes, have in common.
use Rattle.std.specs.Int.Bits.{or_add_and}
use Rattle.std.specs.Int.{bit_at}
use Rattle.std.proofs.lemmas.Nat.Bits.{and_pow}
use Rattle.std.proofs.Math.Nat.{mul_assoc}
use Rattle.std.proofs.lemmas.Nat.{div-mul-add, pow-add}
use Rattle.image_minimal.proofs.Common.{◌≡◌, ◌≢◌, ℕ, suc, ◌+◌, ◌-◌, ◌*◌, ◌%◌, ◌^◌, ◌<◌, ◌≤◌, ◌⊎◌, ◌↔◌, inl, inr, List, length, set, slice_index, IsBitSet, bit_and, bit_or, refl, sym, ap, ◌∙◌, subst, arith, ⊎_elim, length-set, replicate, length-replicate, get_or-replicate, Contains-slice_get, slice_get-Contains, slice_get-get_or, slice_get_within, get_or_from_slice_get, AreUnreadSets, one_shl, mul-le-mul_right, mul_comm, suc-mul, pow_pos, ⊎_map, cases_eq, cases_lt, and_le_l, LocalRule, node_count, full_set, IsBitSet-or, IsBitSet-pow, IsBitSet-full, IsBitSet-decide, bit_at-IsBitSet, bit_at-lt, shr_and_one, IsBitSet-and, same_set, IsUnreadSet, IsPartClosure, ArePartClosures, AreClosures, each-set}
use Rattle.image_minimal.proofs.laws.Unread.{IsUnreadSet-below}

-- a set with one node more
abbrev pub with_node : ℕ → ℕ → ℕ
with_node set u = bit_or set (2 ^ u)

-- a set with one node more has that node, and those of the set
pub IsBitSet-with : (set u v : ℕ) → IsBitSet (with_node set u) v ↔ (IsBitSet set v ⊎ (v ≡ u))
IsBitSet-with set u v = grind (arith, IsBitSet-or, IsBitSet-pow, ⊎_map)

-- an unread set is what it has in common with itself
pub IsPartClosure-unread : {r : LocalRule} {set : ℕ} → IsUnreadSet r set → IsPartClosure r 0 set set
IsPartClosure-unread {r} {set} is = record {
  of = record { within = IsUnreadSet-below is; nodes = λ u l. ((λ some unread _ within _. within u l some), (λ all. all set is (λ v _ there. there) (λ v _ _ there. there))) };
}

-- of a set that isn't unread there is no such set
pub IsPartClosure-read : {r : LocalRule} {set : ℕ} → set < 2 ^ node_count r → ¬ IsUnreadSet r set → IsPartClosure r 0 set (full_set r)
IsPartClosure-read {r} {set} small read = record {
  of = record {
    within = omega (arith, pow_pos (node_count r));
    nodes = λ u l. (
      (λ _ unread is within from.
          let same : unread ≡ set = same_set (node_count r) unread set (IsUnreadSet-below is) small (λ v below. (from v (omega arith) below, within v below)) in
          absurd (read (subst (IsUnreadSet r) same is))),
      (λ _. IsBitSet-full r u l),
    );
  };
}

-- a set that has the next node
pub IsPartClosure-there : {r : LocalRule} {n set part : ℕ} → IsBitSet set n → IsPartClosure r n set part → IsPartClosure r (n + 1) set part
IsPartClosure-there {r} {n} {set} {part} there h = record {
  of = record {
    within = h.of.within;
    nodes = λ u l. (
      (λ some unread is within from. (h.of.nodes u l).0 some unread is within (λ v least below also.
          ⊎_elim (λ same. rw same there) (λ other. from v (omega (arith, least, other)) below also) (cases_eq v n))),
      (λ all. (h.of.nodes u l).1 (λ unread is within from. all unread is within (λ v least below also. from v (omega (arith, least)) below also))),
    );
  };
}

-- a set that lacks the next node takes what the set with that node has
pub IsPartClosure-lacking : {r : LocalRule} {n set part more : ℕ} → ¬ IsBitSet set n → IsPartClosure r n set part
    → IsPartClosure r n (with_node set n) more
    → IsPartClosure r (n + 1) set (bit_and part more)
IsPartClosure-lacking {r} {n} {set} {part} {more} missing h g = record {
  of = record {
    within = omega (arith, and_le_l part more, h.of.within);
    nodes = λ u l. (
      (λ some unread is within from.
          let both = (IsBitSet-and part more u).0 some in
          ⊎_elim
          (λ has. (g.of.nodes u l).0 both.1 unread is
          (λ v below in_more. ⊎_elim (λ old. within v below old) (λ same. rw same has) ((IsBitSet-with set n v).0 in_more))
          (λ v least below also. (IsBitSet-with set n v).1 (⊎_elim (λ same. inr same) (λ other. inl (from v (omega (arith, least, other)) below also)) (cases_eq v n))))
          (λ lacks. (h.of.nodes u l).0 both.0 unread is within
          (λ v least below also. ⊎_elim (λ same. absurd (lacks (subst (IsBitSet unread) same also))) (λ other. from v (omega (arith, least, other)) below also) (cases_eq v n)))
          (IsBitSet-decide unread n)),
      (λ all. (IsBitSet-and part more u).1 (
        (h.of.nodes u l).1 (λ unread is within from. all unread is within (λ v least below also. from v (omega (arith, least)) below also)),
        (g.of.nodes u l).1 (λ unread is within from. all unread is
            (λ v below there. within v below ((IsBitSet-with set n v).1 (inl there)))
            (λ v least below also. ⊎_elim (λ old. old) (λ same. absurd (omega (arith, same, least))) ((IsBitSet-with set n v).0 (from v (omega (arith, least)) below also)))),
      )),
    );
  };
}

-- after all nodes it is the closure
pub AreClosures-parts : {r : LocalRule} {closures : List ℕ} → ArePartClosures r (node_count r) 0 closures → AreClosures r closures
AreClosures-parts {r} h = record {
  long = h.long;
  closure = λ set small.
      let part = (h.rest set (omega arith) small).of in
      record {
        of = record {
          within = part.within;
          nodes = λ u l. (
            (λ some unread is within. (part.nodes u l).0 some unread is within (λ v least below _. absurd (omega (arith, least, below)))),
            (λ all. (part.nodes u l).1 (λ unread is within _. all unread is within)),
          );
        };
      };
}

-- the sets of a block: the first half lacks the node, and the set with it is as far on as the half is long
pub bit_at-block : (block u i : ℕ) → i < 2 ^ u → bit_at (block * 2 ^ u + i) u ≡ block % 2
bit_at-block block u i less = grind (arith, shr_and_one, div-mul-add)

-- the first sets of the list are at their places, and every other place has all nodes
pub record AreStarts (r : LocalRule) (sets : List ℕ) (count : ℕ) (closures : List ℕ) : Type 0 where
  pub long : length closures ≡ 2 ^ node_count r
  pub each : (set : ℕ) → set < 2 ^ node_count r
      → ((slice_index closures set ≡ set) × ((i : ℕ) × (i < count) × (slice_index sets i ≡ set)))
      ⊎ ((slice_index closures set ≡ full_set r) × ((i : ℕ) → i < count → slice_index sets i ≢ set))

-- one set more
pub AreStarts-set : {r : LocalRule} {sets closures : List ℕ} {count s : ℕ} → AreStarts r sets count closures → s ≡ slice_index sets count → s < 2 ^ node_count r
    → AreStarts r sets (count + 1) (set closures s s)
AreStarts-set {r} {sets} {closures} {count} {s} h is small =
    let Good : ℕ → ℕ → Type 0 = λ x c. ((c ≡ x) × ((i : ℕ) × (i < count + 1) × (slice_index sets i ≡ x))) ⊎ ((c ≡ full_set r) × ((i : ℕ) → i < count + 1 → slice_index sets i ≢ x)) in
    let before : (x : ℕ) → x < length closures → x ≢ s → Good x (slice_index closures x) = λ x l other.
    ⊎_elim
    (λ (same, (i, less, there)). inl (same, (i, omega (arith, less), there)))
    (λ (full, none). inr (full, (λ i less at. ⊎_elim (λ last. other (sym at ∙ ap (slice_index sets) last ∙ sym is)) (λ not. none i (omega (arith, less, not)) at) (cases_eq i count))))
    (h.each x (omega (arith, h.long, l))) in
    record {
      long = length-set closures s s ∙ h.long;
      each = λ x l. each-set Good closures s 0 s (omega (arith, h.long, small)) before (inl (refl, (count, omega arith, sym is))) x (omega (arith, h.long, length-set closures s s, l));
    }

-- one block more
pub whole_blocks : (block size : ℕ) → (block + 1) * size ≡ block * size + size
whole_blocks block size = let more : block + 1 ≡ suc block = omega arith in ap (λ x. x * size) more ∙ suc-mul block size

-- the blocks are the whole list
blocks_whole : (n u : ℕ) → u < n → 2 ^ n ≡ 2 ^ (n - 1 - u) * (2 * 2 ^ u)
blocks_whole n u node = ap (λ e. 2 ^ e) (omega (arith, node)) ∙ pow-add 2 (n - 1 - u) (u + 1) ∙ ap (λ p. 2 ^ (n - 1 - u) * p) (omega (arith, pow-add 2 u 1))

-- each block is within the list
pub block-within : (n u block : ℕ) → u < n → block < 2 ^ (n - 1 - u) → (block + 1) * (2 * 2 ^ u) ≤ 2 ^ n
block-within n u block node less =
    let fits : block + 1 ≤ 2 ^ (n - 1 - u) = omega (arith, less) in
    omega (arith, mul-le-mul_right (2 * 2 ^ u) fits, blocks_whole n u node)

-- so many blocks reach its end
pub blocks-all : (n u block : ℕ) → u < n → 2 ^ (n - 1 - u) ≤ block → 2 ^ n ≤ block * (2 * 2 ^ u)
blocks-all n u block node all = omega (arith, mul-le-mul_right (2 * 2 ^ u) all, blocks_whole n u node)

-- what the code reads is in the list
pub half-within : (n u block s : ℕ) → n ≤ 16 → u < n → block < 1 * 2 ^ (n - 1 - u) % 2 ^ 64
    → s < block * (2 * (1 * 2 ^ u % 2 ^ 64)) + 1 * 2 ^ u % 2 ^ 64
    → s + 1 * 2 ^ u % 2 ^ 64 < 2 ^ n
half-within n u block s most node less half =
    let step = one_shl u 64 (omega (arith, most, node)) in
    let count = one_shl (n - 1 - u) 64 (omega (arith, most)) in
    let below : s < block * (2 * 2 ^ u) + 2 ^ u = subst (λ p. s < block * (2 * p) + p) step half in
    let fits : block < 2 ^ (n - 1 - u) = subst (λ p. block < p) count less in
    let inside : s + 2 ^ u < 2 ^ n = omega (arith, below, whole_blocks block (2 * 2 ^ u), block-within n u block node fits) in
    subst (λ p. s + p < 2 ^ n) (sym step) inside

-- the first half of a block lacks the node
pub lacks-first_half : (block u i : ℕ) → i < 2 ^ u → ¬ IsBitSet (block * (2 * 2 ^ u) + i) u
lacks-first_half block u i less some =
    let one = (bit_at-IsBitSet (block * (2 * 2 ^ u) + i) u).0 some in
    let same : block * (2 * 2 ^ u) + i ≡ 2 * block * 2 ^ u + i = ap (λ x. x + i) (sym (mul_assoc block 2 (2 ^ u)) ∙ ap (λ x. x * 2 ^ u) (mul_comm block 2)) in
    omega (arith, one, ap (λ x. bit_at x u) same, bit_at-block (2 * block) u i less)

-- the second half has it
pub has-second_half : (block u i : ℕ) → i < 2 ^ u → IsBitSet (block * (2 * 2 ^ u) + 2 ^ u + i) u
has-second_half block u i less =
    let same : block * (2 * 2 ^ u) + 2 ^ u ≡ (2 * block + 1) * 2 ^ u = ap (λ x. x + 2 ^ u) (sym (mul_assoc block 2 (2 ^ u)) ∙ ap (λ x. x * 2 ^ u) (mul_comm block 2)) ∙ sym (whole_blocks (2 * block) (2 ^ u)) in
    (bit_at-IsBitSet (block * (2 * 2 ^ u) + 2 ^ u + i) u).1 (ap (λ x. bit_at (x + i) u) same ∙ bit_at-block (2 * block + 1) u i less ∙ omega arith)

-- where a set lacks the node, it has this number with it
pub with_node-sum : (set u : ℕ) → ¬ IsBitSet set u → with_node set u ≡ set + 2 ^ u
with_node-sum set u missing =
    let other : bit_at set u ≢ 1 = λ one. missing ((bit_at-IsBitSet set u).1 one) in
    let zero : bit_at set u ≡ 0 = omega (arith, bit_at-lt set u, other) in
    omega (arith, or_add_and set (2 ^ u), and_pow set u ∙ ap (λ x. x * 2 ^ u) zero)

-- one set more
pub ArePartClosures-set : {r : LocalRule} {n s : ℕ} {parts : List ℕ} → ArePartClosures r n s parts → s + 2 ^ n < 2 ^ node_count r → ¬ IsBitSet s n
    → ArePartClosures r n (s + 1) (set parts s (bit_and (slice_index parts s) (slice_index parts (s + 2 ^ n))))
ArePartClosures-set {r} {n} {s} {parts} h inside missing =
    let positive = pow_pos n in
    let small : s < 2 ^ node_count r = omega (arith, inside) in
    let both : ℕ = bit_and (slice_index parts s) (slice_index parts (s + 2 ^ n)) in
    let more : IsPartClosure r n (with_node s n) (slice_index parts (s + 2 ^ n)) = rw (with_node-sum s n missing) (h.rest (s + 2 ^ n) (omega arith) inside) in
    let here : IsPartClosure r (n + 1) s both = IsPartClosure-lacking missing (h.rest s (omega arith) small) more in
    let long = length-set parts s both in
    let at : s < length parts = omega (arith, h.long, small) in
    record {
      long = long ∙ h.long;
      first = λ x less l. each-set (λ x c. x < s + 1 → IsPartClosure r (n + 1) x c) parts s 0 both at (λ x k other less. h.first x (omega (arith, less, other)) (omega (arith, h.long, k)))
          (λ _. here) x (omega (arith, long, h.long, l)) less;
      rest = λ x least l. each-set (λ x c. s + 1 ≤ x → IsPartClosure r n x c) parts s 0 both at (λ x k other least. h.rest x (omega (arith, least)) (omega (arith, h.long, k)))
          (λ bad. absurd (omega (arith, bad))) x (omega (arith, long, h.long, l)) least;
    }

-- sets that have the node are as they should be
pub ArePartClosures-skip : {r : LocalRule} {n d e : ℕ} {parts : List ℕ} → ArePartClosures r n d parts → d ≤ e
    → ((s : ℕ) → d ≤ s → s < e → IsBitSet s n)
    → ArePartClosures r n e parts
ArePartClosures-skip {r} {n} {d} {e} {parts} h le have = record {
  long = h.long;
  first = λ x less l. ⊎_elim (λ early. h.first x early l) (λ late. IsPartClosure-there (have x (omega (arith, late)) less) (h.rest x (omega (arith, late)) l)) (cases_lt x d);
  rest = λ x least l. h.rest x (omega (arith, le, least)) l;
}

-- where all sets are done, the next node comes
pub ArePartClosures-next : {r : LocalRule} {n d : ℕ} {parts : List ℕ} → ArePartClosures r n d parts → 2 ^ node_count r ≤ d
    → ArePartClosures r (n + 1) 0 parts
ArePartClosures-next h all = record { long = h.long; first = λ x less l. absurd (omega (arith, less)); rest = λ x _ l. h.first x (omega (arith, l, all)) l }

-- what is in the list of the unread sets is unread
pub unread_at : {r : LocalRule} (sets : List ℕ) → AreUnreadSets r sets → (i : ℕ) → i < length sets → IsUnreadSet r (slice_index sets i)
unread_at {r} sets h i l = (h (slice_index sets i)).0 (Contains-slice_get sets i (slice_index sets i) (slice_get-get_or sets i 0 l))

-- at the beginning all places have all nodes
pub AreStarts-first : {r : LocalRule} {sets closures : List ℕ} → closures ≡ replicate (2 ^ node_count r) (full_set r) → AreStarts r sets 0 closures
AreStarts-first {r} {sets} {closures} same = record {
  long = ap length same ∙ length-replicate (2 ^ node_count r) (full_set r);
  each = λ set l. inr (ap (λ c. slice_index c set) same ∙ get_or-replicate (2 ^ node_count r) set (full_set r) 0 l, (λ i less. absurd (omega (arith, less))));
}

-- where all unread sets are at their places, the nodes begin
pub ArePartClosures-starts : {r : LocalRule} {sets closures : List ℕ} {count : ℕ} → AreUnreadSets r sets → AreStarts r sets count closures → count ≡ length sets
    → ArePartClosures r 0 0 closures
ArePartClosures-starts {r} {sets} {closures} {count} unread h all = record {
  long = h.long;
  first = λ x less l. absurd (omega (arith, less));
  rest = λ x _ l. ⊎_elim
      (λ (same, (i, less, there)). rw same (IsPartClosure-unread (subst (IsUnreadSet r) there (unread_at sets unread i (omega (arith, less, all))))))
      (λ (full, none). rw full (IsPartClosure-read l (λ is.
      let (i, there) = slice_get-Contains sets x ((unread x).1 is) in
      none i (omega (arith, all, slice_get_within sets i x there)) (get_or_from_slice_get sets i x 0 there))))
      (h.each x l);
}
