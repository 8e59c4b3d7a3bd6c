-- The first word that windows read is found letter by letter: each time the least letter from which the rest can be read.
use Rattle.std.proofs.Common.{◌≡◌, ℕ, ◌+◌, ◌*◌, ◌^◌, ◌<◌, ◌≤◌, ◌↔◌, List, [], ◌∷◌, length, slice_index, IsBitSet, refl, sym, ap, subst, arith, ⊎_elim}
use Rattle.word_image.proofs.Common.{LocalRule, IsRule, IsWord, value, value-below, node_count, next, next-below, IsNodeSet, All-cons, All-nil, cases_lt, cases_eq, mul-le, IsBitSet-pow, IsBitSet-zero}
use Rattle.std.proofs.Math.Pow.{pow-lt}
use Rattle.moved_configs.specs.MovedRings.{Reads, Leads, LeadsInto, LeadsTo, IsLeastLetter, IsLeastReading, ReadsNone}

-- from a node whose row is empty nothing is read
pub ReadsNone-empty : (r : LocalRule) (rows : List ℕ) (u n : ℕ) → 1 ≤ n → slice_index rows u ≡ 0 → ReadsNone r rows u n
ReadsNone-empty r rows u n some empty [] long reads = absurd (omega (arith, some, long))
ReadsNone-empty r rows u n some empty (a ∷ w) long reads = IsBitSet-zero a (subst (λ s. IsBitSet s a) empty reads.1.0)

-- what is read is a word
pub IsWord-reads : (r : LocalRule) (rows : List ℕ) (u v : ℕ) (w : List ℕ) → Reads r rows u w v → IsWord r.states w
IsWord-reads r rows u v [] h = All-nil (λ a. a < r.states)
IsWord-reads r rows u v (a ∷ w) h = All-cons (λ a. a < r.states) a w h.0 (IsWord-reads r rows (next r u a) v w h.1.1)

-- a window into the nodes from which n windows lead to a node, and then these, are one window more
pub LeadsTo-more : (r : LocalRule) (rows : List ℕ) (n v set : ℕ) → IsRule r → IsNodeSet r (LeadsTo r rows n v) set → (u : ℕ)
    → (LeadsInto r rows set u ↔ LeadsTo r rows (n + 1) v u)
LeadsTo-more r rows n v set rule h u = (into, from)
  where
    into : LeadsInto r rows set u → LeadsTo r rows (n + 1) v u
    into (a, letter, (bit, has)) =
        let (w, long, reads) = (h.nodes (next r u a) (next-below rule u a)).0 bit in
        (a ∷ w, omega (arith, long), (letter, (has, reads)))

    from : LeadsTo r rows (n + 1) v u → LeadsInto r rows set u
    from ([], long, reads) = absurd (omega (arith, long))
    from (a ∷ w, long, reads) = (a, reads.0, ((h.nodes (next r u a) (next-below rule u a)).1 (w, omega (arith, long), reads.1.1), reads.1.0))

-- the least letter, and then the first word from its end, are the first word
pub IsLeastReading-more : (r : LocalRule) (rows : List ℕ) (n u v set a : ℕ) (c : List ℕ) → IsRule r → IsNodeSet r (LeadsTo r rows n v) set
    → IsLeastLetter r rows u set a → length c ≡ n
    → IsLeastReading r rows (next r u a) v c → IsLeastReading r rows u v (a ∷ c)
IsLeastReading-more r rows n u v set a c rule h least long first = record {
  reads = (least.letter, (least.leads.1, first.reads));
  least = compare;
}
  where
    compare : (q : List ℕ) → length q ≡ length (a ∷ c) → Reads r rows u q v → value r.states (a ∷ c) ≤ value r.states q
    compare [] e reads = absurd (omega (arith, e))
    compare (b ∷ q) e reads =
        let k : ℕ = r.states in
        let same : length q ≡ length c = omega (arith, e) in
        let goes : Leads r rows set u b = ((h.nodes (next r u b) (next-below rule u b)).1 (q, omega (arith, same, long), reads.1.1), reads.1.0) in
        let below : value k c < k ^ length c = value-below k c (IsWord-reads r rows (next r u a) v c first.reads) in
        let power : k ^ length q ≡ k ^ length c = ap (λ j. k ^ j) same in
        let digits : b * k ^ length q ≡ b * k ^ length c = ap (λ x. b * x) power in
        ⊎_elim (λ less. absurd (least.least b less goes))
        (λ other.
        ⊎_elim (λ equal.
        let rest : value k c ≤ value k q = first.least q same (subst (λ x. Reads r rows (next r u x) q v) (sym equal) reads.1.1) in
        let digit : a * k ^ length c ≡ b * k ^ length c = ap (λ x. x * k ^ length c) equal in
        omega (arith, rest, digit, digits))
        (λ differ.
        let more : (a + 1) * k ^ length c ≤ b * k ^ length c = mul-le (a + 1) (k ^ length c) b (k ^ length c) (omega arith) (omega arith) in
        let spread : (a + 1) * k ^ length c ≡ a * k ^ length c + k ^ length c = grind arith in
        omega (arith, more, spread, below, digits))
        (cases_eq a b))
        (cases_lt b a)

-- no window leads from a node to itself alone
pub IsNodeSet-here : (r : LocalRule) (rows : List ℕ) (v set : ℕ) → v < node_count r → set ≡ 2 ^ v → IsNodeSet r (LeadsTo r rows 0 v) set
IsNodeSet-here r rows v set node alone = record {
  within = subst (λ s. s < 2 ^ node_count r) (sym alone) (pow-lt node);
  nodes = λ u l. (
    λ bit. ([], refl, (IsBitSet-pow v u).0 (subst (λ s. IsBitSet s u) alone bit)),
    λ leads. subst (λ s. IsBitSet s u) (sym alone) ((IsBitSet-pow v u).1 (same u leads)),
  );
}
  where
    same : (u : ℕ) → LeadsTo r rows 0 v u → u ≡ v
    same u ([], long, reads) = reads
    same u (a ∷ w, long, reads) = absurd (omega (arith, long))
