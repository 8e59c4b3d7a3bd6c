-- The degree of a surjective rule: the fewest last nodes times the fewest first nodes, divided by the number of nodes.
use Rattle.std.proofs.Common.{◌≢◌, mul_comm, ◌≡◌, ℕ, ◌-◌, ◌*◌, ◌<◌, ◌≤◌, ◌↔◌, inl, inr, List, ◌++◌, length, reverse, count_ones, refl, sym, ap, ◌∙◌, subst, ⊎_elim, arith, le_of_mul-le-mul_right}
use Rattle.std.proofs.lemmas.Nat.{ones_le_self, zero_from_ones}
use Rattle.word_image.proofs.Common.{IsPreimage-nonempty_set, IsOrphan-empty_set, IsOrphan-not_surjective, cases_lt, reverse-reverse, All-append, LocalRule, IsRule, IsWord, IsSurjective, IsLastSet, IsLastNode, node_count, node_count_pos, some_letter, mirrored, IsRule-mirrored, IsWord-reverse, IsSetOf-same}
use Rattle.search_laws.proofs.Common.{LeadsToSet-some, IsLastSet-leads, some_set}
use Rattle.welch_index.specs.Fewest.{IsFirstNode, IsFewestLast}
use Rattle.welch_index.specs.Degrees.{HasCutNodes, IsDegree}
use Rattle.welch_index.proofs.Totals.{sign-most}
use Rattle.welch_index.proofs.Pulls.{over-least, over-equal}
use Rattle.welch_index.proofs.Cuts.{reads, ends, spelled, cut, cut-over, last_count, first_count, spelled-all}
use Rattle.welch_index.proofs.Bounds.{cut-least}
use Rattle.welch_index.proofs.Links.{reads-IsFirstNode, ends-IsLastNode, spelled-some}
use Rattle.welch_index.proofs.Counts.{ones-IsSetOf}
use Rattle.welch_index.proofs.Mirrored.{first_count-mirrored}

-- how many last nodes a word has
pub count_last : {r : LocalRule} {w : List ℕ} {set : ℕ} → IsRule r → IsLastSet r w set → count_ones set ≡ last_count r w
count_last {r} {w} {set} rule last = ones-IsSetOf (node_count r) set (ends r w) last.last (λ u l. sign-most _) (λ u l. ends-IsLastNode rule w u l)

-- no word has fewer last nodes than the fewest
pub fewest-last_count : {r : LocalRule} {n nodes : ℕ} {w : List ℕ} → IsRule r → IsFewestLast r n nodes w → (v : List ℕ) → IsWord r.states v → n ≤ last_count r v
fewest-last_count {r} rule fewest v word =
    let found = LeadsToSet-some r v word in
    let last = IsLastSet-leads rule found.1 in
    let least = fewest.fewest v (count_ones found.0) (record { nodes = found.0; last = last; count = refl }) in
    omega (arith, least, count_last rule last)

-- a product of two numbers that are at most 1 is 1 only if both are
pub both_of : (a b : ℕ) → a ≤ 1 → b ≤ 1 → (a * b ≤ 1) × ((0 < a * b) ↔ ((0 < a) × (0 < b)))
both_of a b la lb =
    ⊎_elim
    (λ some. let one : a * b ≡ 1 * b = ap (λ z. z * b) (omega (arith, some, la)) in (omega (arith, one, lb), ((λ more. (some, omega (arith, one, more))), (λ both. omega (arith, one, both.1)))))
    (λ none. let zeroth : a * b ≡ 0 * b = ap (λ z. z * b) (omega (arith, none)) in (omega (arith, zeroth), ((λ more. absurd (omega (arith, zeroth, more))), (λ both. absurd (omega (arith, none, both.0))))))
    (cases_lt 0 a)

-- the nodes at the cut of two words
pub cut_nodes : {r : LocalRule} → IsRule r → (u v : List ℕ) (p : ℕ) → p < node_count r → (0 < ends r u p * reads r v p) ↔ (IsLastNode r u p × IsFirstNode r v p)
cut_nodes {r} rule u v p l =
    let both = both_of (ends r u p) (reads r v p) (sign-most _) (sign-most _) in
    let last = ends-IsLastNode rule u p l in
    let first = reads-IsFirstNode rule v p l in (
      λ some. let parts = both.1.0 some in (last.0 parts.0, first.0 parts.1),
      λ parts. both.1.1 (last.1 parts.0, first.1 parts.1),
    )

-- how many nodes are at a cut
pub count_cut : {r : LocalRule} {u v : List ℕ} {n : ℕ} → IsRule r → HasCutNodes r u v n → n ≡ cut r u v
count_cut {r} {u} {v} rule has =
    sym has.count ∙ ones-IsSetOf (node_count r) has.nodes (λ p. ends r u p * reads r v p) has.both (λ p l. (both_of (ends r u p) (reads r v p) (sign-most _) (sign-most _)).0) (λ p l. cut_nodes rule u v p l)

-- the nodes at a cut are a set
pub cut_set : {r : LocalRule} → IsRule r → (u v : List ℕ) → IsWord r.states u → IsWord r.states v → HasCutNodes r u v (cut r u v)
cut_set {r} rule u v hu hv =
    let found = some_set (λ p. 0 < ends r u p * reads r v p) (λ p. ⊎_elim (λ some. inl some) (λ none. inr (λ some. omega (arith, none, some))) (cases_lt 0 (ends r u p * reads r v p))) (node_count r) in
    let both = IsSetOf-same (λ p l. cut_nodes rule u v p l) found.1 in
    record {
      nodes = found.0;
      before = hu;
      after = hv;
      both = both;
      count = ones-IsSetOf (node_count r) found.0 (λ p. ends r u p * reads r v p) both (λ p l. (both_of (ends r u p) (reads r v p) (sign-most _) (sign-most _)).0) (λ p l. cut_nodes rule u v p l);
    }

-- the degree is the fewest last nodes times the fewest first nodes, divided by the number of nodes
pub IsDegree-fewest : {r : LocalRule} {f b nodes others : ℕ} {u : List ℕ} (v : List ℕ) → IsRule r → IsSurjective r → IsFewestLast r f nodes u → IsFewestLast (mirrored r) b others (reverse v)
    → (d : ℕ) × IsDegree r d × (node_count r * d ≡ f * b) × ((z : List ℕ) → IsWord r.states z → length z ≡ r.width - 1 → HasCutNodes r u (z ++ v) d)
IsDegree-fewest {r} {f} {b} {nodes} {others} {u} v rule onto lasts firsts =
    let k = r.states in
    let n = node_count r in
    let every : (w : List ℕ) → IsWord k w → spelled r w ≡ n = spelled-all rule (λ w word. let found = onto w word in spelled-some rule w found.0 found.1) in
    let hu : IsWord k u = lasts.last.word in
    let hv : IsWord k v = subst (IsWord k) (reverse-reverse v) (IsWord-reverse k (reverse v) firsts.last.word) in
    let of_u : last_count r u ≡ f = sym (count_last rule lasts.last) ∙ lasts.count in
    let of_v : first_count r v ≡ b = first_count-mirrored rule v ∙ sym (count_last (IsRule-mirrored rule) firsts.last) ∙ firsts.count in
    let (z, hz, lz, some) = over-least k (r.width - 1) (λ z. cut r u (z ++ v)) (some_letter rule) in
    let pairs = cut-over rule u v in
    let mean : n * cut r u (z ++ v) ≤ last_count r u * first_count r v = omega (arith, some, pairs) in
    let word = All-append (λ a. a < k) z v hz hv in
    let least : (x y : List ℕ) → IsWord k x → IsWord k y → f * b ≤ n * cut r x y = λ x y hx hy.
    cut-least rule every f b (fewest-last_count rule lasts) (λ w h. let few = fewest-last_count (IsRule-mirrored rule) firsts (reverse w) (IsWord-reverse k w h) in omega (arith, few, first_count-mirrored rule w)) (cut r x y) x y hx hy (omega arith) in
    let product : last_count r u * first_count r v ≡ f * b = ap (λ y. y * first_count r v) of_u ∙ ap (λ y. f * y) of_v in
    let exact : n * cut r u (z ++ v) ≡ f * b = omega (arith, mean, product, least u (z ++ v) hu word) in (
      cut r u (z ++ v),
      record {
        before = u;
        after = z ++ v;
        attained = cut_set rule u (z ++ v) hu word;
        least = λ x y c has.
            let other = least x y has.before has.after in
            let count = count_cut rule has in
            let times : n * c ≡ n * cut r x y = ap (λ e. n * e) count in
            le_of_mul-le-mul_right {k = n} (omega (arith, other, exact, times, mul_comm n c, mul_comm n (cut r u (z ++ v)))) (node_count_pos rule);
      },
      exact,
      λ y hy ly.
          let each : (x : List ℕ) → IsWord k x → length x ≡ r.width - 1 → cut r u (z ++ v) ≤ cut r u (x ++ v) = λ x hx lx.
          let other = least u (x ++ v) hu (All-append (λ a. a < k) x v hx hv) in
          le_of_mul-le-mul_right {k = n} (omega (arith, other, exact, mul_comm n (cut r u (x ++ v)), mul_comm n (cut r u (z ++ v)))) (node_count_pos rule) in
          let same = over-equal k (r.width - 1) (cut r u (z ++ v)) (λ x. cut r u (x ++ v)) each (omega (arith, pairs, product, exact)) y hy ly in
          subst (HasCutNodes r u (y ++ v)) same (cut_set rule u (y ++ v) hu (All-append (λ a. a < k) y v hy hv)),
    )

-- there is one degree
pub IsDegree-unique : {r : LocalRule} {c d : ℕ} → IsDegree r c → IsDegree r d → c ≡ d
IsDegree-unique {r} {c} {d} first second =
    let one = first.least second.before second.after d second.attained in
    let other = second.least first.before first.after c first.attained in
    omega (arith, one, other)

-- a rule under which each word has a last node is surjective
pub IsSurjective-fewest : {r : LocalRule} {n nodes : ℕ} {w : List ℕ} → IsRule r → IsFewestLast r n nodes w → n ≢ 0 → IsSurjective r
IsSurjective-fewest {r} {n} rule fewest some v word =
    let found = LeadsToSet-some r v word in
    let last = IsLastSet-leads rule found.1 in
    IsPreimage-nonempty_set last (λ empty. some (
    let least = fewest.fewest v (count_ones found.0) (record { nodes = found.0; last = last; count = refl }) in
    omega (arith, least, ap count_ones empty, ones_le_self 0)))

-- a rule under which some word has no last node isn't surjective
pub not_surjective-fewest : {r : LocalRule} {n nodes : ℕ} {w : List ℕ} → IsFewestLast r n nodes w → n ≡ 0 → ¬ IsSurjective r
not_surjective-fewest {r} {n} {nodes} {w} fewest none =
    let empty : nodes ≡ 0 = zero_from_ones nodes (fewest.count ∙ none) in
    IsOrphan-not_surjective (IsOrphan-empty_set (subst (IsLastSet r w) empty fewest.last))
