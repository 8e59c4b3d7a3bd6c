-- The mirrored rule has the same degree, and its last nodes are first nodes of the rule.
use Rattle.std.proofs.Common.{◌≡◌, mul_comm, ℕ, ◌*◌, ◌<◌, ◌↔◌, List, reverse, refl, sym, ap, ap₂, ◌∙◌, subst, subst₂}
use Rattle.word_image.proofs.Common.{reverse-reverse, LocalRule, IsRule, node_count, mirrored, IsRule-mirrored, IsWord-reverse, mirrored-mirrored}
use Rattle.pair_laws.proofs.Mirrors.{mirror_node, mirror_node-below, mirror_node-mirror_node}
use Rattle.welch_index.specs.Degrees.{HasCutNodes, IsDegree}
use Rattle.welch_index.proofs.Totals.{total-same}
use Rattle.welch_index.proofs.Counts.{total-renamed}
use Rattle.welch_index.proofs.Cuts.{reads, ends, cut}
use Rattle.welch_index.proofs.Mirrored.{reads-mirrored}
use Rattle.welch_index.proofs.Products.{count_cut, cut_set}

-- a node ends a word under a rule if the mirrored node begins the mirrored word under the mirrored rule
ends-mirrored : {r : LocalRule} → IsRule r → (w : List ℕ) (u : ℕ) → u < node_count r → ends r w u ≡ reads (mirrored r) (reverse w) (mirror_node r u)
ends-mirrored {r} rule w u l =
    let m = mirror_node r u in
    let back = reads-mirrored (IsRule-mirrored rule) (reverse w) m (mirror_node-below r u l) in
    sym (back ∙ subst₂ (λ (q : LocalRule) (z : List ℕ). ends (mirrored (mirrored r)) (reverse (reverse w)) (mirror_node r m) ≡ ends q z (mirror_node r m)) (mirrored-mirrored rule) (reverse-reverse w) refl
    ∙ ap (ends r w) (mirror_node-mirror_node r u l))

-- as many nodes are at the cut of two words as at the cut of the mirrored words
cut-mirrored : {r : LocalRule} → IsRule r → (u v : List ℕ) → cut r u v ≡ cut (mirrored r) (reverse v) (reverse u)
cut-mirrored {r} rule u v =
    let other : ℕ → ℕ = λ p. ends (mirrored r) (reverse v) p * reads (mirrored r) (reverse u) p in
    total-same (λ p. ends r u p * reads r v p) (λ p. other (mirror_node r p)) (node_count r)
    (λ p l. ap₂ (λ (a b : ℕ). a * b) (ends-mirrored rule u p l) (reads-mirrored rule v p l) ∙ mul_comm (reads (mirrored r) (reverse u) (mirror_node r p)) (ends (mirrored r) (reverse v) (mirror_node r p)))
    ∙ total-renamed (node_count r) other (mirror_node r) (mirror_node-below r) (mirror_node-mirror_node r)

HasCutNodes-mirrored : {r : LocalRule} {u v : List ℕ} {n : ℕ} → IsRule r → HasCutNodes r u v n → HasCutNodes (mirrored r) (reverse v) (reverse u) n
HasCutNodes-mirrored {r} {u} {v} rule h =
    subst (HasCutNodes (mirrored r) (reverse v) (reverse u)) (sym (count_cut rule h ∙ cut-mirrored rule u v))
    (cut_set (IsRule-mirrored rule) (reverse v) (reverse u) (IsWord-reverse r.states v h.after) (IsWord-reverse r.states u h.before))

HasCutNodes-unmirrored : {r : LocalRule} {u v : List ℕ} {n : ℕ} → IsRule r → HasCutNodes (mirrored r) u v n → HasCutNodes r (reverse v) (reverse u) n
HasCutNodes-unmirrored {r} {u} {v} {n} rule h = subst (λ (q : LocalRule). HasCutNodes q (reverse v) (reverse u) n) (mirrored-mirrored rule) (HasCutNodes-mirrored (IsRule-mirrored rule) h)

IsDegree-mirror : {r : LocalRule} {d : ℕ} → IsRule r → IsDegree r d → IsDegree (mirrored r) d
IsDegree-mirror rule h =
    record {
      before = reverse h.after;
      after = reverse h.before;
      attained = HasCutNodes-mirrored rule h.attained;
      least = λ u v n has. h.least (reverse v) (reverse u) n (HasCutNodes-unmirrored rule has);
    }

-- a rule and its mirrored rule have the same degree
pub IsDegree-mirrored : {r : LocalRule} {d : ℕ} → IsRule r → IsDegree r d ↔ IsDegree (mirrored r) d
IsDegree-mirrored {r} {d} rule = (
  IsDegree-mirror rule,
  λ h. subst (λ (q : LocalRule). IsDegree q d) (mirrored-mirrored rule) (IsDegree-mirror (IsRule-mirrored rule) h),
)
