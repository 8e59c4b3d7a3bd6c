-- The fewest first nodes that a word has under a rule are the fewest last nodes under the mirrored rule.
use Rattle.std.proofs.Common.{◌≡◌, ◌≢◌, ℕ, ◌<◌, ◌≤◌, inl, inr, List, reverse, count_ones, IsBitSet, refl, sym, ◌∙◌, subst, ⊎_elim, arith, Greater}
use Rattle.word_image.proofs.Common.{cases_lt, word_cmp, reverse-reverse, LocalRule, IsRule, IsWord, node_count, mirrored, IsLastSet, IsRule-mirrored, IsWord-reverse, IsSetOf-same}
use Rattle.word_image.specs.Graphs.{IsNodeSet}
use Rattle.search_laws.proofs.Common.{LeadsToSet-some, IsLastSet-leads, some_set}
use Rattle.pair_laws.proofs.Mirrors.{mirror_node, mirror_node-below}
use Rattle.welch_index.specs.Fewest.{IsFirstSet, HasLastNodes, HasFirstNodes, IsFewestLast, IsFewestFirst}
use Rattle.welch_index.proofs.Totals.{sign-most}
use Rattle.welch_index.proofs.Cuts.{reads, first_count}
use Rattle.welch_index.proofs.Links.{reads-IsFirstNode}
use Rattle.welch_index.proofs.Counts.{ones-IsSetOf}
use Rattle.welch_index.proofs.Mirrored.{IsLastNode-first, IsFirstNode-last, first_count-mirrored}
use Rattle.welch_index.proofs.Products.{count_last}

-- how many first nodes a word has
pub count_first : {r : LocalRule} {w : List ℕ} {set : ℕ} → IsRule r → IsFirstSet r w set → count_ones set ≡ first_count r w
count_first {r} {w} {set} rule h = ones-IsSetOf (node_count r) set (reads r w) h.first (λ u l. sign-most _) (λ u l. reads-IsFirstNode rule w u l)

-- the first nodes of a word are a set
first_set : {r : LocalRule} → IsRule r → (v : List ℕ) → IsWord r.states v → (set : ℕ) × IsFirstSet r v set
first_set {r} rule v word =
    let found = some_set (λ u. 0 < reads r v u) (λ u. ⊎_elim (λ some. inl some) (λ none. inr (λ some. omega (arith, none, some))) (cases_lt 0 (reads r v u))) (node_count r) in
    (found.0, record { word = word; first = IsSetOf-same (λ u l. reads-IsFirstNode rule v u l) found.1 })

-- no word has fewer first nodes than the fewest
pub fewest-first_count : {r : LocalRule} {n nodes : ℕ} {w : List ℕ} → IsRule r → IsFewestFirst r n nodes w → (v : List ℕ) → IsWord r.states v → n ≤ first_count r v
fewest-first_count rule fewest v word =
    let (set, first) = first_set rule v word in
    omega (arith, fewest.fewest v (count_ones set) (record { nodes = set; first = first; count = refl }), count_first rule first)

-- a word has as many first nodes as the mirrored word has last nodes
HasFirstNodes-last : {r : LocalRule} {w : List ℕ} {n : ℕ} → IsRule r → HasLastNodes (mirrored r) w n → HasFirstNodes r (reverse w) n
HasFirstNodes-last {r} {w} {n} rule h =
    let v = reverse w in
    let found = first_set rule v (IsWord-reverse r.states w h.last.word) in
    record {
      nodes = found.0;
      first = found.1;
      count = subst (λ z. count_ones found.0 ≡ z) h.count
          (count_first rule found.1 ∙ first_count-mirrored rule v ∙ sym (count_last (IsRule-mirrored rule) (subst (λ z. IsLastSet (mirrored r) z h.nodes) (sym (reverse-reverse w)) h.last)));
    }

-- the mirrored word has as many last nodes as a word has first nodes
HasLastNodes-first : {r : LocalRule} {w : List ℕ} {n : ℕ} → IsRule r → HasFirstNodes r w n → HasLastNodes (mirrored r) (reverse w) n
HasLastNodes-first {r} {w} {n} rule h =
    let found = LeadsToSet-some (mirrored r) (reverse w) (IsWord-reverse r.states w h.first.word) in
    let last = IsLastSet-leads (IsRule-mirrored rule) found.1 in
    record { nodes = found.0; last = last; count = count_last (IsRule-mirrored rule) last ∙ sym (first_count-mirrored rule w) ∙ sym (count_first rule h.first) ∙ h.count }

-- the fewest first nodes are the fewest last nodes under the mirrored rule
pub IsFewestLast-first : {r : LocalRule} {n nodes : ℕ} {w : List ℕ} → IsRule r → IsFewestFirst r n nodes w → (set : ℕ) × IsFewestLast (mirrored r) n set (reverse w)
IsFewestLast-first {r} {n} {nodes} {w} rule h =
    let has = HasLastNodes-first rule (record { nodes = nodes; first = h.first; count = h.count }) in (
      has.nodes,
      record {
        last = has.last;
        count = has.count;
        fewest = λ v c some. h.fewest (reverse v) c (HasFirstNodes-last rule some);
        least = λ v some. subst (λ z. word_cmp (reverse w) z ≢ Greater) (reverse-reverse v) (h.least (reverse v) (HasFirstNodes-last rule some));
      },
    )

-- a node is a first node of a word if the mirrored node is a last node of the mirrored word
pub IsFewestFirst-last : {r : LocalRule} {n set nodes : ℕ} {w : List ℕ} → IsRule r → IsFewestLast (mirrored r) n set w → IsNodeSet r (λ u. IsBitSet set (mirror_node r u)) nodes
    → IsFewestFirst r n nodes (reverse w)
IsFewestFirst-last {r} {n} {set} {nodes} {w} rule h turned =
    let back = reverse-reverse w in
    let last : IsLastSet (mirrored r) (reverse (reverse w)) set = subst (λ z. IsLastSet (mirrored r) z set) (sym back) h.last in
    let first : IsFirstSet r (reverse w) nodes = record {
      word = IsWord-reverse r.states w h.last.word;
      first = IsSetOf-same (λ u l.
          let bit = last.last.nodes (mirror_node r u) (mirror_node-below r u l) in
          ((λ is_set. IsFirstNode-last rule l (bit.0 is_set)), (λ node. bit.1 (IsLastNode-first rule node)))) turned;
    } in
    record {
      first = first;
      count = count_first rule first ∙ first_count-mirrored rule (reverse w) ∙ sym (count_last (IsRule-mirrored rule) last) ∙ h.count;
      fewest = λ v c has. h.fewest (reverse v) c (HasLastNodes-first rule has);
      least = λ v has. subst (λ z. word_cmp z (reverse v) ≢ Greater) (sym back) (h.least (reverse v) (HasLastNodes-first rule has));
    }
