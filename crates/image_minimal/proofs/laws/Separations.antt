-- What links say of the orphans of two rules: links that are closed under steps show that they are the same, and the first
-- pair with exactly one empty set gives the least word that is an orphan of exactly one.
use Rattle.image_minimal.proofs.Common.{◌≡◌, ◌≢◌, ℕ, ◌+◌, ◌*◌, ◌<◌, ◌≤◌, ◌⊎◌, ◌↔◌, inl, inr, List, [], ◌∷◌, ◌++◌, length, Some, sym, ap, ◌∙◌, subst, arith, ⊎_elim, slice_get, true, iff_then, iff_sym, cases_lt, length-map, LocalRule, IsRule, IsWord, IsOrphan, IsStep, IsLastSet, IsLastSet-full, IsLastSet-step, Root, word_number, word_number-snoc, word_number-less, edges-ascending, edge-within, unmapped_at, mapped_at, HaveSameOrphans, Separates, Link, IsLinkSearch, link_place, link_places, SpellsLink}
use Rattle.image_minimal.proofs.laws.Unread.{is_dead, IsOrphan-last, IsOrphan-is_dead}
use Rattle.image_minimal.proofs.laws.LinkWords.{AreEarly, IsLastSet-link, same_end}

-- a word is an orphan of both rules or of neither where all edges have been followed whose words have no greater number
orphan_early : {r q : LocalRule} {links : List Link} {parents : List ℕ} {e bound : ℕ} → IsRule r → IsRule q → r.states ≡ q.states
    → IsLinkSearch r q links parents e
    → AreEarly r.states links e bound → (v : List ℕ) → (IsWord r.states v → word_number r.states v ≤ bound) → (IsOrphan r v ↔ IsOrphan q v)
orphan_early {r} {q} {links} rule other states h early v most =
    let (root, at, alike) = unmapped_at link_place links 0 h.fills.first h.fills.root in
    let both : IsWord r.states v → (IsOrphan r v ↔ IsOrphan q v) = λ word.
    let same = subst (λ (p : ℕ × ℕ). is_dead r v p.0 ≡ is_dead q v p.1) (ap (λ y. y.state) alike ∙ h.fills.starts) (same_end rule h early v word 0 root [] at Root (most word)) in
    iff_then (subst (λ b. IsOrphan r v ↔ (b ≡ true)) same (IsOrphan-is_dead rule (IsLastSet-full r) v word)) (iff_sym (IsOrphan-is_dead other (IsLastSet-full q) v (subst (λ k. IsWord k v) states word))) in
    ((λ orphan. (both orphan.word).0 orphan), (λ orphan. (both (subst (λ k. IsWord k v) (sym states) orphan.word)).1 orphan))

-- where all edges are followed the two rules have the same orphans
pub HaveSameOrphans-closed : {r q : LocalRule} {links : List Link} {parents : List ℕ} {e : ℕ} → IsRule r → IsRule q → r.states ≡ q.states
    → IsLinkSearch r q links parents e → length links * r.states ≤ e → HaveSameOrphans r q
HaveSameOrphans-closed {r} {q} {links} rule other states h closed v = orphan_early {bound = word_number r.states v} rule other states h
    (λ i a w x at _ letter _. omega (arith, edge-within r.states (link_places links) i (a + 1) (link_place x) (mapped_at link_place links i x at) (omega arith), ap (λ n. n * r.states) (length-map links link_place)))
    v (λ _. omega arith)

-- where the next edge leads to two sets of which exactly one is empty, its word is the least that is an orphan of exactly one rule
pub Separates-conflict : {r q : LocalRule} {links : List Link} {parents : List ℕ} {i a s t : ℕ} {w : List ℕ} {x : Link} → IsRule r → IsRule q
    → r.states ≡ q.states
    → IsLinkSearch r q links parents (i * r.states + a) → SpellsLink links i w → slice_get links i ≡ Some x → a < r.states → IsStep r x.first a s
    → IsStep q x.second a t
    → ((s ≡ 0) × (t ≢ 0)) ⊎ ((t ≡ 0) × (s ≢ 0)) → Separates r q (w ++ a ∷ [])
Separates-conflict {r} {q} {links} {i = i} {a} {s} {t} {w} {x} rule other states h reaches here letter one two uneven =
    let k = r.states in
    let both = IsLastSet-link rule other states h reaches x here in
    let first : IsLastSet r (w ++ a ∷ []) s = IsLastSet-step rule both.0 letter one in
    let orphan = IsOrphan-last rule first in
    let also = IsOrphan-last other (IsLastSet-step other both.1 (omega (arith, letter, states)) two) in
    record {
      one = ⊎_elim (λ (none, some). inl (orphan.1 none, (λ is. some (also.0 is)))) (λ (none, some). inr (also.1 none, (λ is. some (orphan.0 is)))) uneven;
      least = λ v less. orphan_early {bound = word_number k w * k + a} rule other states h
          (λ j b u y at to below most. ⊎_elim
          (λ less. less)
          (λ past. let order = edges-ascending h.fills reaches to (link_place x) (mapped_at link_place links i x here) a b letter below past in absurd (omega (arith, word_number-snoc k u b)))
          (cases_lt (j * k + b) (i * k + a)))
          v (λ word. omega (arith, word_number-less k v (w ++ a ∷ []) word first.word less, word_number-snoc k w a));
    }
