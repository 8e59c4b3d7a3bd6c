-- When there is a determined window or a look-ahead at all: no two different nodes are endless both ways, and no first pair is endless.
use Rattle.std.proofs.Common.{◌≡◌, ◌≢◌, ℕ, ◌+◌, ◌-◌, ◌<◌, ◌↔◌, List, min, take, drop, slice_index, refl, sym, ap, ◌∙◌, ⊎_elim, arith, ext_get_or, get_or-take, get_or-drop}
use Rattle.word_image.proofs.Common.{LocalRule, IsRule, value, word_of, node_count, HaveOneImage, IsDetermined, IsRightAhead, first_of, second_of, pair_count, node_letter, PairGoes, seen_from, IsFirstOf, IsEndless, length-word_of, value-word_of, pair_count_pos}
use Rattle.word_image.specs.declared.side.Side.{Side}
use Rattle.word_image.specs.declared.side.Side.TheVariants.{Right, Left}
use Rattle.pair_laws.specs.FirstWindows.{HasEndlessFirst}
use Rattle.pair_laws.proofs.Joins.{HaveOneImage-take, HaveOneImage-drop}
use Rattle.pair_laws.proofs.Ranks.{Together-below}
use Rattle.pair_laws.proofs.Windows.{node_letter-at, Meet-together, IsDetermined-pairs}
use Rattle.pair_laws.proofs.Aheads.{ahead_pairs}
use Rattle.pair_laws.proofs.Decisions.{differ_below}
use Rattle.pair_laws.proofs.Endless.{Together-endless}

-- two different nodes differ at a letter
pub node_letter-different : (r : LocalRule) (u v : ℕ) → u < node_count r → v < node_count r → u ≢ v
    → (i : ℕ) × (i < r.width - 1) × (node_letter r u i ≢ node_letter r v i)
node_letter-different r u v hu hv different =
    let k : ℕ = r.states in
    let d : ℕ = r.width - 1 in
    ⊎_elim
    (λ same. absurd (different (sym (value-word_of k d u hu)
    ∙ ap (value k) (ext_get_or 0 (word_of k d u) (word_of k d v) (length-word_of k d u ∙ sym (length-word_of k d v)) (λ i l. same i (omega (arith, length-word_of k d u))))
    ∙ value-word_of k d v hv)))
    (λ found. found)
    (differ_below (node_letter r u) (node_letter r v) d)

-- a pair is endless both ways
pub record IsEndlessBothWays (r : LocalRule) (p : ℕ) : Type 0 where
  pub begins : IsEndless (PairGoes Right r p)
  pub ends : IsEndless (PairGoes Left r p)

-- where a window is determined, no two different nodes are endless both ways: in long words that pass them the window could be put on a letter at which they differ
pub IsDetermined-not_both_ways : {r : LocalRule} {n c : ℕ} → IsRule r → IsDetermined r n c → (p : ℕ) → first_of r p ≢ second_of r p
    → ¬ IsEndlessBothWays r p
IsDetermined-not_both_ways {r} {n} {c} rule h p different endless =
    let d : ℕ = r.width - 1 in
    let nodes = Together-below Right r (first_of r p) (second_of r p) 0 (endless.begins 0) in
    let (l, inside, other) = node_letter-different r (first_of r p) (second_of r p) nodes.0 nodes.1 different in
    let m = Meet-together {n = c + (l + n)} rule refl (endless.ends c) (endless.begins (l + n)) in
    let window : HaveOneImage r n (take (n + d) (drop l m.x)) (take (n + d) (drop l m.y)) = HaveOneImage-take rule n c (n + c) refl (HaveOneImage-drop l (n + c) (c + (l + n)) (omega arith) m.one_image) in
    let place : l + c ≡ c + l = omega arith in
    let at : (z : List ℕ) → slice_index (take (n + d) (drop l z)) c ≡ slice_index z (c + l) = λ z.
    get_or-take (n + d) (drop l z) c 0 (omega (arith, h.inside)) ∙ get_or-drop l z c 0 ∙ ap (slice_index z) place in
    other (node_letter-at r (first_of r p) c l m.x m.one_image.first (omega arith) m.first inside ∙ sym (at m.x) ∙ h.letter _ _ window ∙ at m.y
    ∙ sym (node_letter-at r (second_of r p) c l m.y m.one_image.second (omega arith) m.second inside))

-- where no two different nodes are endless both ways, a window is determined
pub IsDetermined-none_both_ways : {r : LocalRule} → IsRule r → ((p : ℕ) → p < pair_count r → first_of r p ≢ second_of r p → ¬ IsEndlessBothWays r p)
    → IsDetermined r (pair_count r + pair_count r) (pair_count r)
IsDetermined-none_both_ways {r} rule none =
    (IsDetermined-pairs rule (pair_count r + pair_count r) (pair_count r)).1 (
      omega (arith, pair_count_pos rule),
      omega (arith, pair_count_pos rule),
      (λ p l different ends begins.
          none p l (λ same. different (ap (λ u. node_letter r u (pair_count r - min (pair_count r) (pair_count r + pair_count r))) same))
          (record { begins = Together-endless Right rule _ _ _ (omega arith) begins; ends = Together-endless Left rule _ _ _ (omega arith) ends })),
    )

-- a rule looks ahead to a side for some n exactly where no first pair of this side is endless
pub some_ahead : (side : Side) {r : LocalRule} → IsRule r
    → ((n : ℕ) × IsRightAhead (seen_from side r) n) ↔ ((p : ℕ) → IsFirstOf side r p → ¬ IsEndless (PairGoes side r p))
some_ahead side {r} rule = (
  (λ h p f endless. ((ahead_pairs side rule h.0).0 h.1).1 p f (endless (h.0 - 1))),
  (λ none. (pair_count r + 1, (ahead_pairs side rule (pair_count r + 1)).1 (omega arith, (λ p f goes. none p f (Together-endless side rule (first_of r p) (second_of r p) (pair_count r + 1 - 1) (omega arith) goes))))),
)

-- a rule with an endless first pair doesn't look ahead on that side
pub no_ahead : (side : Side) {r : LocalRule} → IsRule r → HasEndlessFirst side r → (n : ℕ) → ¬ IsRightAhead (seen_from side r) n
no_ahead side rule h n ahead = (some_ahead side rule).0 (n, ahead) h.0 h.1 h.2
