-- The closure of a set: two words are alike exactly where the sets of their last nodes have one closure.
use Rattle.image_minimal.proofs.Common.{◌≡◌, ℕ, ◌^◌, ◌<◌, ◌↔◌, List, [], ◌∷◌, ◌++◌, true, refl, sym, ap, ◌∙◌, subst, subst₂, arith, pow_pos, iff_then, iff_sym, All-cons, LocalRule, IsRule, IsWord, IsOrphan, node_count, full_set, IsStep, IsLastSet, IsBitSet-full, IsSetOf-same, IsSetOf-unique, IsStep-some, Alike, IsWithin, IsUnreadSet, IsClosure}
use Rattle.word_image.proofs.Common.{same_from_decides}
use Rattle.image_minimal.proofs.laws.Unread.{is_dead, is_dead-unread, IsUnread-some, IsWord-unread, IsWithin-zero, IsOrphan-is_dead}

-- the same words lead from both sets to the empty set
pub record AreReadAlike (r : LocalRule) (s t : ℕ) : Type 0 where
  pub dead : (z : List ℕ) → IsWord r.states z → is_dead r z s ≡ is_dead r z t

-- the unread sets in which a set is are those in which its closure is
IsWithin-closure : {r : LocalRule} {s closure : ℕ} → IsClosure r s closure → (unread : ℕ) → IsUnreadSet r unread
    → (IsWithin r closure unread ↔ IsWithin r s unread)
IsWithin-closure c unread is = grind arith

-- the same words are read from a set and from its closure
pub AreReadAlike-closure : {r : LocalRule} {s closure : ℕ} → IsRule r → s < 2 ^ node_count r → IsClosure r s closure → AreReadAlike r closure s
AreReadAlike-closure {r} {s} {closure} rule small c = grind (arith, IsUnread-some, same_from_decides, is_dead-unread, IsWithin-closure)

-- sets from which the same words are read have the same closure
pub IsClosure-alike : {r : LocalRule} {s t closure : ℕ} → IsRule r → s < 2 ^ node_count r → t < 2 ^ node_count r → AreReadAlike r s t
    → IsClosure r s closure → IsClosure r t closure
IsClosure-alike {r} {s} {t} rule small also h c =
    let same : (unread : ℕ) → IsUnreadSet r unread → (IsWithin r s unread ↔ IsWithin r t unread) = λ unread (z, is).
    iff_then (iff_sym (is_dead-unread rule z unread s is small)) (subst (λ b. (b ≡ true) ↔ IsWithin r t unread) (sym (h.dead z (IsWord-unread r z unread is))) (is_dead-unread rule z unread t is also)) in
    record { of = IsSetOf-same (λ u l. ((λ all unread is within. all unread is ((same unread is).1 within)), (λ all unread is within. all unread is ((same unread is).0 within)))) c.of }

-- a set has one closure
pub IsClosure-unique : {r : LocalRule} {s closure other : ℕ} → IsClosure r s closure → IsClosure r s other → closure ≡ other
IsClosure-unique first second = IsSetOf-unique first.of second.of

-- steps on one letter lead from sets from which the same words are read to such sets
pub AreReadAlike-step : {r : LocalRule} {s t a after also : ℕ} → a < r.states → AreReadAlike r s t → IsStep r s a after → IsStep r t a also
    → AreReadAlike r after also
AreReadAlike-step {r} {s} {t} {a} letter h first second = record {
  dead = λ z word. subst₂ (λ x y. is_dead r z x ≡ is_dead r z y) (IsSetOf-unique (IsStep-some r s a).1 first) (IsSetOf-unique (IsStep-some r t a).1 second) (h.dead (a ∷ z) (All-cons (λ b. b < r.states) a z letter word));
}

-- two words are alike exactly where their last nodes have one closure
pub Alike-closure : {r : LocalRule} {x y : List ℕ} {s t closure other : ℕ} → IsRule r → IsLastSet r x s → IsLastSet r y t → IsClosure r s closure
    → IsClosure r t other
    → (Alike r x y ↔ (closure ≡ other))
Alike-closure {r} {x} {s = s} {t} rule first second of_s of_t = (
  (λ alike. IsClosure-unique (IsClosure-alike rule first.last.within second.last.within (record {
    dead = λ z word. same_from_decides (is_dead r z s) (is_dead r z t) (iff_sym (IsOrphan-is_dead rule first z word)) (iff_then (iff_sym (IsOrphan-is_dead rule second z word)) (iff_sym (alike z word)));
  }) of_s) of_t),
  (λ same z word.
      let dead = sym ((AreReadAlike-closure rule first.last.within of_s).dead z word) ∙ ap (is_dead r z) same ∙ (AreReadAlike-closure rule second.last.within of_t).dead z word in
      iff_then (subst (λ b. IsOrphan r (x ++ z) ↔ (b ≡ true)) dead (IsOrphan-is_dead rule first z word)) (iff_sym (IsOrphan-is_dead rule second z word))),
)

-- all nodes are their own closure
pub IsClosure-full : (r : LocalRule) → IsClosure r (full_set r) (full_set r)
IsClosure-full r = record { of = record { within = omega (arith, pow_pos (node_count r)); nodes = λ u l. ((λ some unread is within. within u l some), (λ _. IsBitSet-full r u l)) } }

-- the empty set is its own closure, and that of no other
pub IsClosure-empty : {r : LocalRule} {s closure : ℕ} → s < 2 ^ node_count r → IsClosure r s closure → (s ≡ 0 ↔ (closure ≡ 0))
IsClosure-empty {r} {s} {closure} small c = iff_then (IsWithin-zero r s small) (iff_then (iff_sym (IsWithin-closure c 0 ([], refl))) (iff_sym (IsWithin-zero r closure c.of.within)))
