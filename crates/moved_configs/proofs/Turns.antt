-- A walk of windows back to its start reads a ring that is only moved.
use Rattle.std.proofs.Common.{◌≡◌, ℕ, zero, suc, ◌+◌, ◌-◌, ◌*◌, ◌/◌, ◌%◌, ◌<◌, ◌≤◌, List, [], ◌∷◌, length, slice_index, map, ℤ, pos, negsuc, ◌+ℤ◌, IsBitSet, refl, sym, ap, ◌∙◌, subst, arith, mod-lt, mod-eq_of_lt, ⊎_elim}
use Rattle.std.proofs.Math.Path.{fun_ext}
use Rattle.word_image.proofs.Common.{ints, LocalRule, IsRule, node_count, next, next-below, end_node, window_with, window_with-within, div-mul-add, mod-mul-add, ring_letter, HasBit, length-map-range_with_len, get_or-map-range_with_len, range_with_len, cases_eq}
use Rattle.word_image.specs.declared.side.Side.{Side}
use Rattle.word_image.specs.declared.side.Side.TheVariants.{Right, Left}
use Rattle.tail_config.proofs.Common.{Config, IsConfig}
use Rattle.config_laws.specs.Periodic.{HasPeriod}
use Rattle.config_laws.proofs.Images.{image_of-moved}
use Rattle.config_laws.proofs.Periods.{HasPeriod-ring, same_periodic}
use Rattle.moved_configs.specs.MovedWindows.{IsMovedBy}
use Rattle.moved_configs.specs.MovedRings.{IsMovedRing, Reads}
use Rattle.moved_configs.specs.Trims.{IsKept, IsCore, Stays, AreWindowSets}
use Rattle.moved_configs.proofs.Walks.{IsInside, AreJoined}
use Rattle.moved_configs.proofs.Moves.{spelled-windows, spelled-config, IsMovedBy-kept}
use Rattle.moved_configs.proofs.Readings.{window_at-parts}
use Rattle.moved_configs.proofs.Greedy.{IsWord-reads}

-- the node after the first letters of a word
pub after : LocalRule → ℕ → List ℕ → ℕ → ℕ
after r u w zero = u
after r u [] (suc j) = u
after r u (a ∷ w) (suc j) = after r (next r u a) w j

-- what is read at each place
pub record IsRead (r : LocalRule) (rows : List ℕ) (u : ℕ) (w : List ℕ) (j : ℕ) : Type 0 where
  pub node : after r u w j < node_count r
  pub letter : slice_index w j < r.states
  pub has : HasBit rows (after r u w j) (slice_index w j)
  pub goes : after r u w (suc j) ≡ next r (after r u w j) (slice_index w j)

-- each letter is read
pub Reads-at : (r : LocalRule) (rows : List ℕ) (u v : ℕ) (w : List ℕ) → IsRule r → u < node_count r → Reads r rows u w v → (j : ℕ) → j < length w → IsRead r rows u w j
unfolding after
Reads-at r rows u v [] rule node h j l = absurd (omega (arith, l))
Reads-at r rows u v (a ∷ w) rule node h zero l = record { node = node; letter = h.0; has = h.1.0; goes = first w }
  where
    first : (x : List ℕ) → after r (next r u a) x zero ≡ next r u a
    first x = refl
Reads-at r rows u v (a ∷ w) rule node h (suc j) l =
    let rest = Reads-at r rows (next r u a) v w rule (next-below rule u a) h.1.1 j (omega (arith, l)) in
    record { node = rest.node; letter = rest.letter; has = rest.has; goes = rest.goes }

-- at its end the walk is at its last node
pub Reads-end : (r : LocalRule) (rows : List ℕ) (u v : ℕ) (w : List ℕ) → Reads r rows u w v → after r u w (length w) ≡ v
unfolding after
Reads-end r rows u v [] h = h
Reads-end r rows u v (a ∷ w) h = Reads-end r rows (next r u a) v w h.1.1

-- the windows of a walk
abbrev pub windows_of : LocalRule → ℕ → List ℕ → List ℕ
windows_of r u w = map (λ j. after r u w j * r.states + slice_index w j) (range_with_len 0 (length w))

-- what holds of each entry of a list holds all round
pub all_round : (P : ℕ → Type 0) (ws : List ℕ) → 1 ≤ length ws → ((j : ℕ) → j < length ws → P (slice_index ws j)) → (i : ℤ) → P (ring_letter ws i)
all_round P ws some h (pos i) = h (i % length ws) (mod-lt i some)
all_round P ws some h (negsuc i) = h (length ws - 1 - i % length ws) (omega (arith, some))

-- an entry of a list all round
pub ring_letter-at : (ws : List ℕ) (j : ℕ) → j < length ws → ring_letter ws (pos 0 +ℤ pos j) ≡ slice_index ws j
ring_letter-at ws j l = let here : pos 0 +ℤ pos j ≡ pos j = omega (arith, ints) in ap (ring_letter ws) here ∙ ap (slice_index ws) (mod-eq_of_lt l)

-- a walk back to its start reads a ring that is only moved
pub IsMovedRing-reads : (r : LocalRule) (p set : ℕ) (rows : List ℕ) (u : ℕ) (w : List ℕ) → IsRule r → p < r.width → IsCore r p set → AreWindowSets r p set rows
    → u < node_count r → 1 ≤ length w → Reads r rows u w u → IsMovedRing r (r.offset +ℤ pos p) w
unfolding after
IsMovedRing-reads r p set rows u w rule l core sets node some reads = record {
  ring = record { word = IsWord-reads r rows u u w reads; some = some };
  moved = subst (IsMovedBy r s) same (λ i.
      let on : i +ℤ pos d +ℤ s ≡ i +ℤ s +ℤ pos d = omega (arith, ints) in
      image_of-moved r x (pos d) i ∙ moved (i +ℤ pos d) ∙ ap x on);
}
  where
    k : ℕ
    k = r.states

    n : ℕ
    n = length w

    d : ℕ
    d = r.width - 1

    s : ℤ
    s = r.offset +ℤ pos p

    ws : List ℕ
    ws = windows_of r u w

    long : length ws ≡ n
    long = length-map-range_with_len (λ j. after r u w j * r.states + slice_index w j) 0 n

    at : (j : ℕ) → j < n → IsRead r rows u w j
    at j g = Reads-at r rows u u w rule node reads j g

    entry : (j : ℕ) → j < n → slice_index ws j ≡ window_with Right r (after r u w j) (slice_index w j)
    entry j g = get_or-map-range_with_len (λ b. after r u w b * r.states + slice_index w b) 0 n j j 0 g (omega arith)

    left : (j : ℕ) → j < n → end_node Left r (slice_index ws j) ≡ after r u w j
    left j g = ap (end_node Left r) (entry j g) ∙ div-mul-add (after r u w j) r.states (slice_index w j) (at j g).letter

    right : (j : ℕ) → j < n → end_node Right r (slice_index ws j) ≡ after r u w (suc j)
    right j g = ap (end_node Right r) (entry j g) ∙ sym (at j g).goes

    inside_at : (j : ℕ) → j < length ws → IsInside r p set (slice_index ws j)
    inside_at j g =
        let h = at j (omega (arith, g, long)) in
        let v : ℕ = after r u w j in
        let a : ℕ = slice_index w j in
        let stays : Stays r p set v a = ((sets.letters v h.node).nodes a h.letter).0 h.has in
        let ends : (side : Side) → IsBitSet set (end_node side r (window_with Right r v a)) = λ side. both v a (subst (IsBitSet set) (sym (div-mul-add v r.states a h.letter)) stays.0) stays.1.1 side in
        subst (IsInside r p set) (sym (entry j (omega (arith, g, long)))) (record { within = window_with-within Right rule v a h.node h.letter; kept = stays.1.0; ends = ends })
      where
        both : (v a : ℕ) → IsBitSet set (end_node Left r (window_with Right r v a)) → IsBitSet set (end_node Right r (window_with Right r v a)) → (side : Side) → IsBitSet set (end_node side r (window_with Right r v a))
        both v a first last Right = last
        both v a first last Left = first

    period : HasPeriod n (ring_letter ws)
    period = subst (λ j. HasPeriod j (ring_letter ws)) long (HasPeriod-ring ws (omega (arith, long, some)))

    here : (j : ℕ) → j < n → ring_letter ws (pos 0 +ℤ pos j) ≡ slice_index ws j
    here j g = ring_letter-at ws j (omega (arith, g, long))

    round : (j : ℕ) → j < n → end_node Left r (ring_letter ws (pos 0 +ℤ pos j +ℤ pos 1)) ≡ after r u w (suc j)
    round j g =
        let next_place : pos 0 +ℤ pos j +ℤ pos 1 ≡ pos 0 +ℤ pos (suc j) = omega (arith, ints) in
        ap (λ i. end_node Left r (ring_letter ws i)) next_place
        ∙ ⊎_elim
        (λ e.
        let end : pos 0 +ℤ pos (suc j) ≡ pos 0 +ℤ pos 0 +ℤ pos n = omega (arith, ints, e) in
        ap (λ i. end_node Left r (ring_letter ws i)) end ∙ ap (end_node Left r) (period.again (pos 0 +ℤ pos 0) ∙ here 0 (omega (arith, some))) ∙ left 0 (omega (arith, some))
        ∙ sym (Reads-end r rows u u w reads) ∙ ap (after r u w) (sym e))
        (λ other. ap (end_node Left r) (here (suc j) (omega (arith, g, other))) ∙ left (suc j) (omega (arith, g, other)))
        (cases_eq (suc j) n)

    lefts : Config
    lefts i = end_node Left r (ring_letter ws (i +ℤ pos 1))

    rights : Config
    rights i = end_node Right r (ring_letter ws i)

    joins : lefts ≡ rights
    joins = same_periodic {p = n} {x = lefts} {y = rights}
        (record { some = some; again = λ i. let on : i +ℤ pos n +ℤ pos 1 ≡ i +ℤ pos 1 +ℤ pos n = omega (arith, ints) in ap (λ j. end_node Left r (ring_letter ws j)) on ∙ ap (end_node Left r) (period.again (i +ℤ pos 1)) })
        (record { some = some; again = λ i. ap (end_node Right r) (period.again i) })
        (pos 0)
        (λ j g. round j g ∙ sym (ap (end_node Right r) (here j g) ∙ right j g))

    h : AreJoined r p set (ring_letter ws (pos 0))
    h = record {
      windows = ring_letter ws;
      inside = all_round (IsInside r p set) ws (omega (arith, long, some)) inside_at;
      joined = λ i. ap (λ (f : Config). f i) joins;
      starts = refl;
    }

    x : Config
    x j = ring_letter ws j / node_count r

    config : IsConfig r.states x
    config = spelled-config r p set (ring_letter ws (pos 0)) rule h

    moved : IsMovedBy r s x
    moved = IsMovedBy-kept r x config p l (λ i. subst (IsKept r p) (sym (spelled-windows r p set (ring_letter ws (pos 0)) rule h i)) (h.inside i).kept)

    lasts : Config
    lasts i = ring_letter ws i % r.states

    later : Config
    later i = x (i +ℤ pos d)

    last : (i : ℤ) → later i ≡ lasts i
    last i =
        sym (ap (λ v. v % r.states) (sym (spelled-windows r p set (ring_letter ws (pos 0)) rule h i) ∙ window_at-parts r x rule i) ∙ mod-mul-add _ r.states (x (i +ℤ pos d)) (config (i +ℤ pos d)))

    digits : lasts ≡ ring_letter w
    digits = same_periodic {p = n} {x = lasts} {y = ring_letter w}
        (record { some = some; again = λ i. ap (λ v. v % r.states) (period.again i) })
        (HasPeriod-ring w some)
        (pos 0)
        (λ j g. ap (λ v. v % r.states) (here j g ∙ entry j g) ∙ mod-mul-add (after r u w j) r.states (slice_index w j) (at j g).letter ∙ sym (ring_letter-at w j g))

    same : later ≡ ring_letter w
    same = fun_ext last ∙ digits
