-- The first ring of a length, one node after another, and the least ring, one length after another.
use Rattle.std.proofs.Common.{◌≡◌, ℕ, ◌+◌, ◌<◌, ◌≤◌, List, length, Option, Some, None, IfSome, IfNone, MatchOption, true, false, if◌then◌else◌, pos, ◌+ℤ◌, refl, sym, ap, ◌∙◌, subst, arith, ⊎_elim}
use Rattle.std.proofs.lemmas.Map.Keys.{ge_from_not_lt}
use Rattle.std.specs.Ordering.{is_lt, nat_cmp}
use Rattle.std.specs.Cmp.Lexicographic.{slice_cmp}
use Rattle.word_image.proofs.Common.{LocalRule, IsRule, value, node_count, key_not_greater, nat_cmp-le, slice_cmp-value, cases_lt, cases_eq, cases_Bool}
use Rattle.moved_configs.specs.Trims.{IsCore, AreWindowSets}
use Rattle.moved_configs.specs.MovedRings.{IsLeastMovedRing, MovesNone, Reads, IsFirstReading, ReadsNone, ReadsNoRing, IsFirstRingTo, IsFirstRing}
use Rattle.moved_configs.proofs.Moves.{TellMoved-core}
use Rattle.moved_configs.proofs.Readings.{Reads-ring, Reads-back}
use Rattle.moved_configs.proofs.Greedy.{IsWord-reads}
use Rattle.moved_configs.proofs.Turns.{IsMovedRing-reads}

-- the first ring from the first nodes, or that there is none
abbrev pub FirstTo : LocalRule → List ℕ → ℕ → ℕ → Option (List ℕ) → Type 0
FirstTo r rows count n best = MatchOption best (ReadsNoRing r rows count n) (IsFirstRingTo r rows count n)

-- one node more, from which nothing is read back
pub FirstTo-skip : (r : LocalRule) (rows : List ℕ) (s n : ℕ) (best : Option (List ℕ)) → FirstTo r rows s n best → ReadsNone r rows s n → FirstTo r rows (s + 1) n best
FirstTo-skip r rows s n None h none = λ u l q long reads. ⊎_elim (λ e. none q long (subst (λ v. Reads r rows v q v) e reads)) (λ other. h u (omega arith) q long reads) (cases_eq u s)
FirstTo-skip r rows s n (Some w) h none = record {
  node = h.node;
  inside = h.inside;
  long = h.long;
  reads = h.reads;
  least = λ u q l long reads. ⊎_elim (λ e. absurd (none q long (subst (λ v. Reads r rows v q v) e reads))) (λ other. h.least u q (omega arith) long reads) (cases_eq u s);
}

-- one node more, from which a word is read back, the first one so far
pub FirstTo-take : (r : LocalRule) (rows : List ℕ) (s n : ℕ) (w : List ℕ) → s < node_count r → IsFirstReading r rows s n w
    → ((u : ℕ) (q : List ℕ) → u < s → length q ≡ n → Reads r rows u q u → value r.states w ≤ value r.states q) → IsFirstRingTo r rows (s + 1) n w
FirstTo-take r rows s n w inside h before = record {
  node = s;
  inside = inside;
  long = h.long;
  reads = h.first.reads;
  least = λ u q l long reads. ⊎_elim (λ e. h.first.least q (long ∙ sym h.long) (subst (λ v. Reads r rows v q v) e reads)) (λ other. before u q (omega arith) long reads) (cases_eq u s);
}

-- a test that is not passed, of numbers in order
not_before : (a b : ℕ) → is_lt (nat_cmp a b) ≡ true → a ≤ b
not_before a b t = ⊎_elim (λ less. omega arith) (λ other. grind arith) (cases_lt a b)

-- one node more, from which a word is read back: the earlier one is the first one
pub FirstTo-found : (r : LocalRule) (rows : List ℕ) (s n : ℕ) (best : Option (List ℕ)) (w result : List ℕ) → s < node_count r → FirstTo r rows s n best → IsFirstReading r rows s n w
    → MatchOption best (result ≡ w) (λ old. result ≡ (if is_lt (slice_cmp nat_cmp w old) then w else old)) → IsFirstRingTo r rows (s + 1) n result
FirstTo-found r rows s n None w result inside h first e =
    subst (IsFirstRingTo r rows (s + 1) n) (sym e) (FirstTo-take r rows s n w inside first (λ u q l long reads. absurd (h u l q long reads)))
FirstTo-found r rows s n (Some old) w result inside h first e =
    let k : ℕ = r.states in
    let order : slice_cmp nat_cmp w old ≡ nat_cmp (value k w) (value k old) =
    slice_cmp-value k w old (IsWord-reads r rows s s w first.first.reads) (IsWord-reads r rows h.node h.node old h.reads) (first.long ∙ sym h.long) in
    ⊎_elim
    (λ (t : is_lt (slice_cmp nat_cmp w old) ≡ true).
    let is : result ≡ w = e ∙ ap (λ b. if b then w else old) t in
    let le : value k w ≤ value k old = not_before (value k w) (value k old) (ap is_lt (sym order) ∙ t) in
    subst (IsFirstRingTo r rows (s + 1) n) (sym is) (FirstTo-take r rows s n w inside first (λ u q l long reads. let more = h.least u q l long reads in omega (arith, le, more))))
    (λ (f : is_lt (slice_cmp nat_cmp w old) ≡ false).
    let is : result ≡ old = e ∙ ap (λ b. if b then w else old) f in
    let le : value k old ≤ value k w = ge_from_not_lt (value k w) (value k old) (ap is_lt (sym order) ∙ f) in
    subst (IsFirstRingTo r rows (s + 1) n) (sym is) (record {
      node = h.node;
      inside = h.inside;
      long = h.long;
      reads = h.reads;
      least = λ u q l long reads. ⊎_elim
          (λ same. let more = first.first.least q (long ∙ sym first.long) (subst (λ v. Reads r rows v q v) same reads) in omega (arith, le, more))
          (λ other. h.least u q (omega arith) long reads) (cases_eq u s);
    }))
    (cases_Bool (is_lt (slice_cmp nat_cmp w old)))

-- no ring of at least one letter and fewer than n letters is read
abbrev pub ReadsNoShorter : LocalRule → List ℕ → ℕ → Type 0
ReadsNoShorter r rows n = (i : ℕ) → 1 ≤ i → i < n → ReadsNoRing r rows (node_count r) i

-- the first ring of the least length is the least one
pub IsLeastMovedRing-first : (r : LocalRule) (p set : ℕ) (rows : List ℕ) (n : ℕ) (w : List ℕ) → IsRule r → p < r.width → IsCore r p set → AreWindowSets r p set rows
    → 1 ≤ n → ReadsNoShorter r rows n → IsFirstRing r rows n w → IsLeastMovedRing r (r.offset +ℤ pos p) w
IsLeastMovedRing-first r p set rows n w rule l core sets some fewer first = record {
  moved = IsMovedRing-reads r p set rows first.node w rule l core sets first.inside (omega (arith, some, first.long)) first.reads;
  least = λ q other.
      let (u, inside, reads) = Reads-ring r (r.offset +ℤ pos p) rows q rule (TellMoved-core r p set rows rule l core sets) other in
      let few : length w ≤ length q = ⊎_elim (λ less. absurd (fewer (length q) other.ring.some (omega (arith, less, first.long)) u inside q refl reads)) (λ le. le) (cases_lt (length q) (length w)) in
      (key_not_greater (length w) (length q) (slice_cmp nat_cmp w q)).1 (
        few,
        λ same greater.
            nat_cmp-le (value r.states w) (value r.states q) (first.least u q inside (sym same ∙ first.long) reads)
            (sym (slice_cmp-value r.states w q (IsWord-reads r rows first.node first.node w first.reads) other.ring.word same) ∙ greater),
      );
}

-- if no ring of at most as many letters as there are nodes is read, no configuration is only moved
pub MovesNone-reads : (r : LocalRule) (p set : ℕ) (rows : List ℕ) (n : ℕ) → IsRule r → p < r.width → IsCore r p set → AreWindowSets r p set rows
    → node_count r < n → ReadsNoShorter r rows n → MovesNone r (r.offset +ℤ pos p)
MovesNone-reads r p set rows n rule l core sets all fewer x hx moved =
    let (u, w, inside, some, few, reads) = Reads-back r x (r.offset +ℤ pos p) rows rule (TellMoved-core r p set rows rule l core sets) hx moved in
    fewer (length w) some (omega (arith, few, all)) u inside w refl reads

-- one length more, of which no ring is read
pub ReadsNoShorter-more : (r : LocalRule) (rows : List ℕ) (n : ℕ) → ReadsNoShorter r rows n → ReadsNoRing r rows (node_count r) n → ReadsNoShorter r rows (n + 1)
ReadsNoShorter-more r rows n fewer none i some l = ⊎_elim (λ e. subst (ReadsNoRing r rows (node_count r)) (sym e) none) (λ other. fewer i some (omega arith)) (cases_eq i n)

-- the first ring from all nodes is the first one
pub FirstTo-some : (r : LocalRule) (rows : List ℕ) (s n : ℕ) (best : Option (List ℕ)) → s ≡ node_count r → FirstTo r rows s n best → IfSome best (IsFirstRing r rows n)
FirstTo-some r rows s n None e h = search
FirstTo-some r rows s n (Some w) e h = subst (λ c. IsFirstRingTo r rows c n w) e h

-- if there is none from all nodes, there is none
pub FirstTo-none : (r : LocalRule) (rows : List ℕ) (s n : ℕ) (best : Option (List ℕ)) → s ≡ node_count r → FirstTo r rows s n best → IfNone best (ReadsNoRing r rows (node_count r) n)
FirstTo-none r rows s n None e h = subst (λ c. ReadsNoRing r rows c n) e h
FirstTo-none r rows s n (Some w) e h = search
