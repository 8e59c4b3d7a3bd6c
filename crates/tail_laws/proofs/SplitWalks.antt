-- Normal right splits as two walks in the marked graph: the one spells the middles, the other the right periods.
use Rattle.std.proofs.Common.{◌≡◌, ◌≢◌, ◌⊎◌, ℕ, ◌+◌, ◌-◌, ◌%◌, ◌<◌, ◌≤◌, List, [], ◌∷◌, length, map, inl, inr, refl, sym, ap, ◌∙◌, subst, ⊎_elim, arith, mod-eq_of_lt, zip}
use Rattle.std.proofs.lemmas.Slice.Zip.{length-zip}
use Rattle.word_image.proofs.Common.{add-mod_right, zero-mod, mod-mod, length-map, All-nil, All-cons, All-head, All-tail, All-map, LocalRule, IsRule, IsWord, pair_count, marked, pair_count_pos}
use Rattle.pair_laws.proofs.Common.{mark-below}
use Rattle.search_laws.proofs.Common.{ArePairs}
use Rattle.tail_config.proofs.Common.{TailConfig, IsTail, IsNormalRightSplit, same_or_differ, DifferAt-different}
use Rattle.tail_laws.specs.SplitWalks.{IsSplitAt, with_mark, tail_of, first_tail, second_tail}
use Rattle.tail_laws.proofs.PairLeads.{PairLeads}
use Rattle.tail_laws.proofs.MarkedWalks.{MarkedLeads, HasOther, HasOther-zip, HasOther-different, follow-marked, IsMarkedWalk-leads, leads-marked}
use Rattle.tail_laws.proofs.Settled.{IsNormalRightSplit-walk, normal_split-walk}

-- letter pairs are those of their first letters and their second letters
pub zip-sides : (w : List (ℕ × ℕ)) → zip (map (λ p. p.0) w) (map (λ p. p.1) w) ≡ w
zip-sides [] = refl
zip-sides (ab ∷ w) = ap (λ v. ab ∷ v) (zip-sides w)

-- the letter pairs of two words
pub ArePairs-zip : (k : ℕ) (x y : List ℕ) → IsWord k x → IsWord k y → ArePairs k (zip x y)
ArePairs-zip k [] y hx hy = All-nil (λ p. (p.0 < k) × (p.1 < k))
ArePairs-zip k (a ∷ x) [] hx hy = All-nil (λ p. (p.0 < k) × (p.1 < k))
ArePairs-zip k (a ∷ x) (b ∷ y) hx hy =
    let Below : ℕ → Type 0 = λ c. c < k in
    All-cons (λ p. (p.0 < k) × (p.1 < k)) (a, b) (zip x y) (All-head Below a x hx, All-head Below b y hy)
    (ArePairs-zip k x y (All-tail Below a x hx) (All-tail Below b y hy))

-- some letters differ in one of two lists if the words are not the same
HasOther-some : (x y : List ℕ) → length x ≡ length y → (x ≡ y) ⊎ HasOther (zip x y)
HasOther-some x y e = ⊎_elim (λ same. inl same) (λ d. inr (HasOther-zip x y e (DifferAt-different d))) (same_or_differ x y e)

-- a walk from a state of the marked graph leads to one
pub MarkedLeads-below : {r : LocalRule} → IsRule r → (abs : List (ℕ × ℕ)) (t s : ℕ) → t < pair_count r + pair_count r → MarkedLeads r t abs s
    → s < pair_count r + pair_count r
MarkedLeads-below {r} rule [] t s below h = omega (arith, h)
MarkedLeads-below {r} rule (ab ∷ rest) t s below h =
    let step = follow-marked rule t ab.0 ab.1 h.0 h.1 in
    MarkedLeads-below rule rest h.0 s (omega (arith, step.2, step.3, mark-below (pair_count r) t ab.0 ab.1)) h.2

-- a marked state is its pair with the mark
pub with_mark-marked : {r : LocalRule} → IsRule r → (t q : ℕ) → t < pair_count r + pair_count r → pair_count r ≤ t → t % pair_count r ≡ q
    → t ≡ q + pair_count r
with_mark-marked {r} rule t q below marked e =
    let p : ℕ = pair_count r in
    let rest : ℕ = t - p in
    let split : t ≡ rest + p = omega arith in
    let same : t % p ≡ rest = ap (λ n. n % p) split ∙ add-mod_right rest p ∙ mod-eq_of_lt {n = rest} (omega arith) in
    omega (arith, same)

-- one side of letter pairs below k is a word
pub IsWord-side : {k : ℕ} (side : ℕ × ℕ → ℕ) → ((p : ℕ × ℕ) → (p.0 < k) × (p.1 < k) → side p < k) → (w : List (ℕ × ℕ)) → ArePairs k w
    → IsWord k (map side w)
IsWord-side {k} side small w pairs = All-map (λ c. c < k) side w (λ i d l. small _ (pairs i d l))

-- one side of the letter pairs is a configuration over the rule's letters
IsTail-tail_of : {r : LocalRule} {t : ℕ} {w v : List (ℕ × ℕ)} → IsRule r → IsSplitAt r t w v → (side : ℕ × ℕ → ℕ)
    → ((p : ℕ × ℕ) → (p.0 < r.states) × (p.1 < r.states) → side p < r.states) → IsTail r.states (tail_of side w v)
IsTail-tail_of rule h side small = grind (arith, length-map, IsWord-side)

-- two walks that make a split at a state are a normal right split
pub IsNormalRightSplit-walks : {r : LocalRule} {t : ℕ} {w v : List (ℕ × ℕ)} → IsRule r → IsSplitAt r t w v
    → IsNormalRightSplit r (first_tail w v) (second_tail w v)
IsNormalRightSplit-walks {r} {t} {w} {v} rule h =
    let p : ℕ = pair_count r in
    let some = pair_count_pos rule in
    let reach = IsMarkedWalk-leads rule w 0 t h.reach.steps in
    let round = IsMarkedWalk-leads rule v t (with_mark r t) h.round.steps in
    let back = add-mod_right (t % p) p ∙ mod-mod t p in
    let sides : (u : List (ℕ × ℕ)) → HasOther u → map (λ a. a.0) u ≢ map (λ a. a.1) u = λ u other. HasOther-different _ _ (subst HasOther (sym (zip-sides u)) other) in
    IsNormalRightSplit-walk rule (IsTail-tail_of rule h (λ a. a.0) (λ a l. l.0)) (IsTail-tail_of rule h (λ a. a.1) (λ a l. l.1)) refl refl
    (length-map w (λ a. a.0) ∙ sym (length-map w (λ a. a.1))) (length-map v (λ a. a.0) ∙ sym (length-map v (λ a. a.1))) (t % p)
    (rw (zip-sides w) (rw (zero-mod p) at reach.pairs)) (rw (zip-sides v) (rw back at round.pairs))
    (λ e. ⊎_elim (λ l. ⊎_elim (λ none. omega arith) (λ other. sides w other e.0) (reach.mark.0 l)) (λ other. sides v other e.1) (round.mark.0 (omega arith)))

-- a normal right split is two walks, at some state
pub normal_split-at : {r : LocalRule} {x y : TailConfig} → IsRule r → IsNormalRightSplit r x y
    → (t : ℕ) × (t < pair_count r + pair_count r) × IsSplitAt r t (zip x.middle y.middle) (zip x.right y.right)
normal_split-at {r} {x} {y} rule n =
    let p : ℕ = pair_count r in
    let some = pair_count_pos rule in
    let (q, reaches, loops) = normal_split-walk rule n in
    let middles : List (ℕ × ℕ) = zip x.middle y.middle in
    let rights : List (ℕ × ℕ) = zip x.right y.right in
    let reach = leads-marked rule middles 0 q (subst (λ u. PairLeads r u middles q) (sym (zero-mod p)) reaches) in
    let t : ℕ = reach.0 in
    let round = leads-marked rule rights t q (subst (λ u. PairLeads r u rights q) (sym reach.2) loops) in
    let s : ℕ = round.0 in
    let within : t < p + p = MarkedLeads-below rule middles 0 t (omega arith) reach.1 in
    let on = (IsMarkedWalk-leads rule middles 0 t reach.1).mark in
    let after = (IsMarkedWalk-leads rule rights t s round.1).mark in
    let marked_end : p ≤ s =
    ⊎_elim
    (λ same. ⊎_elim (λ rest. absurd (n.split.different.1 (grind arith))) (λ other. after.1 (inr other)) (HasOther-some x.right y.right n.rights))
    (λ other. after.1 (inl (on.1 (inr other))))
    (HasOther-some x.middle y.middle n.middles) in
    let there = with_mark-marked rule s q (MarkedLeads-below rule rights t s within round.1) marked_end round.2 ∙ ap (λ q. q + p) (sym reach.2) in
    let long : 0 < length x.right = n.split.first.right_some in (
      t,
      within,
      record {
        reach = record { steps = reach.1; letters = ArePairs-zip r.states x.middle y.middle n.split.first.middle_word n.split.second.middle_word };
        some = omega (arith, length-zip x.right y.right);
        round = record {
          steps = subst (λ n. MarkedLeads r t rights n) there round.1;
          letters = ArePairs-zip r.states x.right y.right n.split.first.right_word n.split.second.right_word;
        };
      },
    )
