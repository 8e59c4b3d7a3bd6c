-- Walks, joined and cut, step by step and from the back.
use Rattle.std.proofs.Common.{◌≡◌, ℕ, ◌+◌, ◌<◌, ◌≤◌, ◌⊎◌, inl, inr, List, [], ◌∷◌, ◌++◌, length, map, take, drop, All, refl, sym, subst, arith, ⊎_elim, append-nil, append_assoc, take-append-drop, length-append, length-drop, length-take-le, rules}
use Rattle.word_image.proofs.Common.{cases_lt, All-nil, All-cons, All-head, All-tail, All-push, All-append, All-take, All-drop, IsWord, twice_below}
use Rattle.search_laws.specs.Walks.{Walk, Leads}

-- a walk that goes on where another one ends
pub Walk-join : {S L : Type 0} (Step : S → L → S → Type 0) (v w : List L) (s u t : S) → Walk Step s v u → Walk Step u w t → Walk Step s (v ++ w) t
Walk-join Step [] w s u t first second = subst (λ x. Walk Step x w t) (sym first) second
Walk-join Step (a ∷ v) w s u t (next, step, rest) second = (next, step, Walk-join Step v w next u t rest second)

-- a walk by two words is cut in two
pub Walk-cut : {S L : Type 0} (Step : S → L → S → Type 0) (v w : List L) (s t : S) → Walk Step s (v ++ w) t
    → (u : S) × Walk Step s v u × Walk Step u w t
Walk-cut Step [] w s t walk = (s, refl, walk)
Walk-cut Step (a ∷ v) w s t (next, step, rest) = let (u, first, second) = Walk-cut Step v w next t rest in (u, (next, step, first), second)

-- a walk with one more step at the end is a walk
pub Walk-push : {S L : Type 0} (Step : S → L → S → Type 0) (w : List L) (a : L) (s u t : S) → Walk Step s w u → Step u a t
    → Walk Step s (w ++ a ∷ []) t
Walk-push Step w a s u t walk step = Walk-join Step w (a ∷ []) s u t walk (t, step, refl)

-- where each step on some letters is another step, so is a walk
pub Walk-each : {S T L : Type 0} (Step : S → L → S → Type 0) (Other : T → L → T → Type 0) (f : S → T) (P : L → Type 0)
    → ((s : S) (a : L) (t : S) → P a → Step s a t → Other (f s) a (f t))
    → (w : List L) (s t : S) → All P w → Walk Step s w t → Walk Other (f s) w (f t)
Walk-each Step Other f P each [] s t all walk = let same = walk in cc
Walk-each Step Other f P each (a ∷ w) s t all (u, step, rest) = (f u, each s a u (All-head P a w all) step, Walk-each Step Other f P each w u t (All-tail P a w all) rest)

-- a walk by letters that stand for others
pub Walk-map : {S L M : Type 0} (Step : S → M → S → Type 0) (g : L → M) (w : List L) (s t : S) → Walk (λ u a. Step u (g a)) s w t
    → Walk Step s (map g w) t
Walk-map Step g [] s t walk = walk
Walk-map Step g (a ∷ w) s t (u, step, rest) = (u, step, Walk-map Step g w u t rest)

-- where each step is on letters of a kind, all letters of a walk are
pub All-walk : {S L : Type 0} (Step : S → L → S → Type 0) (P : L → Type 0) → ((s : S) (a : L) (t : S) → Step s a t → P a) → (w : List L) (s t : S)
    → Walk Step s w t → All P w
All-walk Step P each [] s t walk = All-nil P
All-walk Step P each (a ∷ w) s t (u, step, rest) = All-cons P a w (each s a u step) (All-walk Step P each w u t rest)

-- no letters lead to the start
pub Leads-none : {S : Type 0} {Step : S → ℕ → S → Type 0} {k : ℕ} {start : S} → Leads Step k start [] start
Leads-none {k = k} = record { walk = refl; word = All-nil (λ a. a < k) }

-- one more letter leads one step on
pub Leads-push : {S : Type 0} {Step : S → ℕ → S → Type 0} {k : ℕ} {start s t : S} {w : List ℕ} {a : ℕ} → Leads Step k start w s → a < k → Step s a t
    → Leads Step k start (w ++ a ∷ []) t
Leads-push {Step = Step} {k = k} {start = start} {s = s} {t = t} {w = w} {a = a} leads letter step =
    search (rules, Walk-push, All-push)

-- what holds of the start, and stays where a step is added, holds where a word leads: beyond the letters v
induct_on : {S : Type 0} {Step : S → ℕ → S → Type 0} {k : ℕ} {start : S} (P : List ℕ → S → Type 0)
    → ((w : List ℕ) (a : ℕ) (s t : S) → Leads Step k start w s → a < k → Step s a t → P w s → P (w ++ a ∷ []) t)
    → (v : List ℕ) (s : S) → Leads Step k start v s → P v s → (w : List ℕ) (t : S) → IsWord k w → Walk Step s w t → P (v ++ w) t
induct_on P next v s leads here [] t word walk = subst (λ x. P x t) (sym (append-nil v)) (subst (P v) walk here)
induct_on {k = k} P next v s leads here (a ∷ w) t word (u, step, rest) =
    let letter = All-head (λ b. b < k) a w word in
    subst (λ x. P x t) (append_assoc v (a ∷ []) w)
    (induct_on P next (v ++ a ∷ []) u (Leads-push leads letter step) (next v a s u leads letter step here) w t (All-tail (λ b. b < k) a w word) rest)

-- what holds of the start, and stays where a step is added, holds where a word leads
pub Leads-induct : {S : Type 0} {Step : S → ℕ → S → Type 0} {k : ℕ} {start : S} (P : List ℕ → S → Type 0) → P [] start
    → ((w : List ℕ) (a : ℕ) (s t : S) → Leads Step k start w s → a < k → Step s a t → P w s → P (w ++ a ∷ []) t) → (w : List ℕ) (t : S)
    → Leads Step k start w t → P w t
Leads-induct {start = start} P here next w t leads = induct_on P next [] start Leads-none here w t leads.word leads.walk

-- where each step ends below n, a walk of at least one does
Walk-below : {L : Type 0} {Step : ℕ → L → ℕ → Type 0} {n : ℕ} → ((s : ℕ) (a : L) (t : ℕ) → Step s a t → t < n) → (w : List L) (s t : ℕ) → 0 < length w
    → Walk Step s w t → t < n
Walk-below below [] s t some walk = absurd (omega arith)
Walk-below {n = n} below (a ∷ []) s t some (u, step, rest) = subst (λ x. x < n) rest (below s a u step)
Walk-below below (a ∷ b ∷ w) s t some (u, step, rest) = Walk-below below (b ∷ w) u t (omega arith) rest

-- a shorter walk of at least one step, by letters that are all so
pub record IsShortened {L : Type 0} (Step : ℕ → L → ℕ → Type 0) (P : L → Type 0) (w : List L) (s t : ℕ) : Type 0 where
  pub shorter : List L
  pub less : length shorter < length w
  pub some : 0 < length shorter
  pub walk : Walk Step s shorter t
  pub letters : All P shorter

-- a walk of more steps than there are states passes a state twice, and without the steps between it is shorter
pub Walk-shortened : {L : Type 0} (Step : ℕ → L → ℕ → Type 0) (P : L → Type 0) (n : ℕ) → ((s : ℕ) (a : L) (t : ℕ) → Step s a t → t < n)
    → (w : List L) (s t : ℕ) → All P w → Walk Step s w t → length w ≤ n ⊎ IsShortened Step P w s t
Walk-shortened Step P n below w s t all walk =
    let cut = λ (i : ℕ). Walk-cut Step (take i w) (drop i w) s t (subst (λ v. Walk Step s v t) (sym (take-append-drop i w)) walk) in
    ⊎_elim
    (λ long.
    let twice = twice_below n (λ i. (cut (i + 1)).0) (λ i l. Walk-below below (take (i + 1) w) s (cut (i + 1)).0 (omega (arith, length-take-le (i + 1) w (omega arith))) (cut (i + 1)).1) in
    let i : ℕ = twice.0 + 1 in
    let j : ℕ = twice.1 + 1 in
    let before : length (take i w) ≡ i = length-take-le i w (omega (arith, twice.2, twice.3)) in
    inr (record {
      shorter = take i w ++ drop j w;
      less = omega (arith, length-append (take i w) (drop j w), before, length-drop j w, twice.2, twice.3);
      some = omega (arith, length-append (take i w) (drop j w), before);
      walk = Walk-join Step (take i w) (drop j w) s (cut i).0 t (cut i).1 (subst (λ u. Walk Step u (drop j w) t) (sym twice.4) (cut j).2);
      letters = All-append P (take i w) (drop j w) (All-take P i w all) (All-drop P j w all);
    }))
    (λ short. inl short)
    (cases_lt n (length w))
