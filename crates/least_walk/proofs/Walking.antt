-- A breadth first search through the marked pairs, one step more at a time.
use Rattle.std.proofs.Common.{◌≡◌, ◌≢◌, ℕ, zero, suc, ◌+◌, ◌-◌, ◌*◌, ◌/◌, ◌%◌, ◌<◌, ◌≤◌, ◌↔◌, ◌⊎◌, inl, inr, List, [], ◌∷◌, ◌++◌, length, get_or, map, zero-mul, Option, Some, None, Bool, true, false, true≢false, refl, sym, ap, ◌∙◌, subst, subst₂, arith, ⊎_elim, slice_get, ◌==◌, mul-le-mul_right}
use Rattle.std.specs.Option.{option_eq}
use Rattle.word_image.proofs.Common.{cases_lt, Decides-eqb, map-append, length-map, length_push, slice_get_within, slice_get-get_or, none-some, same_Some, LocalRule, IsRule, node_count, pair_count, marked, slice_get-append, slice_get-push, slice_get-push_cases, only_place}
use Rattle.search_laws.proofs.Common.{Place, TreeSpells, NoEdgeBefore, Root, Branch, HaveMet-next, HaveMet-push, edge-within, IsQueue-start, IsQueue-there, IsQueue-new, mapped_at, unmapped_at, length-queue-le, state-below, TreeSpells-some, length-spelled-le, code, Leads-walk, CodeStep-some, IsLeastWalk-steps, PairWalk, IsLeastWalk, uncode}
use Rattle.search_laws.proofs.LeastSteps.{IsLeastStepsTo, IsLeastStepsTo-edge}
use Rattle.search_laws.proofs.QueueDepths.{lengths-ascending, no_word_within}
use Rattle.pair_laws.proofs.Common.{marked-below}
use Rattle.least_walk.specs.declared.queue.Reached.{Reached}
use Rattle.least_walk.specs.declared.breadth_first.Ends.{Ends}
use Rattle.least_walk.specs.Marks.{HasPair}
use Rattle.least_walk.specs.Queues.{MarkedStep, step_count, place_of, places_of, HasDepths, IsWalking, IsWalkSearch, IsEnded, IsArrival, IsNearStart, IsBackward, SpellsBefore}

-- what stands at a place stands there as a place
pub place_at : (queue : List Reached) (i : ℕ) (x : Reached) → slice_get queue i ≡ Some x → slice_get (places_of queue) i ≡ Some (place_of x)
place_at = mapped_at place_of

-- what stands at a place of the tree stands there as it was reached
pub reached_at : (queue : List Reached) (i : ℕ) (z : Place ℕ) → slice_get (places_of queue) i ≡ Some z
    → (x : Reached) × (slice_get queue i ≡ Some x) × (place_of x ≡ z)
reached_at = unmapped_at place_of

-- a step leads to a marked pair, and to one alone
MarkedStep-below : {r : LocalRule} → IsRule r → (s c t : ℕ) → MarkedStep r s c t → t < 2 * pair_count r
MarkedStep-below rule s c t step = marked-below rule s (c / 16) (c % 16) t step.follows

MarkedStep-unique : (r : LocalRule) (s c t u : ℕ) → MarkedStep r s c t → MarkedStep r s c u → t ≡ u
MarkedStep-unique r s c t u first second = let here = first.follows in let there = second.follows in cc

-- there are at most 512 marked pairs
pub states-few : {r : LocalRule} → IsRule r → 2 * pair_count r ≤ 512
states-few {r} rule = omega (arith, rule.shape.most_nodes, mul-le-mul_right (node_count r) rule.shape.most_nodes)

-- there are no more places than marked pairs
pub length-walking-le : {r : LocalRule} {ends : Ends} {queue : List Reached} {e : ℕ} → IsWalking r ends queue e → length queue ≤ 512
length-walking-le {r} {queue = queue} w =
    omega (arith, states-few w.rule, length-queue-le w.filled (2 * pair_count r) w.start_in (MarkedStep-below w.rule), length-map queue place_of)

-- a marked pair has been reached
abbrev pub IsListed : List Reached → ℕ → Type 0
IsListed queue t = (i : ℕ) × (x : Reached) × (slice_get queue i ≡ Some x) × (x.pair ≡ t)

-- the number of the edge after the edge n from place h
edge : (h k n : ℕ) → h * k + (n + 1) ≡ h * k + n + 1
edge h k n = omega arith

-- a search stays one where one more edge leads nowhere, or to what has been reached and isn't the goal
pub IsWalking-old : {r : LocalRule} {ends : Ends} {queue : List Reached} → (h n : ℕ) → IsWalking r ends queue (h * step_count r + n) → (x : Reached)
    → slice_get queue h ≡ Some x → n < step_count r
    → ((t : ℕ) → MarkedStep r x.pair n t → (ends.goal ≢ Some t) × IsListed queue t) → IsWalking r ends queue (h * step_count r + (n + 1))
IsWalking-old {r} {ends} {queue} h n w x at letter old =
    let there = place_at queue h x at in
    record {
      rule = w.rule;
      start_in = w.start_in;
      filled = rw (edge h (step_count r) n)
          (IsQueue-there w.filled h n (place_of x) refl letter there (λ t step. let (i, y, here, same) = (old t step).1 in (i, place_of y, place_at queue i y here, same)));
      depths = w.depths;
      none = λ t sought. rw (edge h (step_count r) n)
          (HaveMet-next (MarkedStep r) (λ u _. u ≢ t) (step_count r) (places_of queue) (h * step_count r + n) h n (place_of x) (w.none t sought) refl letter there
          (λ u step same. (old u step).0 (sought ∙ ap Some (sym same))));
    }

-- some more edges lead nowhere, or to what has been reached and isn't the goal
pub IsWalking-skip : {r : LocalRule} {ends : Ends} {queue : List Reached} → (h n d : ℕ) → IsWalking r ends queue (h * step_count r + n)
    → (x : Reached) → slice_get queue h ≡ Some x → n + d ≤ step_count r
    → ((c t : ℕ) → n ≤ c → c < n + d → MarkedStep r x.pair c t → (ends.goal ≢ Some t) × IsListed queue t)
    → IsWalking r ends queue (h * step_count r + (n + d))
IsWalking-skip {r} {ends} {queue} h n zero w x at within old =
    let none : h * step_count r + n ≡ h * step_count r + (n + 0) = omega arith in subst (IsWalking r ends queue) none w
IsWalking-skip {r} {ends} {queue} h n (suc d) w x at within old =
    let before = IsWalking-skip h n d w x at (omega arith) (λ c t least less. old c t least (omega arith)) in
    let more : h * step_count r + (n + d + 1) ≡ h * step_count r + (n + suc d) = omega arith in
    subst (IsWalking r ends queue) more (IsWalking-old h (n + d) before x at (omega arith) (λ t. old (n + d) t (omega arith) (omega arith)))

-- one place more, one step further than an earlier one
HasDepths-push : {queue : List Reached} → HasDepths queue → (x y : Reached) → slice_get queue y.parent ≡ Some x → y.depth ≡ x.depth + 1
    → HasDepths (queue ++ y ∷ [])
HasDepths-push {queue} d x y at more =
    let stays : (i : ℕ) (z : Reached) → slice_get queue i ≡ Some z → slice_get (queue ++ y ∷ []) i ≡ Some z = λ i z there. slice_get-append queue (y ∷ []) i z there in
    record {
      root = λ z there. ⊎_elim
          (λ before. d.root z before)
          (λ last. absurd (omega (arith, last.0, slice_get_within queue y.parent x at)))
          (slice_get-push_cases queue y 0 z there);
      more = λ i z some there. ⊎_elim
          (λ before. let (p, stands, deeper) = d.more i z some before in (p, stays z.parent p stands, deeper))
          (λ last. (x, stays z.parent x (subst (λ u. slice_get queue u.parent ≡ Some x) last.1 at), ap (λ u. u.depth) (sym last.1) ∙ more))
          (slice_get-push_cases queue y i z there);
    }

-- a search stays one where one more edge leads to what hasn't been reached and isn't the goal, and this is added
pub IsWalking-new : {r : LocalRule} {ends : Ends} {queue : List Reached} → (h n : ℕ) → IsWalking r ends queue (h * step_count r + n) → (x y : Reached)
    → slice_get queue h ≡ Some x → n < step_count r
    → y.parent ≡ h → y.step ≡ n → y.depth ≡ x.depth + 1 → MarkedStep r x.pair n y.pair → ends.goal ≢ Some y.pair → ¬ IsListed queue y.pair
    → IsWalking r ends (queue ++ y ∷ []) (h * step_count r + (n + 1))
IsWalking-new {r} {ends} {queue} h n w x y at letter parent by deeper step other new =
    let there = place_at queue h x at in
    let longer = map-append place_of queue (y ∷ []) in
    record {
      rule = w.rule;
      start_in = w.start_in;
      filled = rw (longer, edge h (step_count r) n)
          (IsQueue-new w.filled h n (place_of x) (place_of y) refl letter there parent by step (λ t also. MarkedStep-unique r x.pair n t y.pair also step)
          (λ j z here same. let (x', there', alike) = reached_at queue j z here in new (j, x', there', ap (λ p. p.state) alike ∙ same)));
      depths = HasDepths-push w.depths x y (ap (slice_get queue) parent ∙ at) deeper;
      none = λ t sought. rw (longer, edge h (step_count r) n)
          (HaveMet-push (MarkedStep r) (λ u _. u ≢ t) (step_count r) (places_of queue) (h * step_count r + n + 1) (place_of y)
          (HaveMet-next (MarkedStep r) (λ u _. u ≢ t) (step_count r) (places_of queue) (h * step_count r + n) h n (place_of x) (w.none t sought) refl letter there
          (λ u also same. other (sought ∙ ap Some (sym same ∙ MarkedStep-unique r x.pair n u y.pair also step))))
          (omega (arith, edge-within (step_count r) (places_of queue) h (n + 1) (place_of x) there (omega arith))));
    }

-- what a search has reached is a marked pair
pub queued-below : {r : LocalRule} {ends : Ends} {queue : List Reached} {e : ℕ} → IsWalking r ends queue e → (i : ℕ) (x : Reached)
    → slice_get queue i ≡ Some x → x.pair < 2 * pair_count r
queued-below {r} {queue = queue} w i x at =
    state-below w.filled (2 * pair_count r) w.start_in (MarkedStep-below w.rule) i (place_of x) (place_at queue i x at)

-- some more steps on the first letter a, from the second letter b on, lead to nothing that the rows don't have
pub IsWalkSearch-skip : {r : LocalRule} {ends : Ends} {queue : List Reached} {rows : List ℕ} → (h a b d n : ℕ)
    → IsWalkSearch r ends queue rows (h * step_count r + (a * 16 + b)) → (x : Reached) → slice_get queue h ≡ Some x
    → a < r.states → b + d ≤ 16 → n ≡ a * 16 + b + d
    → ((c t : ℕ) → b ≤ c → c < b + d → c < r.states → marked r x.pair a c ≡ Some t → HasPair r rows t)
    → IsWalkSearch r ends queue rows (h * step_count r + n)
IsWalkSearch-skip {r} h a b d n s x at letter small reach old = record {
  walking = rw reach (IsWalking-skip h (a * 16 + b) d s.walking x at (omega arith) (λ c t least less step.
      let parts : (c / 16 ≡ a) × (c % 16 ≡ c - a * 16) = (omega arith, omega arith) in
      let leads : marked r x.pair a (c - a * 16) ≡ Some t = rw (← parts.1, ← parts.0) step.follows in
      s.listed t (MarkedStep-below s.walking.rule x.pair c t step) (old (c - a * 16) t (omega arith) (omega arith) (omega (arith, step.second, parts.1)) leads)));
  listed = s.listed;
  all = s.all;
}

-- the next step leads to a marked pair that the rows don't have and that isn't the goal
pub IsWalkSearch-new : {r : LocalRule} {ends : Ends} {queue : List Reached} {rows : List ℕ} → (h a b : ℕ)
    → IsWalkSearch r ends queue rows (h * step_count r + (a * 16 + b)) → (x y : Reached) → slice_get queue h ≡ Some x
    → a < r.states → b < r.states → y.parent ≡ h → y.step ≡ a * 16 + b → y.depth ≡ x.depth + 1 → marked r x.pair a b ≡ Some y.pair
    → ends.goal ≢ Some y.pair → ¬ HasPair r rows y.pair
    → (after : List ℕ) → ((t : ℕ) → t < 2 * pair_count r → (HasPair r after t ↔ ((t ≡ y.pair) ⊎ HasPair r rows t)))
    → IsWalkSearch r ends (queue ++ y ∷ []) after (h * step_count r + (a * 16 + (b + 1)))
IsWalkSearch-new {r} {ends} {queue} {rows} h a b s x y at first second parent by deeper leads other new after more_rows =
    let rule = s.walking.rule in
    let step = CodeStep-some (marked r) r.states 16 x.pair a b y.pair rule.shape.most_states first second leads in
    let below = MarkedStep-below rule x.pair (a * 16 + b) y.pair step in
    let more : a * 16 + (b + 1) ≡ a * 16 + b + 1 = omega arith in
    record {
      walking = rw more (IsWalking-new h (a * 16 + b) s.walking x y at (omega (arith, rule.shape.most_states, first, second)) parent by deeper step other
          (λ (j, z, there, same). new (subst (HasPair r rows) same (s.all j z there (λ e. other (e ∙ ap Some same))))));
      listed = λ t inside some. ⊎_elim
          (λ same. (λ e. other (e ∙ ap Some same), (length queue, y, slice_get-push queue y, sym same)))
          (λ old. let (apart, (j, z, there, same)) = s.listed t inside old in (apart, (j, z, slice_get-append queue (y ∷ []) j z there, same)))
          ((more_rows t inside).0 some);
      all = λ i z there apart. ⊎_elim
          (λ before. (more_rows z.pair (queued-below s.walking i z before)).1 (inr (s.all i z before apart)))
          (λ last. let same = ap (λ w. w.pair) last.1 in (more_rows z.pair (omega (arith, same, below))).1 (inl (sym same)))
          (slice_get-push_cases queue y i z there);
    }

-- the start alone, which counts as reached unless it is the goal
pub IsWalkSearch-start : {r : LocalRule} {ends : Ends} → IsRule r → ends.start < 2 * pair_count r → (x : Reached) → x.pair ≡ ends.start → x.depth ≡ 0
    → (rows : List ℕ)
    → ((t : ℕ) → t < 2 * pair_count r → (HasPair r rows t ↔ ((t ≡ ends.start) × (ends.goal ≢ Some ends.start))))
    → IsWalkSearch r ends (x ∷ []) rows (0 * step_count r)
IsWalkSearch-start {r} {ends} rule start x at none rows exact = record {
  walking = rw (zero-mul (step_count r)) (record {
    rule = rule;
    start_in = start;
    filled = IsQueue-start (place_of x) at;
    depths = record {
      root = λ y there. ap (λ z. z.depth) (sym (only_place x y 0 there).1) ∙ none;
      more = λ i y some there. absurd (omega (arith, some, (only_place x y i there).0));
    };
    none = λ t sought i a u y there letter less step. absurd (omega (arith, less));
  });
  listed = λ t inside some. let (same, apart) = (exact t inside).0 some in ((λ e. apart (e ∙ ap Some same)), (0, x, refl, at ∙ sym same));
  all = λ i y there apart.
      let same : y.pair ≡ ends.start = ap (λ z. z.pair) (sym (only_place x y i there).1) ∙ at in
      (exact y.pair (omega (arith, same, start))).1 (same, (λ e. apart (e ∙ ap Some (sym same))));
}

-- the test whether the goal is this marked pair
pub goal-tells : (goal : Option ℕ) (q : ℕ) (b : Bool) → b ≡ option_eq (λ x y. x == y) goal (Some q)
    → (b ≡ true → goal ≡ Some q) × (b ≡ false → goal ≢ Some q)
goal-tells None q b e = (λ yes. absurd (true≢false (sym yes ∙ e)), λ no same. none-some q same)
goal-tells (Some x) q b e =
    let test = Decides-eqb x q in (λ yes. ap Some (test.0 (sym e ∙ yes)), λ no same. true≢false (sym (test.1 (same_Some x q same)) ∙ sym e ∙ no))

-- a search that has reached a place leads back from it
pub IsBackward-walking : {r : LocalRule} {ends : Ends} {queue : List Reached} {e : ℕ} → IsWalking r ends queue e → IsBackward queue
IsBackward-walking {queue = queue} w i x positive at = (w.filled.fills.branches i (place_of x) positive (place_at queue i x at)).earlier

-- the word that is spelled to a place has as many letters as steps lead there
pub length-walked : {r : LocalRule} {ends : Ends} {queue : List Reached} {e i : ℕ} {w : List ℕ} → IsWalking r ends queue e
    → TreeSpells (places_of queue) i w
    → (x : Reached) → slice_get queue i ≡ Some x → length w ≡ x.depth
length-walked walking Root x at = sym (walking.depths.root x at)
length-walked {queue = queue} walking (Branch i z w some there before) x at =
    let (p, stands, deeper) = walking.depths.more i x some at in
    let here = place_at queue i x at in
    let alike : place_of x ≡ z = cc in
    let rest = length-walked walking before p (subst (λ j. slice_get queue j ≡ Some p) (ap (λ (y : Place ℕ). y.parent) alike) stands) in
    omega (arith, length_push w z.letter)

-- fewer than 512 steps lead to a place, since there are at most 512 places
pub depth-below : {r : LocalRule} {ends : Ends} {queue : List Reached} {e : ℕ} → IsWalking r ends queue e → (i : ℕ) (x : Reached)
    → slice_get queue i ≡ Some x → x.depth < 512
depth-below {queue = queue} w i x at =
    let (v, spells) = TreeSpells-some w.filled.fills i (place_of x) (place_at queue i x at) in
    omega (arith, length-spelled-le w.filled.fills spells, length-walked w spells x at, slice_get_within queue i x at, length-walking-le w)

-- later places are no nearer
pub deeper : {r : LocalRule} {ends : Ends} {queue : List Reached} {e : ℕ} → IsWalking r ends queue e
    → (i j : ℕ) (x y : Reached) → i ≤ j → slice_get queue i ≡ Some x → slice_get queue j ≡ Some y → x.depth ≤ y.depth
deeper {queue = queue} w i j x y le at there =
    let (u, spells) = TreeSpells-some w.filled.fills i (place_of x) (place_at queue i x at) in
    let (v, also) = TreeSpells-some w.filled.fills j (place_of y) (place_at queue j y there) in
    omega (arith, lengths-ascending w.filled le spells also (place_of x) (place_of y) (place_at queue i x at) (place_at queue j y there), length-walked w spells x at, length-walked w also y there)

-- where only the edges from the places before the head were followed, and these are nearer than `most` steps, no place is further
pub near-all : {r : LocalRule} {ends : Ends} {queue : List Reached} {most : ℕ} → (h : ℕ) → IsWalking r ends queue (h * step_count r)
    → ((i : ℕ) (x : Reached) → i < h → slice_get queue i ≡ Some x → x.depth < most) → (i : ℕ) (x : Reached) → slice_get queue i ≡ Some x
    → x.depth ≤ most
near-all h w near zero x at = omega (arith, w.depths.root x at)
near-all {r} {ends} {queue} {most} h w near (suc i) x at =
    let (p, stands, further) = w.depths.more (suc i) x (omega arith) at in
    let early = w.filled.fills.so_far (suc i) (place_of x) (place_at queue (suc i) x at) in
    let before : x.parent < h = ⊎_elim
    (λ less. less)
    (λ past. let rows : h * step_count r ≤ x.parent * step_count r = mul-le-mul_right (step_count r) past in absurd (omega (arith, early, rows)))
    (cases_lt x.parent h) in
    omega (arith, near x.parent p before stands, further)

-- the steps to the place where a search arrives, and the last one, are the least walk
pub IsLeastWalk-arrival : {r : LocalRule} {ends : Ends} {queue : List Reached} {place step goal : ℕ} {steps : List ℕ}
    → IsArrival r ends queue place step → ends.goal ≡ Some goal
    → SpellsBefore queue place (step ∷ []) steps → IsLeastWalk (marked r) r.states ends.start goal (map (uncode 16) steps)
IsLeastWalk-arrival {r} {ends} {queue} {place} {step} {goal} a sought (w, spells, whole) =
    let one : a.goal ≡ goal = same_Some a.goal goal (sym a.sought ∙ sought) in
    let first = IsLeastStepsTo-edge a.walking.filled spells (place_of a.from) (place_at queue place a.from a.stands) step a.letters refl a.goal (a.walking.none a.goal a.sought) a.arrives in
    IsLeastWalk-steps a.walking.rule.shape.most_states (subst₂ (IsLeastStepsTo (MarkedStep r) (step_count r) ends.start) one (sym whole) first)

-- the walk to where a search arrives has at most one step more than the place is away
pub length-arrival : {r : LocalRule} {ends : Ends} {queue : List Reached} {place step most : ℕ} {steps : List ℕ} → IsArrival r ends queue place step
    → IsNearStart queue place most
    → SpellsBefore queue place (step ∷ []) steps → length steps ≤ most
length-arrival {step = step} a near (w, spells, whole) =
    omega (arith, near a.from a.stands, length-walked a.walking spells a.from a.stands, length_push w step, ap length whole)

-- a search that stops at places `most` steps away, and found no edge to a marked pair, has not missed a walk of at most `most` steps to it
pub no_walk-edge : {r : LocalRule} {ends : Ends} {queue : List Reached} {most goal : ℕ} → (x : IsEnded r ends queue most)
    → NoEdgeBefore (MarkedStep r) (step_count r) (places_of queue) x.edges goal
    → (w : List (ℕ × ℕ)) → 0 < length w → length w ≤ most → ¬ PairWalk (marked r) r.states ends.start w goal
no_walk-edge {r} {ends} {queue} {most} {goal} x none w some short walk =
    no_word_within x.walking.filled {most = most}
    (record {
      followed = x.followed;
      deep = λ i z v past at spells. let (y, there, alike) = reached_at queue i z at in omega (arith, x.deep i y past there, length-walked x.walking spells y there);
    })
    none (map (code 16) w) (omega (arith, length-map w (code 16))) (omega (arith, length-map w (code 16)))
    (Leads-walk 16 x.walking.rule.shape.most_states walk)

-- with a bound of 512 an ended search has followed all edges
pub all_followed : {r : LocalRule} {ends : Ends} {queue : List Reached} {most : ℕ} → 512 ≤ most → (x : IsEnded r ends queue most)
    → length (places_of queue) * step_count r ≤ x.edges
all_followed {r} {ends} {queue} large x =
    let all : length queue ≤ x.head = ⊎_elim
    (λ short.
    let y = get_or queue x.head (record { pair = 0; parent = 0; step = 0; depth = 0 }) in
    let at : slice_get queue x.head ≡ Some y = slice_get-get_or queue x.head _ short in
    absurd (omega (arith, x.deep x.head y (omega arith) at, depth-below x.walking x.head y at)))
    (λ l. l)
    (cases_lt x.head (length queue)) in
    let rows : length queue * step_count r ≤ x.head * step_count r = mul-le-mul_right (step_count r) all in
    omega (arith, rows, ap (λ n. n * step_count r) (length-map queue place_of), x.followed)
