-- Steps of closures: from the set of all nodes a word leads to the closure of its last nodes, and to no other set.
use Rattle.image_minimal.proofs.Common.{◌≡◌, ℕ, List, [], ◌∷◌, slice_index, refl, sym, subst, LocalRule, IsRule, IsWord, full_set, IsStep, IsLastSet, IsLastSet-full, IsLastSet-step, Walk, Leads, Leads-induct, IsStep-some, IsSetOf-unique, IsClosure, IsClosedStep, AreClosures}
use Rattle.image_minimal.proofs.laws.Closures.{AreReadAlike-closure, AreReadAlike-step, IsClosure-alike, IsClosure-unique, IsClosure-full}

-- a closed step on a letter leads to one set
pub IsClosedStep-unique : {r : LocalRule} {set a s t : ℕ} → IsClosedStep r set a s → IsClosedStep r set a t → s ≡ t
IsClosedStep-unique {r} {set} {a} {s} {t} first second =
    let same : first.to ≡ second.to = IsSetOf-unique first.step second.step in
    IsClosure-unique first.closure (subst (λ n. IsClosure r n t) (sym same) second.closure)

-- from all nodes the word leads to the set, by closed steps
abbrev pub LeadsToClosure : LocalRule → List ℕ → ℕ → Type 0
LeadsToClosure r = Leads (IsClosedStep r) r.states (full_set r)

-- the last nodes of a word, and their closure
pub record IsLastClosure (r : LocalRule) (w : List ℕ) (closure : ℕ) : Type 0 where
  pub set : ℕ
  pub last : IsLastSet r w set
  pub closes : IsClosure r set closure

-- where a word leads is the closure of its last nodes
pub IsLastClosure-leads : {r : LocalRule} {w : List ℕ} {closure : ℕ} → IsRule r → LeadsToClosure r w closure → IsLastClosure r w closure
IsLastClosure-leads {r} {w} {closure} rule = Leads-induct (IsLastClosure r) (record { set = full_set r; last = IsLastSet-full r; closes = IsClosure-full r })
    (λ v a before after leads letter step h.
    let next = IsStep-some r h.set a in
    record {
      set = next.0;
      last = IsLastSet-step {set = h.set} rule h.last letter next.1;
      closes = IsClosure-alike rule step.step.within next.1.within (AreReadAlike-step {s = before} {t = h.set} letter (AreReadAlike-closure rule h.last.last.within h.closes) step.step next.1) step.closure;
    }) w closure

-- a step to a set is a closed step to its closure
pub closed_step : {r : LocalRule} {closures : List ℕ} {to : ℕ} (set a : ℕ) → AreClosures r closures → IsStep r set a to
    → IsClosedStep r set a (slice_index closures to)
closed_step {to = to} set a h step = record { to = to; step = step; closure = h.closure to step.within }

-- where each set of nodes has a closure, a word leads from each set to some set by closed steps
closed_walk : {r : LocalRule} {closures : List ℕ} → AreClosures r closures → (w : List ℕ) (set : ℕ) → (end : ℕ) × Walk (IsClosedStep r) set w end
closed_walk h [] set = (set, refl)
closed_walk {r} {closures} h (a ∷ w) set =
    let (next, step) = IsStep-some r set a in
    let (end, rest) = closed_walk h w (slice_index closures next) in
    (end, (slice_index closures next, closed_step set a h step, rest))

pub LeadsToClosure-some : {r : LocalRule} {closures : List ℕ} → AreClosures r closures → (w : List ℕ) → IsWord r.states w
    → (closure : ℕ) × LeadsToClosure r w closure
LeadsToClosure-some {r} h w word = let (end, walk) = closed_walk h w (full_set r) in (end, record { walk = walk; word = word })
