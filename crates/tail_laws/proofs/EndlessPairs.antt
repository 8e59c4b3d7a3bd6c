-- Nodes that begin or end together for as long as there are pairs give loops, and loops give splits and twins.
use Rattle.std.proofs.Common.{◌≢◌, ℕ, suc, ◌+◌, ◌-◌, ◌<◌, List, refl, subst, subst₂, ⊎_elim, arith}
use Rattle.word_image.proofs.Common.{cases_eq, LocalRule, IsRule, pair_of, pair_count, IsTwins, BeginTogether, EndTogether, IsFirstOfRight, PairGoes}
use Rattle.word_image.specs.declared.side.Side.TheVariants.{Right}
use Rattle.pair_laws.proofs.Walks.{LeadTogether, LeadTogether-first, LeadTogether-join}
use Rattle.pair_laws.proofs.Common.{BeginTogether-walk, EndTogether-walk, pair_of-first_of, Loops-long}
use Rattle.tail_config.proofs.Common.{TailConfig, IsNormalRightSplit}
use Rattle.tail_laws.proofs.TwinWalks.{node_at-loop, IsTwins-walk}
use Rattle.tail_laws.proofs.FirstPairs.{IsLetterWalk-walk, LeadsToLoop, normal_split-loop, LeadTogether-diagonal}

-- nodes that begin together for as long as there are pairs lead to a loop
pub LeadsToLoop-begin : {r : LocalRule} {u v : ℕ} → IsRule r → BeginTogether r u v (pair_count r) → LeadsToLoop r (pair_of r u v)
LeadsToLoop-begin {r} rule h =
    let w = Loops-long rule (omega arith) (BeginTogether-walk h).2 in
    record {
      pair = pair_of r w.s w.t;
      before = w.i;
      turn = suc w.l;
      reach = IsLetterWalk-walk rule w.before;
      loop = IsLetterWalk-walk rule w.loop;
      some = omega arith;
      within = w.within;
    }

-- a rule has a normal right split
abbrev pub HasNormalSplit : LocalRule → Type 0
HasNormalSplit r = (x : TailConfig) × (y : TailConfig) × IsNormalRightSplit r x y

-- a first pair that begins together for as long gives one
pub normal_split-begins : {r : LocalRule} {p : ℕ} → IsRule r → IsFirstOfRight r p → PairGoes Right r p (pair_count r) → HasNormalSplit r
normal_split-begins {r} {p} rule f h =
    let w : LeadsToLoop r p = subst (LeadsToLoop r) (pair_of-first_of r p) (LeadsToLoop-begin rule h) in
    (_, _, normal_split-loop rule f w)

-- a rule has twins
abbrev pub HasTwins : LocalRule → Type 0
HasTwins r = (x : List ℕ) × (y : List ℕ) × IsTwins r x y

-- a walk from two different nodes back to them gives twins
has_twins-round : {r : LocalRule} {u v n : ℕ} → IsRule r → u ≢ v → 0 < n → LeadTogether r u v n u v → HasTwins r
has_twins-round rule other some walk =
    let w = IsLetterWalk-walk rule walk in
    let nodes = LeadTogether-first walk in
    grind (arith, node_at-loop, IsTwins-walk)

-- two different nodes that end and begin together for as long as there are pairs give twins: before and after them are loops, and if each loop is at one node twice a walk leads from the second back to the first
pub has_twins-both_ways : {r : LocalRule} {u v : ℕ} → IsRule r → u ≢ v → EndTogether r u v (pair_count r) → BeginTogether r u v (pair_count r)
    → HasTwins r
has_twins-both_ways {r} {u} {v} rule other back on =
    let from = Loops-long rule (omega arith) (EndTogether-walk back).2 in
    let to = Loops-long rule (omega arith) (BeginTogether-walk on).2 in
    let d : ℕ = r.width - 1 in
    ⊎_elim
    (λ first. ⊎_elim
    (λ second.
    let way = LeadTogether-diagonal {r = r} to.s from.s (LeadTogether-first to.loop).0 (LeadTogether-first from.loop).0 in
    has_twins-round rule other (omega (arith, rule.shape.least_width)) (LeadTogether-join {n = to.i + (d + from.k)} rule refl to.before
    (LeadTogether-join {n = d + from.k} rule refl (subst₂ (λ a b. LeadTogether r to.s a d from.s b) second first way) from.after)))
    (λ apart. has_twins-round rule apart (omega arith) to.loop)
    (cases_eq to.s to.t))
    (λ apart. has_twins-round rule apart (omega arith) from.loop)
    (cases_eq from.s from.t)
