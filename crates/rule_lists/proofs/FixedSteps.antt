-- Steps by fixed letters are steps of each rule that has these letters.
use Rattle.std.proofs.Common.{◌≡◌, ◌≢◌, ℕ, zero, suc, ◌<◌, List, subst, ⊎_elim, arith}
use Rattle.word_image.proofs.Common.{LocalRule, IsRule, first_of, second_of, pair_count, PairStep, LeadsOn, PairGoes, IsFirstOfRight, window_with-within, IsEndless}
use Rattle.word_image.specs.declared.side.Side.{Side}
use Rattle.word_image.specs.declared.side.Side.TheVariants.{Right, Left}
use Rattle.pair_laws.proofs.Common.{first_of-below, second_of-below, Together-zero, PairGoes-push}
use Rattle.pair_laws.proofs.Mirrors.{Together-same}
use Rattle.tail_config.proofs.Common.{IsInjective}
use Rattle.tail_laws.proofs.Common.{no_twins}
use Rattle.tail_laws.proofs.EndlessPairs.{has_twins-both_ways}
use Rattle.rule_lists.specs.Completions.{IsCompletion}
use Rattle.rule_lists.specs.EndlessPairs.{IsFixedStep, FixedLeadsOn, AreEndlessOn, IsFixedFirst}
use Rattle.rule_lists.proofs.Sure.{is_shaped}

-- a fixed step is a step of each rule that has the letters
pub PairStep-fixed : (r s : LocalRule) (letters : List ℕ) → IsRule r → IsCompletion r.states r.width letters s → (p q : ℕ) → IsFixedStep r letters p q
    → PairStep s p q
PairStep-fixed r s letters rule h p q step =
    let first = h.fixed _ (window_with-within Right rule (first_of r p) step.a (first_of-below rule p step.in_pairs) step.a_letter) step.fixed in
    let second = h.fixed _ (window_with-within Right rule (second_of r p) step.b (second_of-below rule p) step.b_letter) (subst (λ c. c < r.states) step.one step.fixed) in
    subst (λ x. PairStep x p q) (is_shaped r s letters h) (grind arith)

-- a fixed step leads on in each rule that has the letters
pub LeadsOn-fixed : (side : Side) (r s : LocalRule) (letters : List ℕ) → IsRule r → IsCompletion r.states r.width letters s → (p q : ℕ)
    → FixedLeadsOn side r letters p q → LeadsOn side s p q
LeadsOn-fixed Right r s letters rule h p q step = PairStep-fixed r s letters rule h p q step
LeadsOn-fixed Left r s letters rule h p q step = PairStep-fixed r s letters rule h q p step

-- a first pair of the fixed letters is one of each rule that has them
pub IsFirstOfRight-fixed : (r s : LocalRule) (letters : List ℕ) → IsRule r → IsCompletion r.states r.width letters s → (p : ℕ)
    → IsFixedFirst r letters p → IsFirstOfRight s p
IsFirstOfRight-fixed r s letters rule h p f =
    let first = h.fixed _ (window_with-within Right rule f.node f.a f.in_nodes f.a_letter) f.fixed in
    let second = h.fixed _ (window_with-within Right rule f.node f.b f.in_nodes f.b_letter) (subst (λ c. c < r.states) f.one f.fixed) in
    subst (λ x. IsFirstOfRight x p) (is_shaped r s letters h) (grind arith)

-- a pair of two equal nodes goes on for ever
pub PairGoes-equal : (side : Side) (r s : LocalRule) (letters : List ℕ) → IsRule r → IsCompletion r.states r.width letters s → (p : ℕ)
    → p < pair_count r → first_of r p ≡ second_of r p → IsEndless (PairGoes side s p)
PairGoes-equal side r s letters rule h p below one n = grind (arith, Together-same)

-- the pairs of the set go on for every length in each rule that has the letters
pub PairGoes-fixed : (side : Side) (r s : LocalRule) (letters : List ℕ) (Set : ℕ → Type 0) → IsRule r → AreEndlessOn side r letters Set
    → IsCompletion r.states r.width letters s → (n p : ℕ) → Set p → PairGoes side s p n
PairGoes-fixed side r s letters Set rule endless h zero p has = grind (arith, Together-zero, first_of-below)
PairGoes-fixed side r s letters Set rule endless h (suc n) p has =
    let (below, next) = endless p has in
    ⊎_elim
    (λ one. PairGoes-equal side r s letters rule h p below one (suc n))
    (λ (q, step, more). PairGoes-push side h.rule p q n (suc n) (omega arith) (LeadsOn-fixed side r s letters rule h p q step) (PairGoes-fixed side r s letters Set rule endless h n q more))
    next

-- a pair of two different nodes that goes on for ever on both sides rules out injective rules
pub IsInjective-none : (r s : LocalRule) (letters : List ℕ) (p : ℕ) → IsCompletion r.states r.width letters s → first_of r p ≢ second_of r p
    → IsEndless (PairGoes Left s p) → IsEndless (PairGoes Right s p) → ¬ IsInjective s
IsInjective-none r s letters p h different back on =
    let apart : first_of s p ≢ second_of s p = grind arith in
    no_twins (has_twins-both_ways h.rule apart (back (pair_count s)) (on (pair_count s))).2
