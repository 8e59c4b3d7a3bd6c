-- Every rule has a determined window or twins, and on each side a look-ahead or a normal split (Amoroso and Patt 1972, Sutner 1991).
use Rattle.std.proofs.Common.{◌≡◌, ◌≢◌, ◌⊎◌, ℕ, ◌<◌, List, neg_ℤ, inl, inr, refl, ⊎_elim, subst, arith, ◌↔◌}
use Rattle.word_image.proofs.Common.{cases_eq, cases_lt, LocalRule, IsRule, mirrored, node_count, IsDetermined, IsTwins, IsRightAhead, next, label, first_of, second_of, pair_count, BeginTogether, next-below, IsRule-mirrored, PairGoes, IsLeftAhead, seen_from, some_below, decide_both, exists_below}
use Rattle.word_image.specs.declared.side.Side.{Side}
use Rattle.word_image.specs.declared.side.Side.TheVariants.{Right, Left}
use Rattle.pair_laws.proofs.Common.{HasEndlessFirst, first_of-below, second_of-below, PairGoes-pair_of, Together-decide, IsDetermined-none_both_ways, some_ahead, no_ahead}
use Rattle.tail_config.proofs.Common.{TailConfig, IsInjective, IsRightClosing, IsLeftClosing, IsNormalRightSplit, cell, mirror_of, cell-below}
use Rattle.tail_laws.specs.Closing.{IsClosing}
use Rattle.tail_laws.proofs.Injective.{IsInjective-determined, agree_determined}
use Rattle.tail_laws.proofs.Closing.{IsRightClosing-ahead}
use Rattle.tail_laws.proofs.Sides.{flip, same_from_mirrored, IsLeftClosing-ahead, IsLeftSplit-mirror}
use Rattle.tail_laws.proofs.TwinTails.{no_twins}
use Rattle.tail_laws.proofs.Verdicts.{IsRightClosing-none, IsLeftClosing-none}
use Rattle.tail_laws.proofs.EndlessPairs.{HasNormalSplit, normal_split-begins, HasTwins, has_twins-both_ways}

-- a rule has a determined window
abbrev pub HasWindow : LocalRule → Type 0
HasWindow r = (n : ℕ) × (c : ℕ) × IsDetermined r n c

-- two numbers are different or not
differ_or_not : (a b : ℕ) → (a ≢ b) ⊎ ¬ (a ≢ b)
differ_or_not a b = ⊎_elim (λ e. inr (λ n. n e)) (λ n. inl n) (cases_eq a b)

-- the nodes of a pair differ, and end and begin together for as long as there are pairs
abbrev pub IsLongBothWays : LocalRule → ℕ → Type 0
IsLongBothWays r p = (first_of r p ≢ second_of r p) × (PairGoes Left r p (pair_count r) × PairGoes Right r p (pair_count r))

-- of each pair it is decided whether its nodes differ, and end and begin together for as long as there are pairs
long_or_not : {r : LocalRule} → IsRule r → (p : ℕ) → ((p < pair_count r) × IsLongBothWays r p) ⊎ ¬ ((p < pair_count r) × IsLongBothWays r p)
long_or_not {r} rule p =
    ⊎_elim (λ l. decide_both (inl l) (decide_both (differ_or_not (first_of r p) (second_of r p)) (decide_both
    (Together-decide Left rule (pair_count r) (first_of r p) (second_of r p) (first_of-below rule p l) (second_of-below rule p))
    (Together-decide Right rule (pair_count r) (first_of r p) (second_of r p) (first_of-below rule p l) (second_of-below rule p)))))
    (λ l. inr (λ h. let within : p < pair_count r = h.0 in absurd (omega arith))) (cases_lt p (pair_count r))

-- a rule has a determined window or twins
pub window_or_twins : {r : LocalRule} → IsRule r → HasWindow r ⊎ HasTwins r
window_or_twins {r} rule =
    ⊎_elim (λ h. inr (has_twins-both_ways rule h.2.1.0 h.2.1.1.0 h.2.1.1.1))
    (λ none. inl (_, _, IsDetermined-none_both_ways rule (λ p l other endless. none p l (l, (other, (endless.ends (pair_count r), endless.begins (pair_count r)))))))
    (some_below (λ p. (p < pair_count r) × IsLongBothWays r p) (long_or_not rule) (pair_count r))

-- a rule is injective exactly where it has no twins
pub IsInjective-no_twins : {r : LocalRule} → IsRule r → IsInjective r ↔ ((x y : List ℕ) → ¬ IsTwins r x y)
IsInjective-no_twins {r} rule = (
  λ injective x y twins. no_twins twins injective,
  λ none. ⊎_elim (λ w. IsInjective-determined rule w.2) (λ t. absurd (none t.0 t.1 t.2)) (window_or_twins rule),
)

-- a rule is injective exactly where it has a determined window
pub IsInjective-window : {r : LocalRule} → IsRule r → IsInjective r ↔ HasWindow r
IsInjective-window {r} rule = (
  λ injective. ⊎_elim (λ w. w) (λ t. absurd (no_twins t.2 injective)) (window_or_twins rule),
  λ w. IsInjective-determined rule w.2,
)

-- from one node two different letters lead with one label to nodes that begin together for as long as there are pairs
abbrev pub IsLongFirst : LocalRule → ℕ → ℕ → ℕ → Type 0
IsLongFirst r node a b = (a ≢ b) × ((label r node a ≡ label r node b) × BeginTogether r (next r node a) (next r node b) (pair_count r))

-- two letters with one label to nodes that begin together for as long as there are pairs give a normal split
first_split : {r : LocalRule} → IsRule r → (node a b : ℕ) → node < node_count r → a < r.states → b < r.states → IsLongFirst r node a b
    → HasNormalSplit r
first_split {r} rule node a b hn ha hb h =
    normal_split-begins rule
    (record { node = node; a = a; b = b; in_nodes = hn; a_letter = ha; b_letter = hb; different = h.0; one_label = h.1.0; pair = refl })
    ((PairGoes-pair_of Right r (next r node a) (next r node b) (pair_count r) (next-below rule node b)).1 h.1.1)

-- a rule looks ahead to the right or has a normal right split
pub ahead_or_split : {r : LocalRule} → IsRule r → ((n : ℕ) × IsRightAhead r n) ⊎ HasNormalSplit r
ahead_or_split {r} rule =
    let at : (node a b : ℕ) → IsLongFirst r node a b ⊎ ¬ IsLongFirst r node a b = λ node a b.
    decide_both (differ_or_not a b) (decide_both (cases_eq (label r node a) (label r node b)) (Together-decide Right rule (pair_count r) (next r node a) (next r node b) (next-below rule node a) (next-below rule node b))) in
    let letter = λ (node a : ℕ). exists_below (IsLongFirst r node a) (at node a) r.states in
    let letters = λ (node : ℕ). exists_below (λ a. (b : ℕ) × (b < r.states) × IsLongFirst r node a b) (letter node) r.states in
    ⊎_elim (λ h. inr (first_split rule h.0 h.2.0 h.2.2.0 h.1 h.2.1 h.2.2.1 h.2.2.2))
    (λ none. inl ((some_ahead Right rule).1 (λ p f endless. none f.node f.in_nodes (
      f.a,
      f.a_letter,
      (
        f.b,
        f.b_letter,
        (
          f.different,
          (
            f.one_label,
            (PairGoes-pair_of Right r (next r f.node f.a) (next r f.node f.b) (pair_count r) (next-below rule f.node f.b)).0
                (subst (λ q. PairGoes Right r q (pair_count r)) f.pair (endless (pair_count r))),
          ),
        ),
      ),
    ))))
    (some_below (λ node. (a : ℕ) × (a < r.states) × ((b : ℕ) × (b < r.states) × IsLongFirst r node a b)) letters (node_count r))

-- a rule is right-closing exactly where it has no normal right split
pub IsRightClosing-no_normal : {r : LocalRule} → IsRule r → IsRightClosing r ↔ ((x y : TailConfig) → ¬ IsNormalRightSplit r x y)
IsRightClosing-no_normal {r} rule = (
  λ closing x y s. (IsRightClosing-none r).0 closing x y s.split,
  λ none. ⊎_elim (λ a. IsRightClosing-ahead rule a.1) (λ s. absurd (none s.0 s.1 s.2)) (ahead_or_split rule),
)

-- a rule is right-closing exactly where it looks ahead to the right
pub IsRightClosing-window : {r : LocalRule} → IsRule r → IsRightClosing r ↔ ((n : ℕ) × IsRightAhead r n)
IsRightClosing-window {r} rule = (
  λ closing. ⊎_elim (λ a. a) (λ s. absurd ((IsRightClosing-no_normal rule).0 closing s.0 s.1 s.2)) (ahead_or_split rule),
  λ a. IsRightClosing-ahead rule a.1,
)

-- a rule is injective if the mirrored rule is
pub IsInjective-from_mirrored : {r : LocalRule} → IsRule r → IsInjective (mirrored r) → IsInjective r
IsInjective-from_mirrored {r} rule injective x y hx hy share =
    same_from_mirrored rule (cell-below hx) (cell-below hy) share
    (agree_determined {r = mirrored r} {x = flip (cell x)} {y = flip (cell y)} (IsRule-mirrored rule) ((IsInjective-window (IsRule-mirrored rule)).0 injective).2 (λ j. cell-below hx (neg_ℤ j)) (λ j. cell-below hy (neg_ℤ j)))

-- a rule is left-closing exactly where it looks ahead to the left
pub IsLeftClosing-window : {r : LocalRule} → IsRule r → IsLeftClosing r ↔ ((n : ℕ) × IsLeftAhead r n)
IsLeftClosing-window {r} rule = (
  λ closing. ⊎_elim (λ a. a) (λ s. absurd ((IsLeftClosing-none r).0 closing (mirror_of s.0) (mirror_of s.1) (IsLeftSplit-mirror rule s.2.middles s.2.split))) (ahead_or_split (IsRule-mirrored rule)),
  λ a. IsLeftClosing-ahead rule a.1,
)

-- a rule is left-closing exactly where the mirrored rule is right-closing
pub IsLeftClosing-mirrored : {r : LocalRule} → IsRule r → IsLeftClosing r ↔ IsRightClosing (mirrored r)
IsLeftClosing-mirrored {r} rule =
    let left = IsLeftClosing-window rule in
    let right = IsRightClosing-window (IsRule-mirrored rule) in
    (λ closing. right.1 (left.0 closing), λ closing. left.1 (right.0 closing))

-- a rule closes on a side exactly where it looks ahead there
pub closing_ahead : (side : Side) {r : LocalRule} → IsRule r → IsClosing side r ↔ ((n : ℕ) × IsRightAhead (seen_from side r) n)
closing_ahead Right rule = IsRightClosing-window rule
closing_ahead Left rule = IsLeftClosing-window rule

-- a rule with an endless first pair doesn't close
pub not_closing : (side : Side) {r : LocalRule} → IsRule r → HasEndlessFirst side r → ¬ IsClosing side r
not_closing side rule h closing = let ahead = (closing_ahead side rule).0 closing in no_ahead side rule h ahead.0 ahead.1
