-- What a flux says of the levels of trees.
use Rattle.std.proofs.Common.{◌≡◌, ◌≢◌, ℕ, ◌+◌, ◌/◌, ◌%◌, ◌^◌, ◌<◌, ◌≤◌, ◌⊎◌, inl, inr, ⊎_elim, List, slice_index, slice_index_or, ℤ, pos, ◌-ℤ◌, sym, ap₂, ◌∙◌, subst, arith}
use Rattle.word_image.proofs.Common.{ints, LocalRule, IsRule, node_count, IsFlux, IsConserving, end_node-below}
use Rattle.word_image.specs.declared.side.Side.TheVariants.{Right, Left}
use Rattle.ring_laws.proofs.FluxWindows.{FlowsAt-flux}
use Rattle.ring_laws.proofs.FluxWalks.{walk_gains}
use Rattle.ring_laws.proofs.LossyRings.{IsConserving-walk_gains}
use Rattle.rule_lists.specs.Completions.{IsCompletion}
use Rattle.rule_lists.specs.RuledOut.{RulesOut}
use Rattle.rule_lists.specs.declared.properties.Property.TheVariants.{Conserving}
use Rattle.rule_lists.specs.Forests.{AreLevels, AreKnown, GainsWith, IsMoved}
use Rattle.rule_lists.proofs.Sure.{is_shaped, IsRule-shaped}

-- a window gains with the letter of a rule what each flux of the rule says
pub GainsWith-flux : (r s : LocalRule) (letters : List ℕ) (phi : List ℤ) (w : ℕ) → IsCompletion r.states r.width letters s → IsFlux (λ a. a) s phi
    → w < r.states ^ r.width
    → GainsWith r w (slice_index s.table w) phi
GainsWith-flux r s letters phi w h flux within =
    FlowsAt-flux (IsRule-shaped r s letters h) (subst (λ x. IsFlux (λ a. a) x phi) (sym (is_shaped r s letters h)) flux) w within

-- a conserving rule that has the fixed letters has a flux, which gives each window its letter
pub GainsWith-conserving : (r s : LocalRule) (letters trees levels : List ℕ) (w : ℕ) → IsRule r → AreKnown r letters trees levels
    → IsCompletion r.states r.width letters s → IsConserving (λ a. a) s → w < r.states ^ r.width
    → slice_index trees (w / r.states) ≡ slice_index trees (w % node_count r)
    → slice_index s.table w + slice_index levels (w % node_count r) ≡ w / node_count r + slice_index levels (w / r.states)
GainsWith-conserving r s letters trees levels w rule known h keep within one =
    let phi : List ℤ = walk_gains (λ a. a) s in
    let flux : IsFlux (λ a. a) s phi = (IsConserving-walk_gains h.rule (λ a. a)).0 keep in
    let gains = GainsWith-flux r s letters phi w h flux within in
    let differ = known s phi h flux (w / r.states) (w % node_count r) (end_node-below Left rule w within) (end_node-below Right rule w within) one in
    omega (arith, ints)

-- where the levels of a window's nodes ask for no letter that it may have, no rule with the fixed letters is conserving
pub RulesOut-level : (r : LocalRule) (letters trees levels : List ℕ) (w first last begins least level : ℕ) → IsRule r → AreKnown r letters trees levels
    → w < r.states ^ r.width
    → first ≡ w / r.states → last ≡ w % node_count r → begins ≡ w / node_count r → slice_index trees first ≡ slice_index trees last
    → least ≡ slice_index levels last → level ≡ slice_index levels first + begins
    → ((a : ℕ) → a < r.states → (slice_index letters w < r.states → a ≡ slice_index letters w) → a + least ≢ level)
    → RulesOut Conserving r.states r.width letters
RulesOut-level r letters trees levels w first last begins least level rule known within ef el eb one is_least is_level apart s h keep =
    let e = GainsWith-conserving r s letters trees levels w rule known h keep within (rw (ef, el) at one) in
    let size : s.states ^ s.width ≡ r.states ^ r.width = ap₂ (λ (x y : ℕ). x ^ y) h.states h.width in
    apart (slice_index s.table w) (omega (arith, h.rule.letters w 0 (omega (arith, h.rule.entries, size, within)), h.states)) (λ fixed. h.fixed w within fixed) (omega (arith, e, rw el at is_least, rw ef at is_level, eb))

-- where one tree goes into another, and each rises so that the window that joins them gains what it does, levels differ as before
pub AreLevels-joined : (n : ℕ) (trees levels trees' levels' : List ℕ) (phi : List ℤ) (first last letter begins kept rise gone other : ℕ) → n ≤ 16
    → first < n → last < n
    → (pos letter -ℤ pos begins) ≡ slice_index_or phi first (pos 0) -ℤ slice_index_or phi last (pos 0)
    → kept ≡ slice_index trees first → rise ≡ slice_index levels last + letter → gone ≡ slice_index trees last
    → other ≡ slice_index levels first + begins
    → ((v : ℕ) → v < 16 → IsMoved kept rise gone other (slice_index trees v) (slice_index levels v) (slice_index trees' v) (slice_index levels' v))
    → AreLevels n trees levels phi → AreLevels n trees' levels' phi
AreLevels-joined n trees levels trees' levels' phi first last letter begins kept rise gone other few hf hl gains is_kept is_rise is_gone is_other each old u v hu hv same =
    let joined : ℤ = pos (slice_index levels last + letter + slice_index levels first) -ℤ slice_index_or phi first (pos 0) in
    let node : (x : ℕ) → x < n → ((slice_index trees' x ≡ kept) × ((pos (slice_index levels' x) -ℤ slice_index_or phi x (pos 0)) ≡ joined))
    ⊎ ((slice_index trees x ≢ kept) × (slice_index trees' x ≡ slice_index trees x) × (slice_index levels' x ≡ slice_index levels x)) =
    λ x hx. ⊎_elim
    (λ a. let e = old x first hx hf (a.0 ∙ is_kept) in inl (a.1, omega (arith, ints, e, is_rise, a.2)))
    (λ more. ⊎_elim
    (λ a. let e = old x last hx hl (a.0 ∙ is_gone) in inl (a.1, omega (arith, ints, e, gains, is_other, a.2)))
    (λ a. inr (a.0, a.2, a.3))
    more)
    (each x (omega arith)) in
    ⊎_elim
    (λ a. ⊎_elim (λ b. omega (arith, ints, a.1, b.1)) (λ b. absurd (b.0 (sym b.1 ∙ sym same ∙ a.0))) (node v hv))
    (λ a. ⊎_elim (λ b. absurd (a.0 (sym a.1 ∙ same ∙ b.0))) (λ b. let e = old u v hu hv (sym a.1 ∙ same ∙ b.1) in omega (arith, ints, e, a.2, b.2)) (node v hv))
    (node u hu)
