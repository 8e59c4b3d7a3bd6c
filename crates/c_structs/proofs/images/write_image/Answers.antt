use Rattle.std.proofs.Common.{ℕ, ℤ, length, sym, subst, ap, ◌∙◌, w64}
use Rattle.std.proofs.lemmas.Int.{to_z-of_z}
use Rattle.word_image.proofs.Common.{false≢true}
use Rattle.tail_config.proofs.Common.{IsTail, image_cell, run}
use Rattle.c_structs.specs.Images.{AreWithinReach, IsImageCall}
use Rattle.c_structs.proofs.images.write_image.Goals as goal

pub returns-then-not-have_periods : goal.returns-then-not-have_periods
returns-then-not-have_periods c =
    IsImageCall.NoPeriod c.k-k.ensures.rule (λ some. false≢true (sym c.if-not-have_periods.true ∙ c.have_periods.ensures.1 some))

pub returns-then-not-are_over : goal.returns-then-not-are_over
returns-then-not-are_over c =
    let over = λ (k : ℕ). IsTail k c.args.parts.now in
    IsImageCall.NoLetter c.k-k.ensures.rule (c.have_periods.ensures.0 c.if-not-have_periods.false)
    (λ tail. false≢true (sym c.if-not-are_over.true ∙ c.are_over.ensures.1 (subst over (sym c.k-k.ensures.states) tail)))

pub returns-then-not-are_within_reach : goal.returns-then-not-are_within_reach
returns-then-not-are_within_reach c =
    let over = λ (k : ℕ). IsTail k c.args.parts.now in
    let near = λ (first : ℤ). AreWithinReach first (length c.args.letters.now) in
    let passed = to_z-of_z w64 c.args.first c.ranges.first in
    IsImageCall.Far c.k-k.ensures.rule (subst over c.k-k.ensures.states (c.are_over.ensures.0 c.if-not-are_over.false))
    (λ within. false≢true (sym c.if-not-are_within_reach.true ∙ c.are_within_reach.ensures.1 (subst near (sym passed) within)))

pub returns : goal.returns
returns c =
    let over = λ (k : ℕ). IsTail k c.args.parts.now in
    let near = λ (first : ℤ). AreWithinReach first (length c.args.letters.now) in
    let passed = to_z-of_z w64 c.args.first c.ranges.first in
    let letters = λ (first : ℤ). run (image_cell c.args.rule.now c.args.parts.now) first (length c.args.letters.now) in
    let written = IsImageCall c.args.rule.now c.args.parts.now c.args.first c.args.letters.now 0 in
    subst written (sym (c.write_letters.ensures ∙ ap letters passed))
    (IsImageCall.Found c.k-k.ensures.rule (subst over c.k-k.ensures.states (c.are_over.ensures.0 c.if-not-are_over.false)) (subst near passed (c.are_within_reach.ensures.0 c.if-not-are_within_reach.false)))
