use Rattle.std.proofs.Common.{◌≡◌, ℕ, ◌+◌, ◌-◌, ◌*◌, ◌/◌, ◌%◌, ◌^◌, ◌≤◌, length, inr, ap, ◌∙◌, arith, ⊎_elim, pow_mono}
use Rattle.pair_laws.proofs.Common.{HasBit-none}
use Rattle.image_subsets.proofs.MarkSpreads.{AreBeyond-above, written_back, rows_room}
use Rattle.image_subsets.proofs.marks.Marks.mark.Goals as goal

pub returns-clause-marks : goal.returns-clause-marks
returns-clause-marks c =
    let n : ℕ = c.args.n in
    let count : ℕ = (1 * 2 ^ n % 2 ^ 64 + 64 - 1) / 64 in
    let room : 2 ^ n ≤ 64 * count = rows_room n c.requires.nodes in
    let most : 2 ^ n ≤ 2 ^ 16 = pow_mono c.requires.nodes in
    let above : c.deref.result.now ≡ c.mark_above.new.rows =
    c.deref.ensures.value ∙ written_back c.mark_above.new.rows c.copy.new.rows.items c.copy.new.rows.len (omega (arith, c.mark_above.auto.rows, c.deref_mut.ensures.len)) in
    let long : length c.deref.result.now ≡ count = ap length above ∙ c.mark_above.auto.rows ∙ ap length c.deref_mut.ensures.value ∙ c.copy.ensures.long in
    let blank = c.deref_mut-2.ensures.value ∙ c.blank.ensures.rows in
    rw (written_back c.mark_beyond.new.rows c.blank.new.rows.items c.blank.new.rows.len (omega (arith, c.mark_beyond.auto.rows, c.deref_mut-2.ensures.len)))
    (AreBeyond-above c.args.sets.now c.deref.result.now c.mark_beyond.new.rows c.requires.nodes
    (rw above (c.mark_above.ensures c.args.sets.now (λ x below.
    rw (c.deref_mut.ensures.value, c.copy.ensures.rows (x / 64) (omega (arith, below, room))) (c.rows.ensures.marked x (omega (arith, below, most))))))
    (λ x below.
    let exact = c.mark_beyond.ensures x (omega (arith, below, room, long)) in (
      (λ some. ⊎_elim (λ old. absurd (HasBit-none count (x / 64) (x % 64) (rw (← blank) old))) (λ holds. holds) (exact.0 some)),
      (λ holds. exact.1 (inr holds)),
    )))
