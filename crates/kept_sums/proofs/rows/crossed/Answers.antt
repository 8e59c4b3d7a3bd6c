use Rattle.std.proofs.Common.{◌≡◌, ℕ, ◌^◌, ◌≤◌, ℤ, pos, ◌-ℤ◌, ◌*ℤ◌, refl, sym, subst, ◌∙◌, w64, to_z, of_z, arith, unsigned_abs, length-set}
use mir.Syntax.{w128}
use Rattle.word_image.proofs.Common.{set_more}
use Rattle.kept_sums.specs.Rows.{at}
use Rattle.kept_sums.proofs.Casts.{back}
use Rattle.kept_sums.proofs.rows.crossed.Goals as goal

pub loop-place-preserved : goal.loop-place-preserved
loop-place-preserved c =
    let n = c.loop-place.place in
    let gain = to_z w64 (of_z w64 c.args.gain) in
    let lead = to_z w64 (of_z w64 c.args.lead) in
    let P : ℕ → ℤ → Type 0 = λ a x. (x ≡ (lead *ℤ at c.args.row.now a) -ℤ (gain *ℤ at c.args.other.now a)) × (unsigned_abs x ≤ 2 ^ 118) in
    let one = back w64 (at c.args.row.now n) (2 ^ 56) (c.requires.row.small n (omega arith)) (omega arith) in
    let other = back w64 (at c.args.other.now n) (2 ^ 56) (c.requires.other.small n (omega arith)) (omega arith) in
    let value : c.cross.result ≡ (lead *ℤ at c.args.row.now n) -ℤ (gain *ℤ at c.args.other.now n) = grind arith in
    let same : to_z w128 (of_z w128 c.cross.result) ≡ c.cross.result = grind arith in (
      length-set c.loop-place.entries n _ ∙ c.loop-place.invariant.0,
      set_more P c.loop-place.entries n n (pos 0) _ (omega arith) refl c.loop-place.invariant.1 (subst (P n) (sym same) (value, c.cross.ensures.most)),
    )
