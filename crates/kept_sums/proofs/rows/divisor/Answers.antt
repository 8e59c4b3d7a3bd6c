use Rattle.std.proofs.Common.{◌≡◌, below_more, pos, refl, arith, unsigned_abs}
use Rattle.std.proofs.lemmas.Nat.Gcd.{dvd_trans}
use Rattle.kept_sums.specs.Sums.{sum_to}
use Rattle.kept_sums.specs.Rows.{at}
use Rattle.kept_sums.proofs.laws.Combined.{IsCombined-more}
use Rattle.kept_sums.proofs.rows.divisor.Goals as goal

pub loop-entry-preserved : goal.loop-entry-preserved
loop-entry-preserved c =
    let n = c.loop-entry.entry-index in
    let g = c.gcd-divisor.result in
    let (one, two, most) = c.gcd-divisor.ensures.greatest in
    let entry : c.unsigned_abs.result ≡ unsigned_abs (at c.args.cross.now n) = grind arith in (
      below_more _ _ (λ a l. dvd_trans g one (c.loop-entry.invariant.0 a l)) (rw entry at two),
      IsCombined-more n c.args.cross.now c.loop-entry.divisor c.unsigned_abs.result g entry c.loop-entry.invariant.1 c.gcd-divisor.ensures.combined,
    )

pub loop-entry-init : goal.loop-entry-init
unfolding sum_to
loop-entry-init c = (λ a l. absurd (omega arith), record { parts = λ a. pos 0; is = refl })
