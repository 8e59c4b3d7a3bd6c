use Rattle.std.proofs.Common.{◌≡◌, ◌≤◌, true, All, arith}
use Rattle.serde_json.specs.View.{view}
use Rattle.word_image.proofs.Common.{handed_on}
use Rattle.cert_values.specs.CertificateTexts.{IsWhole}
use Rattle.cert_format.proofs.laws.Evidence.{within-IsArrayOf, no_numbers_array, no_numbers_above}
use Rattle.cert_format.proofs.evidence.numbers.Goals as goal

pub returns-in_err-numbers-clause-none : goal.returns-in_err-numbers-clause-none
returns-in_err-numbers-clause-none c =
    handed_on _ c.from_residual.result c.from_residual.ensures.1 (λ shape. no_numbers_array (view c.args.value.now) c.args.most (omega (arith, c.ranges.most)) (c.in_err-numbers.ensures.none shape))

pub returns-then-not-are_within-clause-none : goal.returns-then-not-are_within-clause-none
returns-then-not-are_within-clause-none c same =
    let above : ¬ All (λ n. n ≤ c.args.most) c.in_ok-numbers.numbers.items =
    λ all. absurd (let within : c.are_within.result ≡ true = c.are_within.ensures.1 (rw c.deref.ensures.value all) in cc) in
    no_numbers_above (view c.args.value.now) c.args.most c.in_ok-numbers.numbers.items c.in_ok-numbers.ensures.items above

pub returns-clause-numbers : goal.returns-clause-numbers
returns-clause-numbers c =
    let within : c.are_within.result ≡ true = cc in
    rw c.of.ensures ((within-IsArrayOf IsWhole (λ n. n ≤ 65535) (view c.args.value.now) c.in_ok-numbers.numbers.items c.in_ok-numbers.ensures.items).0, rw c.deref.ensures.value at (c.are_within.ensures.0 within))
