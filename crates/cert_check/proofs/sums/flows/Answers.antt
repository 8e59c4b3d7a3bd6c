use mathlib.Core.Logic.Iff.{trans as iff_then}
use Rattle.std.proofs.Common.{◌≡◌, ℕ, ◌/◌, ◌%◌, ◌-ℤ◌, ◌↔◌, get_or, slice_index, nat_eq, IsTrue, ℤ, pos, w32, w64, FitsSigned, of_z, to_z, rules, arith}
use Rattle.word_image.proofs.Common.{node_count}
use Rattle.cert_conditions.proofs.laws.WindowFlows.{Flows-value}
use Rattle.cert_check.proofs.sums.flows.Goals as goal

-- the test of two differences of numbers of 32 bits
one_difference : (g h x y : ℤ) → FitsSigned w32 g → FitsSigned w32 h → FitsSigned w32 x → FitsSigned w32 y
    → IsTrue (nat_eq (of_z w64 (to_z w64 (of_z w64 g) -ℤ to_z w64 (of_z w64 h))) (of_z w64 (to_z w64 (of_z w64 x) -ℤ to_z w64 (of_z w64 y)))) ↔ ((g -ℤ h) ≡ (x -ℤ y))
one_difference g h x y fit_g fit_h fit_x fit_y = grind (arith, rules)

pub returns : goal.returns
returns c =
    let r = c.args.rule.now in
    let v = c.args.window in
    let number = λ (i : ℕ). get_or c.args.flux.now i (pos 0) in
    let weight = slice_index c.args.weights.now in
    let new : c.from.result ≡ pos (weight (slice_index r.table v)) = grind arith in
    let old : c.from-2.result ≡ pos (weight (v / node_count r)) = grind arith in
    let first : c.from-first.result ≡ number (v / r.states) = grind arith in
    let last : c.from-last.result ≡ number (v % node_count r) = grind arith in
    let test = one_difference c.from.result c.from-2.result c.from-first.result c.from-last.result (search rules) (search rules) (search rules) (search rules) in
    iff_then test (rw (new, old, first, last) (Flows-value c.end_node.ensures.rule weight c.args.flux.now v c.requires.window))
