use Rattle.std.proofs.Common.{◌≡◌, ℕ, ◌+◌, ◌*◌, ◌<◌, length, sym, ap, ap₂, ◌∙◌, arith, rules, add-mul, one-mul, zero-mul, mul_comm}
use Rattle.word_image.proofs.Common.{nat_tests, eq_of_mul-eq-mul_left, windows-nodes, LocalRule, IsRule, node_count}
use Rattle.garden_laws.specs.ZeroPairs.{gives_zeros, zero_pairs}
use Rattle.garden_laws.proofs.Counts.{count_below-none, count_below-add}
use Rattle.garden_laws.proofs.ZeroPairs.{zero_pairs-surjective}
use Rattle.eden_law.proofs.zeros.is_even_at_zeros.Goals as goal

pub loop-letter-init : goal.loop-letter-init
loop-letter-init c = grind (arith, zero-mul, count_below-none (gives_zeros c.args.k c.args.table.now))

pub loop-letter-preserved : goal.loop-letter-preserved
loop-letter-preserved c =
    let before = c.loop-letter.letter * c.args.nodes * c.args.k in
    let next : (c.loop-letter.letter + 1) * c.args.nodes * c.args.k ≡ before + c.args.nodes * c.args.k =
    grind (arith, add-mul, one-mul) in
    grind (arith, nat_tests, next, count_below-add (gives_zeros c.args.k c.args.table.now) before (c.args.nodes * c.args.k))

-- as many rows of k letters as a table has are the nodes
nodes-table : {r : LocalRule} → IsRule r → (n : ℕ) → length r.table ≡ n * r.states → n ≡ node_count r
nodes-table {r} rule n long =
    let some : 0 < r.states = omega (arith, rule.shape.least_states) in
    eq_of_mul-eq-mul_left r.states some n (node_count r) (mul_comm r.states n ∙ sym long ∙ rule.entries ∙ windows-nodes rule ∙ mul_comm (node_count r) r.states)

pub returns-clause-surjective : goal.returns-clause-surjective
returns-clause-surjective c r rule states table every =
    let nodes : c.args.nodes ≡ node_count r = nodes-table rule c.args.nodes (ap length table ∙ c.requires.long ∙ ap (λ n. c.args.nodes * n) (sym states)) in
    let even : zero_pairs c.args.k c.args.table.now ≡ c.args.nodes =
    ap₂ zero_pairs (sym states) (sym table) ∙ zero_pairs-surjective rule every ∙ sym nodes in
    search rules
