use Rattle.std.proofs.Common.{◌≡◌, ◌==◌, ◌*◌, ◌/◌, ◌%◌, ◌^◌, ◌<◌, ℕ, length, Bool, List, slice_index, bit_and, ◌∙◌, sym, ap, ap₂, arith}
use Rattle.std.proofs.lemmas.Nat.Bits.{shr_and_one}
use Rattle.word_image.proofs.Common.{div_below}
use Rattle.pair_graph.specs.PairSets.{holds, truths}
use Rattle.pair_graph.specs.PairRows.{holds_bit, length-truths}
use Rattle.pair_graph.proofs.pair_set.PairSet.holds.Goals as goal

-- the pair is one of those of the nodes
inside : (n : ℕ) (rows : List ℕ) (set : List Bool) (p : ℕ) → truths n rows ≡ set → p < length set → p < n * n
inside n rows set p seen within = omega (arith, within, ap length seen, length-truths n rows)

pub bounds-self-inside-from : goal.bounds-self-inside-from
bounds-self-inside-from c =
    let n = c.self.inside.nodes in
    let row : c.args.p / n < n = div_below c.args.p n n c.self.invariant.least (inside n c.self.inside.rows _ c.args.p c.self.view_is c.requires) in
    let at : c.from.result ≡ c.args.p / n = c.from.ensures ∙ ap (λ m. c.args.p / m) c.from-nodes.ensures in
    omega (arith, at, row, c.self.invariant.most)

pub returns : goal.returns
returns c =
    let n = c.self.inside.nodes in
    let rows = c.self.inside.rows in
    let p = c.args.p in
    let at : c.from.result ≡ p / n = c.from.ensures ∙ ap (λ m. p / m) c.from-nodes.ensures in
    ap₂ (λ (i m : ℕ). bit_and (slice_index rows i / 2 ^ (p % m)) 1 == 1) at c.from-nodes.ensures
    ∙ ap (λ b. b == 1) (shr_and_one (slice_index rows (p / n)) (p % n))
    ∙ sym (holds_bit n rows p (inside n rows _ p c.self.view_is c.requires))
    ∙ ap (λ s. holds s p) c.self.view_is
