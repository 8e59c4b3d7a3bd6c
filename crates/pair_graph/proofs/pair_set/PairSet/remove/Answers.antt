use Rattle.std.proofs.Common.{◌≡◌, ◌-◌, ◌*◌, ◌/◌, ◌%◌, ◌^◌, ◌<◌, ℕ, List, Bool, length, slice_index, bit_and, ◌∙◌, ap, arith, ⊎_elim, get_or-set_other, length-set}
use Rattle.word_image.proofs.Common.{div_below, and_le_l}
use Rattle.pair_laws.proofs.Common.{row_cases}
use Rattle.pair_graph.specs.PairSets.{truths, AreRows}
use Rattle.pair_graph.specs.PairRows.{length-truths}
use Rattle.pair_graph.proofs.PairSteps.{holds-removed}
use Rattle.pair_graph.proofs.pair_set.PairSet.remove.Goals as goal

-- the row of a pair of the set
row_below : (n : ℕ) (rows : List ℕ) (set : List Bool) (p i m : ℕ) → truths n rows ≡ set → AreRows n rows → p < length set → i ≡ p / m → m ≡ n → i < n
row_below n rows set p i m seen h inside at nodes =
    let below : p / n < n = div_below p n n h.least (omega (arith, inside, ap length seen, length-truths n rows)) in
    omega (arith, below, at, ap (λ x. p / x) nodes)

pub bounds-self-inside-from : goal.bounds-self-inside-from
bounds-self-inside-from c =
    omega (arith, row_below c.self.inside.nodes c.self.inside.rows _ c.args.p c.from.result c.from-nodes.result c.self.view_is c.self.invariant c.requires c.from.ensures c.from-nodes.ensures, c.self.invariant.most)

pub bounds-self-inside-from-2 : goal.bounds-self-inside-from-2
bounds-self-inside-from-2 c =
    omega (arith, row_below c.self.inside.nodes c.self.inside.rows _ c.args.p c.from.result c.from-nodes.result c.self.view_is c.self.invariant c.requires c.from.ensures c.from-nodes.ensures, c.self.invariant.most)

pub invariant_of-self : goal.invariant_of-self
invariant_of-self c =
    let n = c.self.inside.nodes in
    let rows = c.self.inside.rows in
    let h = c.self.invariant in
    let i = c.from.result in
    let row = bit_and (slice_index rows i) (65535 - 1 * 2 ^ (c.args.p % c.from-nodes.result) % 2 ^ 16) in
    let below = row_below n rows c.args.self.now c.args.p i c.from-nodes.result c.self.view_is h c.requires c.from.ensures c.from-nodes.ensures in
    record {
      least = h.least;
      most = h.most;
      long = length-set rows i row ∙ h.long;
      within = λ u less. ⊎_elim
          (λ (same, here). omega (arith, here, and_le_l (slice_index rows i) (65535 - 1 * 2 ^ (c.args.p % c.from-nodes.result) % 2 ^ 16), h.within i below))
          (λ (other, there). omega (arith, there, h.within u less))
          (row_cases rows i row u (omega (arith, below, h.most, h.long)));
      past = λ u more. get_or-set_other rows i u row 0 (omega (arith, below, more)) ∙ h.past u more;
    }

pub returns-clause-pairs : goal.returns-clause-pairs
returns-clause-pairs c =
    let n = c.self.inside.nodes in
    holds-removed n c.self.inside.rows c.args.self.now c.args.p c.from.result c.from-nodes.result c.self.view_is c.self.invariant
    (c.from.ensures ∙ ap (λ m. c.args.p / m) c.from-nodes.ensures) c.from-nodes.ensures c.requires
