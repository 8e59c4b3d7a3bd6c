use Rattle.std.proofs.Common.{◌≡◌, ℕ, ◌^◌, ◌<◌, ◌≤◌, take, below_more, sym, ap, ap₂, subst, ◌∙◌, arith}
use Rattle.word_image.proofs.Common.{value, word_of, IsRing, value-below, length-word_of, IsWord-word_of, word_of-value}
use Rattle.kept_sums.specs.Stages.{RowsKeep}
use Rattle.kept_sums.proofs.laws.Ranges.{pow-le-pow}
use Rattle.kept_sums.proofs.kept.narrowed_by_rings.Goals.{After-pow-number-end, After-word_with-letters}
use Rattle.kept_sums.proofs.kept.narrowed_by_rings.Goals as goal

pub pow-number-end-requires : goal.pow-number-end-requires
pow-number-end-requires c = grind (arith, pow-le-pow)

-- the word of a number is a ring
ring_of : (k n v : ℕ) → 1 ≤ n → v < k ^ n → IsRing k (word_of k n v)
ring_of k n v some l = record { word = IsWord-word_of k n v l; some = omega (arith, length-word_of k n v) }

-- there are as many numbers as rings
total : (c : After-pow-number-end) → c.pow-number-end.result ≡ c.args.rule.now.states ^ c.args.count
total c = c.pow-number-end.ensures ∙ ap₂ (λ (i j : ℕ). i ^ j) (c.from.ensures ∙ c.k-k.ensures.states) c.from-2.ensures

-- the letters are the word of the number
letters_are : (c : After-word_with-letters)
    → take c.args.count c.word_with-letters.result ≡ word_of c.args.rule.now.states c.args.count c.loop-number.number
letters_are c = c.word_with-letters.ensures ∙ ap (λ k. word_of k c.args.count c.loop-number.number) c.k-k.ensures.states

pub narrow_by_ring-requires-clause-ring : goal.narrow_by_ring-requires-clause-ring
narrow_by_ring-requires-clause-ring c = grind (arith, ring_of)

pub loop-number-preserved : goal.loop-number-preserved
loop-number-preserved c =
    let r = c.args.rule.now in
    let all = total (goal.at.loop-number-preserved c).After-pow-number-end in
    let so_far = c.loop-number.invariant in
    let made = c.narrow_by_ring.ensures in
    record {
      stage = made.stage;
      keep = below_more _ _ (λ v l. made.others (word_of r.states c.args.count v) (ring_of r.states c.args.count v c.requires.some (omega arith)) (so_far.keep v l))
          (subst (RowsKeep r c.args.range _) (letters_are (goal.at.loop-number-preserved c).After-word_with-letters) made.keep);
      others = λ q ring keep. made.others q ring (so_far.others q ring keep);
    }

pub returns : goal.returns
returns c =
    let k = c.args.rule.now.states in
    let all = total (goal.at.returns c).After-pow-number-end in
    record {
      stage = c.loop-number.invariant.stage;
      keep = λ q ring long.
          let below : value k q < k ^ c.args.count = subst (λ n. value k q < k ^ n) long (value-below k q ring.word) in
          subst (RowsKeep c.args.rule.now c.args.range _) (ap (λ n. word_of k n (value k q)) (sym long) ∙ word_of-value k q ring.word) (c.loop-number.invariant.keep (value k q) (omega arith));
      others = c.loop-number.invariant.others;
    }
