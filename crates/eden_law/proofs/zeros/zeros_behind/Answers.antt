use Rattle.std.proofs.Common.{◌≡◌, ℕ, ◌+◌, ◌*◌, ◌<◌, Bool, true, false, List, length, slice_index, ap, ◌∙◌, arith, ◌==◌, ◌&&◌, if◌then◌else◌, refl, add-mul, one-mul, zero-mul}
use Rattle.word_image.proofs.Common.{nat_tests}
use Rattle.garden_laws.specs.ZeroPairs.{count_below, gives_zeros}
use Rattle.garden_laws.proofs.Counts.{count_below-none, count_below-add, count_below-agree, count_below-never}
use Rattle.garden_laws.proofs.ZeroPairs.{gives_zeros-block}
use Rattle.eden_law.proofs.zeros.zeros_behind.Goals.{then-table-first-eq0, else-table-first-eq0}
use Rattle.eden_law.proofs.zeros.zeros_behind.Goals as goal

-- the words that begin with the letter b, by their number among these: whether both windows have the letter 0
abbrev words : ℕ → ℕ → List ℕ → ℕ → ℕ → Bool
words k n table b v = gives_zeros k table (b * n * k + v)

-- a count with a condition that doesn't depend on the number is the count without it, or 0
count_below-and : (t : Bool) (p : ℕ → Bool) (k : ℕ) → count_below (λ a. t && p a) k ≡ (if t then count_below p k else 0)
count_below-and true p k = refl
count_below-and false p k = count_below-never (λ a. false) k (λ a l. refl)

-- with the node v more, the edges from v with the label 0 are added if the window of b and v has the letter 0
words-more : (k n : ℕ) (table : List ℕ) (b v : ℕ) → length table ≡ n * k → v < n
    → count_below (words k n table b) ((v + 1) * k)
    ≡ count_below (words k n table b) (v * k) + (if slice_index table (b * n + v) == 0 then count_below (λ a. slice_index table (v * k + a) == 0) k else 0)
words-more k n table b v long node =
    let next : (v + 1) * k ≡ v * k + k = omega (arith, add-mul v 1 k, one-mul k) in
    let edge : ℕ → Bool = λ a. slice_index table (v * k + a) == 0 in
    let block : (a : ℕ) → a < k → words k n table b (v * k + a) ≡ ((slice_index table (b * n + v) == 0) && edge a) = λ a l.
    let place : b * n * k + (v * k + a) ≡ (b * n + v) * k + a = omega (arith, add-mul (b * n) v k) in
    ap (gives_zeros k table) place ∙ gives_zeros-block k n table b v a long node l in
    ap (count_below (words k n table b)) next ∙ count_below-add (words k n table b) (v * k) k
    ∙ ap (λ i. count_below (words k n table b) (v * k) + i) (count_below-agree _ _ k block ∙ count_below-and (slice_index table (b * n + v) == 0) edge k)

pub loop-node-init : goal.loop-node-init
loop-node-init c = grind (arith, zero-mul, count_below-none (λ v. gives_zeros c.args.k c.args.table.now (c.args.letter * c.args.nodes * c.args.k + v)))

pub loop-node-preserved : goal.loop-node-preserved
loop-node-preserved c =
    let v = c.loop-node.node in
    let inside : v < c.args.nodes = omega arith in
    let more = words-more c.args.k c.args.nodes c.args.table.now c.args.letter v c.requires.long inside in
    grind (arith, nat_tests, more, c.requires.edges.counts v inside, c.requires.edges.few v inside)
