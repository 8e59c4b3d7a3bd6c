use Rattle.std.proofs.Common.{◌≡◌, ℕ, ◌+◌, ◌-◌, ◌/◌, ◌^◌, ◌≤◌, sym, arith, w32, subst, IsBitSet, div-le_self}
use Rattle.std.proofs.lemmas.Nat.Bits.{bit_at-trailing_zeros}
use Rattle.word_image.proofs.Common.{bit_at-IsBitSet, IsBitSet-zero}
use Rattle.pair_laws.proofs.Common.{IsBitSet-below, IsBitSet-shr}
use Rattle.least_walk.proofs.breadth_first.next_letter.Goals as goal

-- a letter of the set is in the rest, moved down
in_rest : (letters from rest b : ℕ) → rest ≡ letters → from ≤ b → IsBitSet letters b → IsBitSet (rest / 2 ^ from) (b - from)
in_rest letters from rest b same past some =
    let place : from + (b - from) ≡ b = omega (arith, past) in
    (IsBitSet-shr rest from (b - from)).1 (subst (IsBitSet rest) (sym place) (rw (← same) at some))

pub returns-then-rest-eq0-clause-none : goal.returns-then-rest-eq0-clause-none
returns-then-rest-eq0-clause-none c b past _ some =
    IsBitSet-zero (b - c.args.from) (subst (λ n. IsBitSet n (b - c.args.from)) c.if-rest-eq0.true (in_rest c.args.letters c.args.from c.from.result b c.from.ensures past some))

pub returns-clause-most : goal.returns-clause-most
returns-clause-most c =
    let rest = c.from.result / 2 ^ c.args.from in
    let (few, one, none) = bit_at-trailing_zeros w32 rest (omega arith) (omega (arith, div-le_self c.from.result (2 ^ c.args.from))) in
    let some = (IsBitSet-shr c.from.result c.args.from _).0 ((bit_at-IsBitSet rest _).1 one) in
    omega (arith, IsBitSet-below 16 c.from.result _ (omega arith) some)

pub returns-clause-none : goal.returns-clause-none
returns-clause-none c b past less some =
    let rest = c.from.result / 2 ^ c.args.from in
    let (few, one, none) = bit_at-trailing_zeros w32 rest (omega arith) (omega (arith, div-le_self c.from.result (2 ^ c.args.from))) in
    let zeroth = none (b - c.args.from) (omega (arith, past, less)) in
    let oneth = (bit_at-IsBitSet rest (b - c.args.from)).0 (in_rest c.args.letters c.args.from c.from.result b c.from.ensures past some) in
    omega (arith, zeroth, oneth)
