use Rattle.std.proofs.Common.{◌≡◌, ℕ, suc, ◌+◌, ◌-◌, ◌/◌, ◌%◌, ◌^◌, ◌<◌, ◌≤◌, List, ◌++◌, length, take, set, ap, ap₂, ◌∙◌, append_assoc, mod-lt, mul-div_cancel, pow-suc, arith, length-set}
use Rattle.word_image.proofs.Common.{one-le-pow, take_more_set, word_of}
use Rattle.kept_sums.proofs.laws.Ranges.{pow-le-pow}
use Rattle.kept_sums.proofs.rings.word_with.Goals as goal

pub pow-power-requires : goal.pow-power-requires
pow-power-requires c = grind (arith, pow-le-pow)

-- the next lower power
lower : (k base power n m : ℕ) → 1 ≤ k → base ≡ k → power ≡ k ^ n → n ≡ suc m → power / base ≡ k ^ m
lower k base power n m some same is next = ap₂ (λ (i j : ℕ). i / j) (is ∙ ap (λ j. k ^ j) next ∙ pow-suc k m) same ∙ mul-div_cancel (k ^ m) some

pub nonzero_div-letters : goal.nonzero_div-letters
nonzero_div-letters c = grind (arith, lower, one-le-pow)

pub nonzero_rem-rest : goal.nonzero_rem-rest
nonzero_rem-rest c = grind (arith, lower, one-le-pow)

-- one letter more
word_more : (k n m place a rest : ℕ) (letters word : List ℕ) → place < length letters → n ≡ suc m → a ≡ rest / k ^ m
    → take place letters ++ word_of k n rest ≡ word
    → take (place + 1) (set letters place a) ++ word_of k m (rest % k ^ m) ≡ word
word_more k n m place a rest letters word within next letter before = grind (arith, take_more_set, append_assoc)

pub loop-place-preserved : goal.loop-place-preserved
loop-place-preserved c =
    let k = c.args.k in
    let place = c.loop-place.place in
    let m = c.args.count - (place + 1) in
    let (long, power_is, below, word) = c.loop-place.invariant in
    let power : c.loop-place.power / c.from-base.result ≡ k ^ m = grind (arith, lower) in
    let letter = c.loop-place.rest / (c.loop-place.power / c.from-base.result) in (
      length-set c.loop-place.letters place letter ∙ long,
      power,
      rw power (mod-lt c.loop-place.rest (one-le-pow m k c.requires.some)),
      ap (λ p. take (place + 1) (set c.loop-place.letters place letter) ++ word_of k m (c.loop-place.rest % p)) power
          ∙ word_more k (c.args.count - place) m place letter c.loop-place.rest c.loop-place.letters _ (omega arith) (omega arith) (ap (λ p. c.loop-place.rest / p) power) word,
    )
