use Rattle.std.proofs.Common.{◌≡◌, ℕ, ◌-◌, ◌^◌, ap₂, ◌∙◌, arith}
use Rattle.word_image.proofs.Common.{one-le-pow, pow-le-pow_right}
use Rattle.word_image.proofs.laws.WindowParts.{get_or-word_of}
use Rattle.word_image.proofs.values.letter_of.Goals as goal

-- the power by which the value is divided
power : (c : goal.After-pow) → c.pow.result ≡ c.args.k ^ (c.args.n - 1 - c.args.place)
power c = c.pow.ensures ∙ ap₂ (λ (b e : ℕ). b ^ e) c.from-k.ensures c.from.ensures

pub pow-requires : goal.pow-requires
pow-requires c = grind (arith, pow-le-pow_right)

pub nonzero_div-result : goal.nonzero_div-result
nonzero_div-result c = rw (power c) (one-le-pow (c.args.n - 1 - c.args.place) c.args.k c.requires.some)

pub returns-clause-letter : goal.returns-clause-letter
returns-clause-letter c = grind (arith, get_or-word_of)
