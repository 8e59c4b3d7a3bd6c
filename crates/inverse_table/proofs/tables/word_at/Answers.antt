use Rattle.std.proofs.Common.{◌≡◌, ℕ, ◌+◌, ◌-◌, ◌/◌, ◌%◌, ◌^◌, List, slice_index, ap₂, ◌∙◌, arith, take_all}
use Rattle.word_image.proofs.Common.{take_more, word_of, length-word_of, get_or-word_of}
use Rattle.inverse_table.proofs.WordCounts.{power-most}
use Rattle.inverse_table.proofs.tables.word_at.Goals as goal

pub pow-requires : goal.pow-requires
pow-requires c = grind (arith, power-most)

pub nonzero_div-value : goal.nonzero_div-value
nonzero_div-value c = grind (arith, power-most)

pub loop-place-preserved : goal.loop-place-preserved
loop-place-preserved c =
    let r = c.args.rule.now in
    let n = c.args.n in
    let long : ℕ = n + (r.width - 1) in
    let place = c.loop-place.place in
    let w : List ℕ = word_of r.states long c.args.value in
    let same : c.from-k.result ≡ r.states = c.from-k.ensures ∙ c.k.ensures.states in
    let rest : c.from.result + c.from-2.result - 1 - 1 - place ≡ long - 1 - place = omega arith in
    let behind : c.pow.result ≡ r.states ^ (long - 1 - place) = c.pow.ensures ∙ ap₂ (λ (i j : ℕ). i ^ j) same rest in
    let letter : c.args.value / c.pow.result % c.from-k.result ≡ slice_index w place = grind (arith, get_or-word_of) in
    grind (arith, take_more, length-word_of)

pub returns : goal.returns
returns c = grind (arith, take_all, length-word_of)
