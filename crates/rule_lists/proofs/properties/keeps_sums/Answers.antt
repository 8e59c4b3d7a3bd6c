use Rattle.std.proofs.Common.{slice_index, ◌↔◌, IsTrue, arith}
use Rattle.word_image.proofs.Common.{IsConserving, own_weights}
use Rattle.ring_laws.proofs.SameWeights.{IsConserving-own}
use Rattle.rule_lists.proofs.properties.keeps_sums.Goals as goal

pub returns : goal.returns
returns c =
    let r = c.args.rule.now in
    let own : IsTrue c.is_conserving.result ↔ IsConserving (slice_index (own_weights r.states)) r = grind arith in
    let same = IsConserving-own c.k.ensures.rule in
    ((λ yes. same.0 (own.0 yes)), (λ keep. own.1 (same.1 keep)))
