use Rattle.serde_json.specs.View.{view}
use Rattle.word_image.proofs.Common.{handed_on}
use Rattle.cert_format.proofs.laws.Evidence.{no_sets, no_pairs, no_orphan}
use Rattle.cert_format.proofs.evidence.surjective.Goals as goal

pub returns-in_err-sets-clause-none : goal.returns-in_err-sets-clause-none
returns-in_err-sets-clause-none c =
    handed_on _ c.from_residual.result c.from_residual.ensures.1 (λ shape. no_sets c.args.version c.args.rule.now (view c.args.value.now) c.all_nodes.result c.all_nodes.ensures.set c.in-Some.ensures.some (c.in_err-sets.ensures.none shape))

pub returns-in_err-pairs-clause-none : goal.returns-in_err-pairs-clause-none
returns-in_err-pairs-clause-none c =
    handed_on _ c.from_residual-in_err-pairs.result c.from_residual-in_err-pairs.ensures.1 (λ shape. no_pairs c.args.version c.args.rule.now (view c.args.value.now) c.last_pair.result c.last_pair.ensures c.in-Some-only.ensures.some (c.in_err-pairs.ensures.none shape))

pub returns-in_err-word-clause-none : goal.returns-in_err-word-clause-none
returns-in_err-word-clause-none c =
    handed_on _ c.from_residual-in_err-word.result c.from_residual-in_err-word.ensures.1 (λ shape. no_orphan c.args.version c.args.rule.now (view c.args.value.now) c.in-Some-only-2.ensures.some (λ w h. c.in_err-word.ensures.none shape w (rw c.k.ensures.states h)))
