use Rattle.std.proofs.Common.{◌∙◌, ap, rules}
use Rattle.std.proofs.lemmas.Iterator.{YieldsList-from_slice, YieldsList-from_map_by}
use Rattle.std.proofs.lemmas.Iterator.Consumers.{map_from_collect}
use Rattle.word_image.proofs.Common.{IfOk-at_ok}
use Rattle.serde_json.specs.View.{view}
use Rattle.cert_values.specs.WrittenTexts.{signed_value, array_from}
use Rattle.cert_writing.proofs.writing.flux_value.Goals as goal

pub returns : goal.returns
returns c =
    c.from.ensures
    ∙ ap array_from (IfOk-at_ok _ c.in_ok-values.was (map_from_collect _ c.collect.ensures.ran (YieldsList-from_map_by _ view signed_value (YieldsList-from_slice c.args.flux.now cc) c.map.ensures.closure (λ x r q k. search rules))))
