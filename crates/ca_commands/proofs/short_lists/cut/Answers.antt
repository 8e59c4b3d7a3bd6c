use Rattle.std.proofs.Common.{◌+◌, ◌∷◌, drop, take, sym, ap, ◌∙◌, arith}
use Rattle.std.proofs.lemmas.List.{take_all, length-drop}
use Rattle.ca_commands.specs.WeightTexts.{pieces}
use Rattle.ca_commands.proofs.laws.FirstBytes.{IsFirstByte-position, others-position}
use Rattle.ca_commands.proofs.laws.WeightTexts.{pieces-whole, pieces-cut}
use Rattle.ca_commands.proofs.short_lists.cut.Goals as goal

pub returns-in-Some : goal.returns-in-Some
returns-in-Some c =
    let text = c.args.text.now in
    let place = c.in-Some.place in
    let rest = drop (place + 1) text in
    let first = IsFirstByte-position 44 text place (sym c.comma.ensures ∙ c.in-Some.is) in
    ap pieces first.cut ∙ pieces-cut (take place text) rest first.others ∙ ap (λ after. take place text ∷ pieces after) (sym (take_all _ rest (omega (arith, length-drop (place + 1) text))))

pub returns-in-None : goal.returns-in-None
returns-in-None c = pieces-whole c.args.text.now (others-position 44 c.args.text.now (sym c.comma.ensures ∙ c.in-None.is))
