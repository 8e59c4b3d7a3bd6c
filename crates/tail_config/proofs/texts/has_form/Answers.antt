use Rattle.std.proofs.Common.{refl}
use Rattle.tail_config.proofs.laws.TailTexts.{HasParts-cut}
use Rattle.tail_config.proofs.texts.has_form.Goals as goal

pub returns-in-Ok : goal.returns-in-Ok
returns-in-Ok c = ((λ is. (_, HasParts-cut c.in-Ok.ensures.parts)), (λ form. refl))
