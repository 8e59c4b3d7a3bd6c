use Rattle.std.proofs.Common.{sym}
use Rattle.word_image.proofs.Common.{handed_on}
use Rattle.tail_config.specs.TailTextFaults.{NoForm, Refused, letters_of}
use Rattle.tail_config.proofs.laws.TailFaults.{tail_fault-none}
use Rattle.tail_config.proofs.laws.TailTexts.{HasParts-cut}
use Rattle.tail_config.proofs.texts.accepted_parts.Goals as goal

pub returns-in_err-parts-clause-fault : goal.returns-in_err-parts-clause-fault
returns-in_err-parts-clause-fault c =
    let (place, is, fault) = c.in_err-parts.ensures.fault in
    handed_on _ c.from_residual.result c.from_residual.ensures.1 (rw is (NoForm place fault))

pub returns-in-Ok-clause-parts : goal.returns-in-Ok-clause-parts
returns-in-Ok-clause-parts c =
    let p = c.in_ok-parts.parts in
    record {
      parts = HasParts-cut c.in_ok-parts.ensures.parts;
      accepted = (tail_fault-none c.args.k (letters_of p.left.now p.middle.now p.right.now)).0 (sym c.in-Ok.ensures);
    }

pub returns-in-Err-clause-fault : goal.returns-in-Err-clause-fault
returns-in-Err-clause-fault c = Refused _ c.in-Err.fault (HasParts-cut c.in_ok-parts.ensures.parts) (sym c.in-Err.ensures)
