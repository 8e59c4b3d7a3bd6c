use Rattle.std.proofs.Common.{◌+◌, drop, refl, sym, ◌∙◌}
use Rattle.ca_commands.proofs.laws.FirstBytes.{IsFirstByte-position, others-position}
use Rattle.ca_c.proofs.laws.Blocks.{HasDone-unended, HasDone-foreign, some_bytes, no_bytes}
use Rattle.ca_c.proofs.laws.FirstWords.{HasBegun-end, HasBegun-next}
use Rattle.ca_c.proofs.blocks.FirstWords.of.Goals as goal

pub returns-in_default : goal.returns-in_default
returns-in_default c =
    let rest = c.loop-rest.rest.now in
    let some = some_bytes rest (sym c.is_empty.ensures ∙ c.loop-rest-test.true) in
    HasDone-unended c.loop-rest.invariant.walk some (others-position 0 rest (sym c.in_default.ensures.place))

pub returns-in_default-from_utf8 : goal.returns-in_default-from_utf8
returns-in_default-from_utf8 c =
    let rest = c.loop-rest.rest.now in
    let end = c.in-Some.end in
    let at = IsFirstByte-position 0 rest end (sym c.in-Some.ensures.place) in
    HasDone-foreign (drop (end + 1) rest) c.loop-rest.invariant.walk at.cut at.others c.in_default-from_utf8.ensures.cases.0

pub loop-rest-preserved : goal.loop-rest-preserved
loop-rest-preserved c =
    let text = c.in-Ok.ensures.cases in
    let at = IsFirstByte-position 0 c.loop-rest.rest.now c.in-Some.end (sym c.in-Some.ensures.place) in
    HasBegun-next c.in-Some.end _ c.loop-rest.invariant at text.0 text.1 refl c.keep.ensures

pub returns : goal.returns
returns c = HasBegun-end c.loop-rest.invariant (no_bytes c.loop-rest.rest.now (sym c.is_empty.ensures ∙ c.loop-rest-test.false))
