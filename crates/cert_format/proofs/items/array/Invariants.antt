use Rattle.std.proofs.Common.{map, take}
use Rattle.word_image.proofs.Common.{AllZip}
use Rattle.serde_json.specs.View.{view}
use Rattle.cert_format.proofs.items.array.Given as goal

-- each item so far is what its value says
abbrev pub invariant-loop-entry : goal.invariant-loop-entry
invariant-loop-entry g l = AllZip g.T.Item.is_item (map view (take l.entry-index l.entry-items)) l.items.items
