use Rattle.std.proofs.Common.{take_all}
use Rattle.serde_json.specs.View.{view}
use Rattle.cert_format.proofs.laws.Arrays.{IsArrayOf-values, AllZip-more, not_array}
use Rattle.cert_format.proofs.items.array.Goals as goal

pub returns-in_default-read-clause-none : goal.returns-in_default-read-clause-none
returns-in_default-read-clause-none g c same =
    not_array g.T.Item.is_item (view c.args.value.now) c.deref-entry-items.result.now c.loop-entry.entry-index c.entry-item.result (rw c.deref-entry-items.ensures.value c.in-Some.ensures) c.loop-entry-test.true c.entry-item.is
    c.in_default-read.ensures.none

pub loop-entry-preserved : goal.loop-entry-preserved
loop-entry-preserved g c =
    rw c.in_ok-push.ensures.items
    (AllZip-more g.T.Item.is_item c.deref-entry-items.result.now c.loop-entry.entry-index c.entry-item.result c.loop-entry.items.items c.in-Some-read.item c.loop-entry-test.true c.entry-item.is c.loop-entry.invariant c.in-Some-read.ensures.some)

pub returns-clause-items : goal.returns-clause-items
returns-clause-items g c =
    let vs = c.deref-entry-items.result.now in
    let whole = rw (take_all c.loop-entry.entry-index vs c.loop-entry-test.false) at c.loop-entry.invariant in
    IsArrayOf-values g.T.Item.is_item (view c.args.value.now) vs c.loop-entry.items.items (rw c.deref-entry-items.ensures.value c.in-Some.ensures) whole
