use Rattle.std.proofs.Common.{◌≡◌, length}
use Rattle.serde_json.specs.View.{view}
use Rattle.cert_format.proofs.laws.Arrays.{length-pair}
use Rattle.cert_format.proofs.items.pair.Goals as goal

pub returns-then-len-ne2-clause-none : goal.returns-then-len-ne2-clause-none
returns-then-len-ne2-clause-none c d e is =
    let two : length c.in_ok-items.items.now.items ≡ 2 = length-pair (view c.args.value.now) d e c.in_ok-items.items.now.items c.in_ok-items.ensures is in
    c.if-len-ne2.true (cc (two, c.len.ensures, c.in_ok-items.items.now.ok.0))
