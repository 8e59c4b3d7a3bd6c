use Rattle.std.proofs.Common.{◌%◌, refl, rules}
use Rattle.cert_check.proofs.laws.Rows.{IsMarked-more}
use Rattle.cert_check.proofs.marks.Marks.mark.Goals as goal

pub returns : goal.returns
returns c =
    IsMarked-more c.args.self.now.rows c.args.set c.from.result (c.args.set % 16) (search rules) c.from.ensures refl
