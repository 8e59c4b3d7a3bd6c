use Rattle.std.proofs.Common.{sym, ◌∙◌}
use Rattle.inverse_table.proofs.MapRules.{entry_one}
use Rattle.inverse_table.proofs.lent_map.LentMap.letter.Goals as goal

pub bounds-table-from : goal.bounds-table-from
bounds-table-from c =
    rw (c.from-then-n-eq1.ensures, c.from.ensures, c.k.ensures.states, c.table.ensures.table) (entry_one c.n.ensures.map (sym c.n.ensures.width ∙ c.if-n-eq1.true) c.args.window c.requires).0

pub returns-then-n-eq1 : goal.returns-then-n-eq1
returns-then-n-eq1 c =
    rw (c.from-then-n-eq1.ensures, c.from.ensures, c.k.ensures.states, c.table.ensures.table) (entry_one c.n.ensures.map (sym c.n.ensures.width ∙ c.if-n-eq1.true) c.args.window c.requires).1
