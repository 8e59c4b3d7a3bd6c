use Rattle.moved_configs.proofs.Moves.{AreMovedWindows-core, TellMoved-core}
use Rattle.moved_configs.proofs.windows.moved_windows.Goals as goal

pub returns-clause-windows : goal.returns-clause-windows
returns-clause-windows c = AreMovedWindows-core c.args.rule.now c.args.place c.core-nodes.result c.window_rows.result c.window_rows.ensures.rule c.requires c.core-nodes.ensures c.window_rows.ensures.rows

pub returns-clause-exactly : goal.returns-clause-exactly
returns-clause-exactly c = TellMoved-core c.args.rule.now c.args.place c.core-nodes.result c.window_rows.result c.window_rows.ensures.rule c.requires c.core-nodes.ensures c.window_rows.ensures.rows
