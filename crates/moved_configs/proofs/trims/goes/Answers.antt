use Rattle.moved_configs.proofs.Bits.{Goes-bit}
use Rattle.moved_configs.proofs.trims.goes.Goals as goal

pub returns-then-is_kept : goal.returns-then-is_kept
returns-then-is_kept c =
    Goes-bit c.args.side c.args.rule.now c.args.place c.args.nodes c.args.node c.args.letter c.window_with-window.result c.end_node.result c.window_with-window.ensures.value c.end_node.ensures.value (c.is_kept.ensures.0 c.if-is_kept.true)
