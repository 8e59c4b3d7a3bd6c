use Rattle.std.proofs.Common.{ℕ, List, ◌++◌, ◌∷◌, [], ap, ◌∙◌}
use Rattle.list_run.proofs.lines.first_line.Goals as goal

pub returns : goal.returns
returns c = record { table = c.args.rule.now.table; long = c.requires.entries; text = c.in_ok-push.ensures.items ∙ ap (λ (xs : List ℕ). xs ++ 10 ∷ []) c.in_ok-line.ensures }
