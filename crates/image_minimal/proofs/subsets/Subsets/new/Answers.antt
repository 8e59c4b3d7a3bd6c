use Rattle.image_minimal.proofs.Common.{◌≡◌, refl, sym, ◌∙◌, pos, replicate, arith, rules, All-replicate, get_or-replicate, LocalRule, IsShape-shape_fault}
use Rattle.image_minimal.proofs.subsets.Subsets.new.Goals as goal

-- the rule of two states and width 2 that gives 0 for all windows
abbrev zero_rule : LocalRule
zero_rule = record { states = 2; width = 2; offset = pos 0; table = replicate 4 0 }

pub from_fn-requires-clause-rule : goal.from_fn-requires-clause-rule
from_fn-requires-clause-rule c = (
  zero_rule,
  record {
    rule = grind (arith, IsShape-shape_fault, All-replicate);
    states = refl;
    width = refl;
    offset = refl;
    entries = λ v a l h. let none : a ≡ 0 = search rules in none ∙ sym (get_or-replicate 4 v 0 0 l);
  },
)
