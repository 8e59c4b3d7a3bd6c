-- From one listed rule to the next.
use Rattle.std.proofs.Common.{ℕ, ◌^◌, ◌<◌, List, Option, Some, None, arith}
use Rattle.word_image.proofs.Common.{LocalRule}
use Rattle.rule_lists.specs.Ranks.{IsOrder, rank}
use Rattle.rule_lists.specs.Listed.{IsListed}
use Rattle.rule_lists.specs.Searches.{IsOrdered, IsNextListed, ranks_left}
use Rattle.rule_lists.specs.declared.asked.Asked.{Asked}
use Rattle.rule_lists.specs.declared.properties.Property.{Property}
use Rattle.rule_lists.proofs.laws.Ranks.{rank-below}

-- the rank of a listed rule is below the number of all tables
rank-listed : {property : Property} {k m : ℕ} {fixed order : List ℕ} {r : LocalRule} → IsOrder (k ^ m) order → IsListed property k m fixed r
    → rank k order r.table < k ^ (k ^ m)
rank-listed {k = k} {m} {order = order} {r} h listed = grind (arith, rank-below)

-- fewer ranks are left after each rule
pub ranks_left-less : (a : Asked) (last : Option LocalRule) (r : LocalRule) → IsOrdered a → IsNextListed a last (Some r)
    → ranks_left a (Some r) < ranks_left a last
ranks_left-less a None r order next = omega (arith, rank-listed order next.listed)
ranks_left-less a (Some q) r order next = omega (arith, next.from, rank-listed order next.listed)
