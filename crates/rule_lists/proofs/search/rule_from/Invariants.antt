use Rattle.std.proofs.Common.{◌≤◌, ◌^◌, ◌↔◌, IfSome}
use Rattle.word_image.proofs.Common.{LocalRule}
use Rattle.rule_lists.specs.Tables.{IsTable, IsPast}
use Rattle.rule_lists.specs.Listed.{IsListed}
use Rattle.rule_lists.proofs.laws.Going.{to_come}
use Rattle.rule_lists.proofs.search.rule_from.Given as goal

-- the rules still to come are those that were to come at the beginning
abbrev pub invariant-loop-next : goal.invariant-loop-next
invariant-loop-next l = record {
  table : IsTable l.asked.shape.now.states (l.asked.shape.now.states ^ l.asked.shape.now.width) l.entries;
  within : IfSome l.next (λ n. n ≤ l.asked.shape.now.states ^ l.asked.shape.now.width);
  same : (q : LocalRule) → IsListed l.asked.property l.asked.shape.now.states l.asked.shape.now.width l.asked.fixed.now q
      → IsPast l.asked.shape.now.states l.asked.order.now l.fn.start l.fn.first q.table ↔ IsPast l.asked.shape.now.states l.asked.order.now l.entries l.next q.table;
}

abbrev pub decreases-loop-next : goal.decreases-loop-next
decreases-loop-next l = to_come l.asked.shape.now.states (l.asked.shape.now.states ^ l.asked.shape.now.width) l.asked.order.now l.entries l.next
