-- The limits of inverse maps that the program computes, and the limits that a map must keep to be an accepted rule. An
-- inverse map of a window (n, c) has a letter for each word of n letters.
use Rattle.std.specs.Prelude.{◌≡◌, ℕ, ◌^◌, ◌≤◌, length, pos, negsuc, ◌≤ℤ◌, ◌-◌, Option, Some, None, nat_lt, if◌then◌else◌}
use Rattle.word_image.specs.LocalRules.{IsWord, LocalRule, most_nodes, most_states, most_width}
use Rattle.word_image.specs.RuleFaults.{reaches_far}
use Rattle.tail_config.specs.InverseMaps.{WindowMap}
use Rattle.word_image.specs.declared.local_rule.RuleFault.{RuleFault}
use Rattle.word_image.specs.declared.local_rule.RuleFault.TheVariants.{Width, Nodes, Offset}

-- the greatest number of words for which a map has a letter
abbrev pub most_map_entries : ℕ
most_map_entries = 65536

-- the greatest n of a window (n, c) that the program accepts; in a least determined window, n is at most half as great
abbrev pub longest_window : ℕ
longest_window = 480

-- the map is within its limits of states, width and offset, and its table has a letter for each of at most 65,536 words
pub record IsWindowMap (g : WindowMap) : Type 0 where
  pub least_states : 2 ≤ g.states
  pub most_states : g.states ≤ most_states
  pub least_width : 1 ≤ g.width
  pub most_width : g.width ≤ 16
  pub least_offset : negsuc 30 ≤ℤ g.offset
  pub most_offset : g.offset ≤ℤ pos 16
  pub entries : length g.table ≡ g.states ^ g.width
  pub most_entries : g.states ^ g.width ≤ most_map_entries
  pub letters : IsWord g.states g.table

-- the first limit of accepted rules that the rule breaks by its width, its nodes or its offset, if there is one
abbrev pub rule_limit_fault : LocalRule → Option RuleFault
rule_limit_fault r =
    if nat_lt most_width r.width then Some Width
    else (if nat_lt most_nodes (r.states ^ (r.width - 1)) then Some Nodes
    else (if reaches_far r.width r.offset then Some Offset
    else None))
