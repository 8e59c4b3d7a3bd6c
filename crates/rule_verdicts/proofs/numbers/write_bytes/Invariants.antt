use Rattle.std.proofs.Common.{◌≡◌, ℕ, ◌+◌, ◌^◌, ◌<◌, length, reverse, slice_index, sum}
use Rattle.word_image.proofs.Common.{IsRule, value}
use Rattle.rule_text.specs.RuleTexts.{rule_of_table}
use Rattle.rule_verdicts.specs.Numbers.{numbered_rule, IsVerdictByte}
use Rattle.rule_verdicts.proofs.numbers.write_bytes.Given as goal

-- the bytes so far, and the table whose turn it is, if there is one
abbrev pub invariant-loop-byte : goal.invariant-loop-byte
invariant-loop-byte l =
    let first : ℕ = value l.k (reverse l.fn.table) in record {
      rule : IsRule (rule_of_table l.k l.m l.table);
      total : l.total ≡ sum l.table;
      number : first + l.byte-index < l.k ^ length l.fn.table → value l.k (reverse l.table) ≡ first + l.byte-index;
      written : (i : ℕ) → i < l.byte-index → IsVerdictByte (numbered_rule l.k l.m (first + i)) (slice_index l.bytes i);
    }
