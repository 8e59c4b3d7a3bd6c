use Rattle.std.proofs.Common.{◌≡◌, ℕ, ◌+◌, ◌^◌, ◌<◌, List, length, reverse, slice_index, set, sym, ap, ◌∙◌, subst, ⊎_elim, arith, get_or-set_other}
use Rattle.word_image.proofs.Common.{cases_eq, get_or-set_at, LocalRule, value}
use Rattle.rule_text.specs.RuleTexts.{rule_of_table}
use Rattle.rule_verdicts.specs.Numbers.{numbered_rule, IsVerdictByte}
use Rattle.rule_verdicts.proofs.laws.Tables.{numbered_rule-table}
use Rattle.rule_verdicts.proofs.numbers.write_bytes.Goals as goal

-- a byte more is written
written_more : (P : ℕ → ℕ → Type 0) (bytes : List ℕ) (n x : ℕ) → n < length bytes → ((i : ℕ) → i < n → P i (slice_index bytes i)) → P n x
    → (i : ℕ) → i < n + 1 → P i (slice_index (set bytes n x) i)
written_more P bytes n x within before here i l =
    ⊎_elim
    (λ last. rw (get_or-set_at bytes n i x 0 last within, last) here)
    (λ other. rw (get_or-set_other bytes n i x 0 other) (before i (omega (arith, other))))
    (cases_eq i n)

pub loop-byte-preserved : goal.loop-byte-preserved
loop-byte-preserved c =
    let k = c.args.k in
    let m = c.args.m in
    let first = value k (reverse c.args.table.now) in
    let table = c.loop-byte.table in
    let i = c.loop-byte.byte-index in
    let here : first + i < k ^ length c.args.table.now = omega (arith, c.requires.room, c.loop-byte-test.true) in
    let number : value k (reverse table) ≡ first + i = c.loop-byte.invariant.number here in
    let rule = c.loop-byte.invariant.rule in
    let same : rule_of_table k m table ≡ numbered_rule k m (first + i) = sym (ap (numbered_rule k m) (sym number) ∙ numbered_rule-table k m table rule) in
    let power : k ^ length table ≡ k ^ length c.args.table.now = ap (λ n. k ^ n) (rule.entries ∙ sym c.requires.rule.entries) in
    record {
      rule = record { shape = rule.shape; entries = c.next_table-total.auto.table ∙ rule.entries; letters = c.next_table-total.ensures.word };
      total = c.next_table-total.ensures.total;
      number = λ l. omega (arith, c.next_table-total.ensures.next (omega (arith, l, number, power)), number);
      written = written_more (λ j x. IsVerdictByte (numbered_rule k m (first + j)) x) c.loop-byte.bytes i c.verdict_byte.result (omega arith) c.loop-byte.invariant.written
          (subst (λ (r : LocalRule). IsVerdictByte r c.verdict_byte.result) same c.verdict_byte.ensures);
    }
