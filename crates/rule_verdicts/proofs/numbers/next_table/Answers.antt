use Rattle.std.proofs.Common.{◌≡◌, ◌+◌, ◌*◌, ◌<◌, ◌≤◌, length, get_or, set, sum, refl, ◌∙◌, arith, length-set}
use Rattle.word_image.proofs.Common.{All-set, sum_by-set, sum_by-le}
use Rattle.rule_verdicts.proofs.laws.Tables.{value-set_more, value-set_carry}
use Rattle.rule_verdicts.proofs.numbers.next_table.Goals as goal

pub overflow_add-result : goal.overflow_add-result
overflow_add-result c =
    let table = c.loop-place.table in
    let most : sum table ≤ length table * 255 = sum_by-le (λ a. a) 255 table (λ i d l. omega (arith, c.loop-place.invariant.word i d l, c.ranges.k)) in
    omega (arith, most, c.loop-place.invariant.total, c.loop-place.invariant.long, c.requires.few)

pub returns-then-letter-k-clause-next : goal.returns-then-letter-k-clause-next
returns-then-letter-k-clause-next c = λ within. value-set_more c.args.k c.loop-place.table c.loop-place.place (get_or c.loop-place.table c.loop-place.place 0) (omega arith) refl ∙ c.loop-place.invariant.carried

pub loop-place-preserved : goal.loop-place-preserved
loop-place-preserved c =
    let k = c.args.k in
    let table = c.loop-place.table in
    let place = c.loop-place.place in
    let within : place < length table = omega arith in
    let letter : get_or table place 0 < k = c.loop-place.invariant.word place 0 within in
    let last : get_or table place 0 + 1 ≡ k = omega (arith, letter, c.if-letter-k.false) in
    let less : sum (set table place 0) + get_or table place 0 ≡ sum table + 0 = sum_by-set (λ a. a) table place 0 0 within in
    record {
      word = All-set (λ a. a < k) table place 0 (omega arith) c.loop-place.invariant.word;
      long = length-set table place 0 ∙ c.loop-place.invariant.long;
      total = omega (arith, less, c.loop-place.invariant.total, c.from-total.ensures);
      carried = value-set_carry k table place (get_or table place 0) within refl last ∙ c.loop-place.invariant.carried;
    }
