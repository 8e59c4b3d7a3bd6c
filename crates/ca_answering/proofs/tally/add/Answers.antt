use mathlib.Core.Logic.Iff.{trans as iff_then}
use Rattle.std.proofs.Common.{◌+◌, ap, sym, ◌∙◌, arith, length-append}
use Rattle.word_image.proofs.Common.{from_bool}
use Rattle.ring_laws.proofs.SameWeights.{IsConserving-own}
use Rattle.ca_answering.proofs.laws.Counts.{AreMany-le, AreMany-push}
use Rattle.ca_answering.proofs.tally.add.Goals as goal

pub overflow_add-counts-2 : goal.overflow_add-counts-2
overflow_add-counts-2 c = let few = AreMany-le c.requires.1.surjective_true in grind (arith, few, c.requires.2, c.from.ensures)

pub overflow_add-counts-3 : goal.overflow_add-counts-3
overflow_add-counts-3 c = let few = AreMany-le c.requires.1.injective_true in grind (arith, few, c.requires.2, c.from-2.ensures)

pub overflow_add-counts-4 : goal.overflow_add-counts-4
overflow_add-counts-4 c = let few = AreMany-le c.requires.1.right_true in grind (arith, few, c.requires.2, c.from-3.ensures)

pub overflow_add-counts-5 : goal.overflow_add-counts-5
overflow_add-counts-5 c = let few = AreMany-le c.requires.1.left_true in grind (arith, few, c.requires.2, c.from-4.ensures)

pub overflow_add-counts-6 : goal.overflow_add-counts-6
overflow_add-counts-6 c = let few = AreMany-le c.requires.1.open_true in grind (arith, few, c.requires.2, c.from-5.ensures)

pub overflow_add-counts-7 : goal.overflow_add-counts-7
overflow_add-counts-7 c = let few = AreMany-le c.requires.1.conserving_true in grind (arith, few, c.requires.2, c.from-6.ensures)

pub returns : goal.returns
returns c rules r tally rule truths = record {
  rules_true = ap (λ n. n + 1) tally.rules_true ∙ sym (length-append rules _);
  surjective_true = AreMany-push r c.from.ensures truths.surjective tally.surjective_true;
  injective_true = AreMany-push r c.from-2.ensures truths.injective tally.injective_true;
  right_true = AreMany-push r c.from-3.ensures truths.right tally.right_true;
  left_true = AreMany-push r c.from-4.ensures truths.left tally.left_true;
  open_true = AreMany-push r (c.from-5.ensures ∙ ap from_bool c.is_open.ensures) truths.open_ tally.open_true;
  conserving_true = AreMany-push r c.from-6.ensures (iff_then truths.conserving (IsConserving-own rule)) tally.conserving_true;
}
