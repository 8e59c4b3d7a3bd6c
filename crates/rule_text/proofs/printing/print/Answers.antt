use Rattle.std.proofs.Common.{ℕ, List, ◌∷◌, [], ◌++◌, map, sym, ap, ap₂, ◌∙◌, append_assoc, codes, decimal, take, take_all, arith}
use Rattle.word_image.proofs.Common.{map_more, lower_digit}
use Rattle.rule_text.specs.PrintedRules.{head, offset_text}
use Rattle.rule_text.proofs.printing.print.Goals as goal

pub loop-value-preserved : goal.loop-value-preserved
loop-value-preserved c =
    let r = c.args.rule.now in
    let start = head (decimal r.states) (decimal r.width) (offset_text r.offset) (codes "t") in
    c.in_ok-push.ensures.items
    ∙ ap₂ (λ (xs : List ℕ) (y : ℕ). xs ++ y ∷ []) c.loop-value.invariant (c.digit.ensures ∙ ap lower_digit c.at.ensures.entry)
    ∙ append_assoc start (map lower_digit (take c.loop-value.value r.table)) _
    ∙ ap (λ (xs : List ℕ). start ++ xs) (sym (map_more lower_digit r.table c.loop-value.value 0 (omega arith)))

pub returns : goal.returns
returns c = grind (arith, decimal, codes, take_all)
