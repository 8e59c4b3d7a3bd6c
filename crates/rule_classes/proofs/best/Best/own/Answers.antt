use Rattle.std.proofs.Common.{◌≡◌, ℕ, ◌-◌, List, ◌++◌, length, replicate, sym, ap, ap₂, ◌∙◌, arith}
use Rattle.word_image.proofs.Common.{drop-replicate, padded}
use Rattle.rule_classes.proofs.laws.Tables.{table-own}
use Rattle.rule_classes.proofs.best.Best.own.Goals as goal

pub returns-clause-best : goal.returns-clause-best
returns-clause-best c =
    let r = c.args.rule.now in
    let rule = c.size.ensures.rule in
    let colouring = c.unchanged.ensures.colouring r.states c.requires.states in
    let long : c.from-size.result ≡ length r.table = c.from-size.ensures ∙ c.size.ensures.size ∙ sym rule.entries in
    record {
      colouring = colouring;
      entries =
          ap₂ (λ (xs ys : List ℕ). xs ++ ys) (c.copy_from_slice.ensures.after ∙ c.table.ensures.table) (drop-replicate c.from-size.result 256 0)
          ∙ ap (λ n. r.table ++ replicate (256 - n) 0) long
          ∙ ap padded (sym (table-own c.unchanged.result rule colouring c.unchanged.ensures.mirrored (λ a l. c.unchanged.ensures.own a (omega (arith, c.requires.states)))));
    }
