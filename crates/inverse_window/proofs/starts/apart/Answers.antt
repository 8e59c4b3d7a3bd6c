use Rattle.std.proofs.Common.{◌+◌, arith, ⊎_elim}
use Rattle.word_image.proofs.Common.{cases_lt}
use Rattle.pair_laws.proofs.Common.{Together-less}
use Rattle.inverse_window.proofs.starts.apart.Goals as goal

pub returns-clause-start : goal.returns-clause-start
returns-clause-start c =
    let rank = c.in_ok-rank.ensures.rank in
    let less = Together-less c.args.side c.requires.rule c.args.u c.args.v in λ n. (
      λ none. ⊎_elim (λ l. absurd (none (less n c.in_ok-rank.field-0 (omega arith) rank.holds))) (λ l. l) (cases_lt n (c.in_ok-rank.field-0 + 1)),
      λ l goes. rank.no_more (less (c.in_ok-rank.field-0 + 1) n l goes),
    )
