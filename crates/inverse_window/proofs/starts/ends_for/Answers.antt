use Rattle.word_image.proofs.Common.{EndTogether}
use Rattle.inverse_window.proofs.RankStarts.{IsRank-counted}
use Rattle.inverse_window.proofs.starts.ends_for.Goals as goal

pub returns : goal.returns
returns c =
    let past = c.requires.past c.args.v in
    let counted = IsRank-counted c.backward.result (EndTogether c.args.ranks.now c.args.u c.args.v) c.args.past c.backward.ensures.rank (λ n. past n c.requires.second) in
    rw c.unwrap_or.ensures (record { rank = counted.0; most = counted.1 })
