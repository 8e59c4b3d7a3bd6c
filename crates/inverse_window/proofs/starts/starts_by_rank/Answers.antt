use Rattle.std.proofs.Common.{◌≡◌, ℕ, Option, Some, None, arith}
use Rattle.word_image.proofs.Common.{get_or-replicate, length-replicate, pair_of, pair_count}
use Rattle.inverse_window.proofs.starts.starts_by_rank.Goals as goal

pub loop-u-init : goal.loop-u-init
loop-u-init c =
    let zero : Option ℕ = Some 0 in
    record {
      long = length-replicate 121 zero;
      few = c.requires.most;
      from = λ b l. rw (get_or-replicate 121 b zero None (omega arith)) (λ n. (λ none. omega arith, λ _ p below. absurd (omega arith)));
      most = λ b l. rw (get_or-replicate 121 b zero None (omega arith)) (omega arith);
    }

pub returns-clause-starts : goal.returns-clause-starts
returns-clause-starts c =
    let all : pair_of c.args.rule.now c.loop-u.u 0 ≡ pair_count c.args.rule.now = grind arith in
    rw all at c.loop-u.invariant
