use Rattle.std.proofs.Common.{ℕ, ◌≡◌, ◌+◌, ◌*◌, Option, None, replicate, ap, ◌∙◌, arith}
use Rattle.word_image.proofs.Common.{get_or-replicate, node_count}
use Rattle.pair_rank.proofs.TrimmedSets.{AreTogether-all, AreTogether-next, AreEndless-stable, AreEndless-all}
use Rattle.pair_rank.proofs.Tables.{AreRanksSoFar-none, AreRanksSoFar-next, AreRanks-endless}
use Rattle.pair_rank.proofs.rounds.exact_ranks.Goals as goal

pub loop-n-init : goal.loop-n-init
loop-n-init c = record {
  pairs = rw c.all-set.ensures.set (AreTogether-all c.args.side c.all-set.ensures.rule);
  ranks = AreRanksSoFar-none c.args.side c.all-set.ensures.rule (replicate {A = Option ℕ} 256 None) (λ u v in_u in_v. get_or-replicate {A = Option ℕ} 256 (16 * u + v) None None (omega arith));
}

pub loop-n-preserved : goal.loop-n-preserved
loop-n-preserved c =
    let rule = c.all-set.ensures.rule in
    let nodes : c.nodes-nodes.result ≡ node_count c.args.pairs.now = c.nodes-nodes.ensures.nodes ∙ ap node_count c.rule.ensures in
    let h = c.loop-n.invariant in
    let next = AreTogether-next rule h.pairs c.trim-after.ensures in
    record {
      pairs = next;
      ranks = AreRanksSoFar-next rule c.loop-n.ranks c.note_fallen.new.ranks h.pairs next h.ranks (rw nodes at c.note_fallen.ensures.fallen) (rw nodes at c.note_fallen.ensures.kept);
    }

pub returns-then-same-clause-endless : goal.returns-then-same-clause-endless
returns-then-same-clause-endless c = AreEndless-stable c.all-set.ensures.rule c.loop-n.invariant.pairs (rw (c.same.ensures.0 c.if-same.true) at c.trim-after.ensures)

pub returns-then-same-clause-ranks : goal.returns-then-same-clause-ranks
returns-then-same-clause-ranks c = AreRanks-endless c.loop-n.ranks c.loop-n.invariant.pairs (returns-then-same-clause-endless c) c.loop-n.invariant.ranks

pub returns-clause-endless : goal.returns-clause-endless
returns-clause-endless c = AreEndless-all c.all-set.ensures.rule (omega (arith, c.loop-n-test.false)) c.loop-n.invariant.pairs

pub returns-clause-ranks : goal.returns-clause-ranks
returns-clause-ranks c = AreRanks-endless c.loop-n.ranks c.loop-n.invariant.pairs (returns-clause-endless c) c.loop-n.invariant.ranks
