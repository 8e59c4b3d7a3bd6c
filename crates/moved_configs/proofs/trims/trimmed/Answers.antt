use Rattle.std.proofs.Common.{ℕ, arith, bit_and}
use Rattle.word_image.proofs.Common.{and_le_r}
use Rattle.pair_laws.proofs.Common.{IsBitSet-and, IsSetOf-both}
use Rattle.moved_configs.proofs.trims.trimmed.Goals as goal

pub returns-clause-trimmed : goal.returns-clause-trimmed
returns-clause-trimmed c =
    let both = IsSetOf-both c.going_on.ensures.nodes c.going_on-2.ensures.nodes in
    let goes : ℕ = bit_and c.going_on.result c.going_on-2.result in
    record {
      within = omega (arith, and_le_r c.args.nodes goes, both.within);
      nodes = λ u l.
          let and = IsBitSet-and c.args.nodes goes u in
          (λ bit. ((and.0 bit).0, (both.nodes u l).0 (and.0 bit).1), λ h. and.1 (h.0, (both.nodes u l).1 h.1));
    }
