use Rattle.std.proofs.Common.{◌≡◌, sym, ap, subst, ◌∙◌}
use Rattle.word_image.proofs.Common.{IsRule, follow_on}
use Rattle.word_image.specs.declared.side.Side.TheVariants.{Left}
use Rattle.pair_laws.proofs.Common.{LeadsBack-follow}
use Rattle.pair_graph.proofs.pairs.Pairs.back.Goals as goal

pub returns : goal.returns
returns c =
    let is : c.follow.result ≡ follow_on Left c.args.self.now c.args.q c.args.a c.args.b = c.follow.ensures.pair ∙ ap (λ r. follow_on Left r c.args.q c.args.a c.args.b) c.rule.ensures in
    record {
      exactly = λ p.
          let exact = LeadsBack-follow (subst IsRule c.rule.ensures c.follow.ensures.rule) c.args.q c.args.a c.args.b p c.requires.pair c.requires.first c.requires.second in
          ((λ some. exact.0 (sym is ∙ some)), (λ back. is ∙ exact.1 back));
      pair = is;
    }
