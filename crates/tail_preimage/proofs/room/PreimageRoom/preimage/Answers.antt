use Rattle.std.proofs.Common.{refl, arith}
use Rattle.tail_config.proofs.Common.{IsTail}
use Rattle.tail_preimage.specs.Preimages.{IsGap, IsFrom}
use Rattle.tail_preimage.specs.Answers.{placed_config, placed_of_lent}
use Rattle.tail_preimage.specs.declared.answer.Pre.TheVariants.{From, Gap}
use Rattle.tail_preimage.proofs.laws.Answers.{IsGap-first, IsPreimageAnswer-unique}
use Rattle.tail_preimage.proofs.laws.Lengths.{IsShortAnswer-right}
use Rattle.tail_preimage.proofs.room.PreimageRoom.preimage.Goals as goal

pub returns-in-Some : goal.returns-in-Some
returns-in-Some c =
    let r = c.args.rule.now in
    let t = c.args.tail.now.config in
    let tail : IsTail c.of-graph.result.states t = grind arith in
    let first = rw c.of-graph.ensures at (IsGap-first tail c.parts_of-parts.ensures.parts c.in-Some.left c.in-Some.right c.in-Some.ensures) in
    let gap : IsGap r t c.from.result c.from-in-Some.result c.word.result.now = grind arith in
    let pre = Gap c.from.result c.from-in-Some.result c.word.result.now in
    record {
      answer = gap;
      only = λ other right. IsPreimageAnswer-unique r t other pre right gap;
      exactly = ((λ e. absurd cc), (λ (p, maps). absurd (gap.none p maps)));
      short = IsShortAnswer-right r c.parts_of-parts.ensures.tail.short pre gap;
    }

pub returns : goal.returns
returns c =
    let r = c.args.rule.now in
    let t = c.args.tail.now.config in
    let p = placed_of_lent c.first_placed.result in
    let first : IsFrom r t (placed_config p) = rw c.of-graph.ensures at c.first_placed.ensures in
    record {
      answer = first;
      only = λ other right. IsPreimageAnswer-unique r t other (From p) right first;
      exactly = ((λ e. (placed_config p, first.least.preimage.maps)), (λ maps. refl));
      short = IsShortAnswer-right r c.parts_of-parts.ensures.tail.short (From p) first;
    }
