use Rattle.std.proofs.Common.{refl}
use Rattle.rule_verdicts.specs.Reports.{evidence_of}
use Rattle.c_structs.proofs.laws.LetterRows.{IsGrown, IsGrown-same, IsGrown-more}
use Rattle.c_structs.proofs.laws.Reports.{SaysSurjective-grown, SaysInjective-grown, SaysSide-grown}
use Rattle.c_structs.proofs.rule_reports.written.Goals as goal

pub returns-clause-report : goal.returns-clause-report
returns-clause-report c =
    let e = evidence_of c.args.found.now in
    let last = c.add_conserving-conserving.new.letters.items in
    let fourth : IsGrown c.add_side-left.new.letters.items last = IsGrown-more _ (IsGrown-same _) c.add_conserving-conserving.ensures.letters in
    let third : IsGrown c.add_side-right.new.letters.items last = IsGrown-more _ (IsGrown-more _ (IsGrown-same _) c.add_side-left.ensures.letters) c.add_conserving-conserving.ensures.letters in
    let second : IsGrown c.add_injective-injective.new.letters.items last =
    IsGrown-more _ (IsGrown-more _ (IsGrown-more _ (IsGrown-same _) c.add_side-right.ensures.letters) c.add_side-left.ensures.letters) c.add_conserving-conserving.ensures.letters in
    let first : IsGrown c.add_surjective-surjective.new.letters.items last =
    IsGrown-more _ (IsGrown-more _ (IsGrown-more _ (IsGrown-more _ (IsGrown-same _) c.add_injective-injective.ensures.letters) c.add_side-right.ensures.letters) c.add_side-left.ensures.letters) c.add_conserving-conserving.ensures.letters in
    record {
      fault = refl;
      surjective = SaysSurjective-grown _ last _ _ e.orphan first c.add_surjective-surjective.ensures.part;
      injective = SaysInjective-grown _ last _ _ _ _ e.injective second c.add_injective-injective.ensures.part;
      right = SaysSide-grown _ last _ _ _ e.right third c.add_side-right.ensures.part;
      left = SaysSide-grown _ last _ _ _ e.left fourth c.add_side-left.ensures.part;
      is_open = c.min.ensures;
      conserving = c.add_conserving-conserving.ensures.part;
      reserved = refl;
    }
