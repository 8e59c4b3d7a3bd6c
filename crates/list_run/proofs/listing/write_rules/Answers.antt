use Rattle.std.proofs.Common.{ℕ, ◌^◌, List, [], ◌∷◌, ◌++◌, ◌<◌, length, take, rules, None, refl, sym, ap, ap₂, ◌∙◌, subst, arith}
use Rattle.std.proofs.KnownBytes.{Appends-nil}
use Rattle.std.specs.Io.KnownBytes.{Appends}
use Rattle.std.proofs.lemmas.List.{length-append}
use Rattle.rule_lists.specs.Searches.{IsOrdered}
use Rattle.rule_lists.proofs.laws.Calls.{AreSoFar-next, AreAll-ended, AreListed-all}
use Rattle.list_run.specs.Lines.{count_line, rule_lines}
use Rattle.list_run.specs.Lists.{IsListSoFar}
use Rattle.list_run.proofs.laws.Answers.{IsListSoFar-lines}
use Rattle.list_run.proofs.laws.Lines.{whole_line, cut_line}
use Rattle.list_run.proofs.listing.write_rules.Goals as goal

pub loop-rule-init : goal.loop-rule-init
loop-rule-init g c =
    let begun = c.into_iter-rule-iterator.ensures.into_iter_gives in
    let none = ap (λ s. s.last) begun ∙ c.new-rule-items.ensures.1 in
    record {
      can = record { ordered = subst IsOrdered (sym (ap (λ s. s.asked) begun ∙ c.new-rule-items.ensures.0)) c.requires.order.windows; fits = rw none tt };
      asked = refl;
      line = c.requires.line;
      so_far = sym none;
      count = refl;
      taken = Appends-nil _;
      telling = refl;
      counted = refl;
    }

pub loop-rule-preserved : goal.loop-rule-preserved
loop-rule-preserved g c =
    let r = c.in-Some.rule in
    let rs = c.loop-rule.yielded in
    let so_far = c.loop-rule.invariant in
    let steps = c.in-Some.ensures.steps in
    let asked = so_far.asked ∙ ap (λ s. s.asked) c.into_iter-rule-iterator.ensures.into_iter_gives ∙ c.new-rule-items.ensures.0 in
    let first = rw asked at steps.listed in
    let of = first.listed.shape in
    record {
      can = c.in-Some.ensures.goes.keeps;
      asked = steps.asked ∙ so_far.asked;
      line = record { table = r.table; long = of.rule.entries ∙ ap₂ (λ (a b : ℕ). a ^ b) of.states of.width; text = c.set_table.ensures };
      so_far = rw steps.last (AreSoFar-next _ _ _ _ _ None rs _ r so_far.so_far first);
      count = omega (arith, c.saturating_add-count.ensures, so_far.count, length-append rs (r ∷ []));
      taken = whole_line c.args.beginning.now.rule rs r c.set_table.new.line _ _ _ c.set_table.ensures so_far.taken c.in_ok-write_all.ensures.written;
      telling = c.in_ok-write_all.ensures.telling ∙ so_far.telling;
      counted = c.in_ok-write_all.ensures.counted.kept ∙ so_far.counted;
    }

pub returns-in_err-write_all-clause-part : goal.returns-in_err-write_all-clause-part
returns-in_err-write_all-clause-part g c =
    let r = c.in-Some.rule in
    let rs = c.loop-rule.yielded in
    let so_far = c.loop-rule.invariant in
    let asked = so_far.asked ∙ ap (λ s. s.asked) c.into_iter-rule-iterator.ensures.into_iter_gives ∙ c.new-rule-items.ensures.0 in
    let first = rw asked at c.in-Some.ensures.steps.listed in
    let (n, less, part) = c.in_err-write_all.ensures.part in
    let (i, below, cut) = cut_line c.args.beginning.now.rule rs r c.set_table.new.line n _ _ _ c.set_table.ensures less so_far.taken part in
    let list : IsListSoFar c.args.property c.args.beginning.now (rule_lines c.args.beginning.now.rule (rs ++ r ∷ [])) =
    IsListSoFar-lines _ _ c.requires.given c.requires.order (AreSoFar-next _ _ _ _ _ None rs _ r so_far.so_far first) in
    let cut_off : (out : List ℕ) × (j : ℕ) × IsListSoFar c.args.property c.args.beginning.now out × (j < length out) × Appends (g.T.Sink.taken c.args.sink.now) (g.T.Sink.taken c.write_all.new.sink) (take j out) =
    (_, i, list, below, cut) in
    search rules

pub returns-clause-all : goal.returns-clause-all
returns-clause-all g c =
    let rs = c.loop-rule.yielded in
    let so_far = c.loop-rule.invariant in
    let asked = so_far.asked ∙ ap (λ s. s.asked) c.into_iter-rule-iterator.ensures.into_iter_gives ∙ c.new-rule-items.ensures.0 in
    let none = rw asked at c.in-None.ensures.steps.listed in
    let all = AreAll-ended _ _ _ _ _ None rs _ so_far.so_far none in (
      rule_lines c.args.beginning.now.rule rs,
      IsListSoFar-lines rs _ c.requires.given c.requires.order so_far.so_far,
      record {
        letters = c.args.letters.now;
        order = c.args.order.now;
        rules = rs;
        given = c.requires.given;
        windows = c.requires.order;
        listed = AreListed-all _ _ _ _ _ rs c.requires.order.windows all;
        lines = ap (λ (n : ℕ). rule_lines c.args.beginning.now.rule rs ++ count_line n) so_far.count;
      },
      so_far.taken,
    )
