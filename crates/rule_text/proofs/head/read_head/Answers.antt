use Rattle.std.proofs.Common.{ℕ, zero-add, subst, sym, arith, rules, FitsSigned, w8, to_z, of_z}
use Rattle.std.proofs.lemmas.Int.{to_z-of_z}
use Rattle.word_image.proofs.Common.{IsFormFault}
use Rattle.rule_text.specs.RuleTexts.{IsSaid, IsTextFault, Bare}
use Rattle.rule_text.specs.Heads.{IsRuleFormAt, LacksField}
use Rattle.rule_text.proofs.laws.Parts.{Signed, Kinds, AfterWidth-more, Kinds-more}
use Rattle.rule_text.proofs.laws.Leads.{TextLeads-states, TextLeads-field, TextLeads-offset, TextLeads-kind, TextLeads-lacks_field, TextLeads-lacks_offset, TextLeads-lacks_kind, TextLeads-head, IsFormFault-bare}
use Rattle.rule_text.proofs.head.read_head.Goals as goal

pub returns-in_default-clause-head : goal.returns-in_default-clause-head
returns-in_default-clause-head c =
    let text = c.args.text.now in
    let h : IsRuleFormAt text c.in_default.field-0 (LacksField text 0) = c.in_default.ensures.fault in
    record {
      within = omega arith;
      says = λ entries. Bare text entries;
      stops = λ n f. subst (λ (j : ℕ). IsFormFault IsSaid text j) (sym (zero-add n)) (IsFormFault-bare text h.0 n h.2 h.3 f);
    }

pub returns-in_err-m-clause-fault : goal.returns-in_err-m-clause-fault
returns-in_err-m-clause-fault c =
    let k = TextLeads-states c.in-Ok.ensures.number in
    let fault : IsTextFault c.args.text.now c.in_err-m.field-0.0 = TextLeads-lacks_field k (AfterWidth-more c.in-Ok.k) c.in_err-m.ensures.fault in
    search rules

pub returns-in_err-o-clause-fault : goal.returns-in_err-o-clause-fault
returns-in_err-o-clause-fault c =
    let k = TextLeads-states c.in-Ok.ensures.number in
    let m = TextLeads-field {After = λ j. Signed (λ o. Kinds c.in-Ok.k j o)} k c.in_ok-m.ensures.number in
    let fault : IsTextFault c.args.text.now c.in_err-o.field-0.0 =
    TextLeads-lacks_offset {After = λ o. Kinds c.in-Ok.k c.in_ok-m.m o} m (λ o. Kinds-more c.in-Ok.k c.in_ok-m.m o) c.in_err-o.ensures.fault in
    search rules

pub returns-in_err-kind-clause-fault : goal.returns-in_err-kind-clause-fault
returns-in_err-kind-clause-fault c =
    let k = TextLeads-states c.in-Ok.ensures.number in
    let m = TextLeads-field {After = λ j. Signed (λ o. Kinds c.in-Ok.k j o)} k c.in_ok-m.ensures.number in
    let o = TextLeads-offset {After = λ o. Kinds c.in-Ok.k c.in_ok-m.m o} m c.in_ok-o.ensures.offset in
    let fault : IsTextFault c.args.text.now c.in_err-kind.field-0.0 = TextLeads-lacks_kind o c.in_err-kind.ensures.fault in
    search rules

pub returns-clause-head : goal.returns-clause-head
returns-clause-head c =
    let fits : FitsSigned w8 c.in_ok-o.o = search rules in
    let k = TextLeads-states c.in-Ok.ensures.number in
    let m = TextLeads-field {After = λ j. Signed (λ o. Kinds c.in-Ok.k j o)} k c.in_ok-m.ensures.number in
    let o = TextLeads-offset {After = λ o. Kinds c.in-Ok.k c.in_ok-m.m o} m c.in_ok-o.ensures.offset in
    let kind = TextLeads-kind o c.in_ok-kind.kind c.in_ok-kind.ensures.over in
    let head = TextLeads-head c.in_ok-kind.kind (to_z w8 (of_z w8 c.in_ok-o.o)) (to_z-of_z w8 c.in_ok-o.o fits) kind c.in_ok-kind.ensures.within in
    record { within = c.in_ok-kind.ensures.within; says = head.0; stops = head.1 }
