use Rattle.std.proofs.Common.{◌≡◌, Err, inl, inr, map, ap, ⊎_elim, rules, string_bytes}
use Rattle.list_run.specs.declared.cut.Cut.TheVariants as cut
use Rattle.list_run.specs.declared.status.Status.TheVariants as status
use Rattle.list_run.specs.Lines.{usage_line, fault_line}
use Rattle.list_run.specs.Answers.{IsAnswer, IsBegun}
use Rattle.list_run.proofs.laws.Answers.{IsBegun-list, cut_of}
use Rattle.list_run.proofs.top_call.answer.Goals as goal

pub returns-in_err-write_all-clause-failed : goal.returns-in_err-write_all-clause-failed
returns-in_err-write_all-clause-failed g c is =
    let (n, less, part) = c.in_err-write_all.ensures.part in
    (usage_line, n, IsBegun.Whole status.Usage (IsAnswer.Usage c.in_default.ensures), less, part)

pub returns-in_default-clause-whole : goal.returns-in_default-clause-whole
returns-in_default-clause-whole g c = (usage_line, IsAnswer.Usage c.in_default.ensures, c.in_ok-write_all.ensures.written)

pub returns-in_err-write_all-in-Err-clause-failed : goal.returns-in_err-write_all-in-Err-clause-failed
returns-in_err-write_all-in-Err-clause-failed g c is =
    let same : c.as_bytes.result.now ≡ fault_line c.in-Err.fault = search rules in
    let (n, less, part) = c.in_err-write_all-in-Err.ensures.part in (
      fault_line c.in-Err.fault,
      n,
      IsBegun.Whole status.RuleFault (IsAnswer.RuleFault c.in-Some.property c.in-Some.text.now c.in-Err.fault c.in-Some.ensures c.in-Err.ensures.fault),
      rw same at less,
      rw same at part,
    )

pub returns-in-Ok-write_list-clause-whole : goal.returns-in-Ok-write_list-clause-whole
returns-in-Ok-write_list-clause-whole g c =
    let (out, list, took) = c.in-Ok-write_list.ensures.whole in
    (out, IsAnswer.Done c.in-Some.property c.in-Some.text.now c.in-Ok.beginning out c.in-Some.ensures c.in-Ok.ensures.beginning list, took)

pub returns-in-Err-write_list-clause-failed : goal.returns-in-Err-write_list-clause-failed
returns-in-Err-write_list-clause-failed g c is =
    let failed : c.in-Err-write_list.cut ≡ cut.Failed = ap cut_of is in
    let (out, n, either, less, part) = c.in-Err-write_list.ensures.failed (ap Err failed) in
    (out, n, IsBegun-list (map string_bytes c.args.words.now) c.in-Some.property c.in-Some.text.now c.in-Ok.beginning out c.in-Some.ensures c.in-Ok.ensures.beginning either, less, part)

pub returns-in-Err-write_list-clause-memory : goal.returns-in-Err-write_list-clause-memory
returns-in-Err-write_list-clause-memory g c fault is =
    let memory : c.in-Err-write_list.cut ≡ cut.Memory fault = ap cut_of is in
    ⊎_elim
    (λ same. inl same)
    (λ (out, far, took). inr (out, IsBegun-list (map string_bytes c.args.words.now) c.in-Some.property c.in-Some.text.now c.in-Ok.beginning out c.in-Some.ensures c.in-Ok.ensures.beginning (inr far), took))
    (c.in-Err-write_list.ensures.memory fault (ap Err memory))

pub returns-in_ok-write_all-in-Err-clause-whole : goal.returns-in_ok-write_all-in-Err-clause-whole
returns-in_ok-write_all-in-Err-clause-whole g c =
    let same : c.as_bytes.result.now ≡ fault_line c.in-Err.fault = search rules in (
      fault_line c.in-Err.fault,
      IsAnswer.RuleFault c.in-Some.property c.in-Some.text.now c.in-Err.fault c.in-Some.ensures c.in-Err.ensures.fault,
      rw same at c.in_ok-write_all-in-Err.ensures.written,
    )
