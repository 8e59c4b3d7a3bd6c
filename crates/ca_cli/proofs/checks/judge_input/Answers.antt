use Rattle.std.proofs.Common.{◌≡◌, ◌+◌, ◌≤◌, ℕ, List, length, inl, inr, sym, subst, arith, ◌≢◌, ◌⊎◌, alloc_error, Option, Result, Ok, Err, IfOk, MatchResult}
use Rattle.cert_conditions.proofs.Common.{IsRefusal}
use Rattle.cert_conditions.specs.declared.refusal.Refusal.{Refusal}
use Rattle.cert_conditions.specs.declared.refusal.Refusal.TheVariants as refusal
use Rattle.ca_io.specs.declared.input.InputFault.{InputFault}
use Rattle.ca_io.specs.declared.input.InputFault.TheVariants as fault
use Rattle.ca_commands.specs.declared.names.Name.TheVariants as name
use Rattle.ca_commands.specs.Commands.{Command}
use Rattle.ca_questions.specs.declared.reply.Reply as code
use Rattle.ca_questions.specs.declared.reply.Reply.TheVariants as said
use Rattle.ca_questions.proofs.Common.{reply_of}
use Rattle.ca_cli.specs.Inputs.{most_input, IsWholeInput}
use Rattle.ca_cli.specs.RightAnswers.{IsReply}
use Rattle.ca_cli.proofs.laws.Inputs.{IsLongInput-taken, IsWholeInput-taken}
use Rattle.ca_cli.proofs.checks.judge_input.Goals as goal

-- the reply is this refusal, or there was no memory
abbrev IsRefused : Refusal → Result code.Reply InputFault → Type 0
IsRefused f result = MatchResult result (λ reply. (reply ≡ said.Refused f) × (f ≢ refusal.Memory alloc_error)) (λ e. (e ≡ fault.Memory alloc_error) × (f ≡ refusal.Memory alloc_error))

-- a refusal of the whole input is right for `check`
refused_reply : {input : Option (List ℕ)} {bytes : List ℕ} {f : Refusal} (result : Result code.Reply InputFault) → IsWholeInput input bytes
    → (f ≡ refusal.Memory alloc_error) ⊎ IsRefusal bytes f
    → IsRefused f result → IfOk result (λ reply. (c : Command) → c.name ≡ name.Check → IsReply input c (reply_of reply))
refused_reply {input = input} {bytes = bytes} {f = f} (Ok reply) whole refuses (is, other) =
    subst (λ r. (c : Command) → c.name ≡ name.Check → IsReply input c (reply_of r)) (sym is)
    (λ c check. IsReply.Refused c bytes f check whole (elim refuses [ inl memory ↦ absurd (other memory) | inr refused ↦ refused ]))
refused_reply (Err e) whole refuses says = tt

pub returns-then-len-gt-LONGEST_INPUT-clause-reply : goal.returns-then-len-gt-LONGEST_INPUT-clause-reply
returns-then-len-gt-LONGEST_INPUT-clause-reply g c d check =
    let bytes = c.in_ok-bytes.bytes.items in
    let many : most_input + 1 ≤ length bytes = omega (arith, c.len.ensures, c.if-len-gt-LONGEST_INPUT.true) in
    IsReply.TooLong d check (IsLongInput-taken _ _ bytes c.in_ok-bytes.ensures.read many)

pub returns-in-Ok-clause-reply : goal.returns-in-Ok-clause-reply
returns-in-Ok-clause-reply g c d check =
    let input = g.S.Source.left c.args.source.now in
    let bytes = c.in_ok-bytes.bytes.items in
    let short : length bytes ≤ most_input = omega (arith, c.len.ensures, c.if-len-gt-LONGEST_INPUT.false) in
    let whole = IsWholeInput-taken input _ bytes c.in_ok-bytes.ensures.read (c.in_ok-bytes.ensures.whole (omega (arith, short))) short in
    IsReply.Accepted d c.deref.result.now c.in-Ok.verdicts check (subst (IsWholeInput input) (sym c.deref.ensures.value) whole) c.in-Ok.ensures.accepted c.in-Ok.ensures.verdicts

pub returns-clause-reply : goal.returns-clause-reply
returns-clause-reply g c =
    let input = g.S.Source.left c.args.source.now in
    let bytes = c.in_ok-bytes.bytes.items in
    let short : length bytes ≤ most_input = omega (arith, c.len.ensures, c.if-len-gt-LONGEST_INPUT.false) in
    let whole = IsWholeInput-taken input _ bytes c.in_ok-bytes.ensures.read (c.in_ok-bytes.ensures.whole (omega (arith, short))) short in
    refused_reply c.refused.result (subst (IsWholeInput input) (sym c.deref.ensures.value) whole) c.in-Err.ensures.refused c.refused.ensures
