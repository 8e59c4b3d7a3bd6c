-- What `certify` and `brief` write is accepted by `check`.
use Rattle.std.proofs.Common.{◌≡◌, ℕ, ◌≤◌, ◌∙◌, List, length, refl, sym, ap, subst, arith, Option, Some, ◌↔◌}
use Rattle.word_image.proofs.Common.{LocalRule}
use Rattle.cert_values.specs.declared.cert_version.CertVersion.{CertVersion}
use Rattle.cert_values.proofs.Common.{Certificate, certificate_text}
use Rattle.cert_conditions.proofs.Common.{IsAccepted, AreTrue, verdicts_of, AreTrue-accepted}
use Rattle.cert_conditions.specs.declared.verdicts.Verdicts.{Verdicts}
use Rattle.certificate_laws.specs.WrittenCertificates.{IsWritten}
use Rattle.ca_commands.specs.Commands.{Command, IsCommand, check_command, words_of}
use Rattle.ca_questions.proofs.Common.{Question, Finding, IsFinding, weights_by, Reply}
use Rattle.ca_text.specs.Texts.{text_of}
use Rattle.ca_text.specs.Replies.{reply_text}
use Rattle.ca_text.specs.StatusLines.{accepted_lines}
use Rattle.ca_cli.specs.declared.status.Status.{Status}
use Rattle.ca_cli.specs.declared.status.Status.TheVariants as status
use Rattle.ca_commands.specs.Asked.{IsAsked}
use Rattle.ca_cli.specs.Inputs.{most_input}
use Rattle.ca_cli.specs.RightAnswers.{IsReply, IsReplyOf}
use Rattle.ca_cli.specs.Statuses.{reply_status}
use Rattle.ca_cli.specs.RightAnswers.IsReply.{Found, Accepted}
use Rattle.ca_commands.proofs.laws.Asked.{IsAsked-unique, IsAsked-reads_nothing}
use Rattle.answer_laws.proofs.Replies.{ReadsOne-told, reply_exactly}
use Rattle.answer_laws.proofs.CheckAnswers.{accepted_right}

-- what is said of a text that is a written certificate
abbrev IsAcceptedAs : LocalRule → List ℕ → List ℕ → Type 0
IsAcceptedAs r weights out =
    (v : Verdicts) × (v.rule ≡ r) × (v.weights ≡ weights) × AreTrue v
    × ((s : Status) (lines : List ℕ) → IsReplyOf (Some out) check_command s lines ↔ ((s ≡ status.Done) × (lines ≡ accepted_lines v)))

-- the word `check` is the command that reads
check_is : IsCommand (words_of check_command) check_command
check_is = record { words_are = refl; rules = refl; operands = tt }

-- `check` accepts the text of a written certificate
written_accepted : {version : CertVersion} {r : LocalRule} {weights out : List ℕ} (c : Certificate) → IsWritten version r weights c
    → out ≡ certificate_text c → IsAcceptedAs r weights out
written_accepted {out = out} c written is =
    let accepted : IsAccepted out (verdicts_of c) = subst (λ b. IsAccepted b (verdicts_of c)) (sym is) written.accepted in
    let short : length out ≤ most_input = omega (arith, ap length is, written.short) in
    (verdicts_of c, written.parts.least.rule, written.parts.weights_are, AreTrue-accepted accepted, λ s lines. reply_exactly check_is (λ check. ReadsOne-told out) (accepted_right short accepted))

-- what is found for a question that asks for a certificate is a certificate
certificate_found : {version : CertVersion} {r : LocalRule} {weights : Option (List ℕ)} {f : Finding}
    → IsFinding (Question.Certify version r weights) f
    → (c : Certificate) × IsWritten version r (weights_by weights r) c × (text_of f ≡ certificate_text c)
certificate_found (IsFinding.Written version r weights c each written) = (c, written, refl)

-- `check` accepts what is said to a command that asks for a certificate
said_accepted : {input : Option (List ℕ)} {c : Command} {version : CertVersion} {r : LocalRule} {weights : Option (List ℕ)} {out : List ℕ} {reply : Reply}
    → IsAsked c (Question.Certify version r weights) → IsReply input c reply → status.Done ≡ reply_status reply → out ≡ reply_text reply
    → IsAcceptedAs r (weights_by weights r) out
said_accepted asked (Found c q f also right) done text =
    let (cert, written, is) = certificate_found (subst (λ p. IsFinding p f) (IsAsked-unique also asked) right) in written_accepted cert written (text ∙ is)
said_accepted asked (Accepted c bytes v check whole accepted are_true) done text = absurd (IsAsked-reads_nothing asked check)
said_accepted asked _ done text = absurd cc

pub certified_accepted : {input : Option (List ℕ)} {c : Command} {version : CertVersion} {r : LocalRule} {weights : Option (List ℕ)} {out : List ℕ}
    → IsAsked c (Question.Certify version r weights) → IsReplyOf input c status.Done out → IsAcceptedAs r (weights_by weights r) out
certified_accepted asked (reply, right, done, text) = said_accepted asked right done text
