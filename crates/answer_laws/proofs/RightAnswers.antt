-- What the right answers to words have in common.
use Rattle.std.proofs.Common.{◌≡◌, ◌≢◌, ℕ, List, refl, ◌∙◌, subst, Option, ◌↔◌}
use Rattle.rule_text.specs.declared.text_fault.TextFault.{TextFault}
use Rattle.ca_commands.specs.declared.names.Name.{Name}
use Rattle.ca_commands.specs.declared.names.Name.TheVariants as name
use Rattle.ca_commands.specs.Commands.{Command, IsCommand}
use Rattle.ca_commands.proofs.laws.Names.{IsCommand-unique}
use Rattle.ca_questions.proofs.Common.{Question, Cause, IsCauseFor, Reply}
use Rattle.ca_text.specs.Replies.{reply_text}
use Rattle.ca_text.specs.StatusLines.{usage_line, operand_fault_line}
use Rattle.ca_cli.specs.declared.status.Status.{Status}
use Rattle.ca_cli.specs.declared.status.Status.TheVariants as status
use Rattle.ca_cli.specs.Statuses.{reply_status}
use Rattle.ca_commands.specs.Asked.{IsAsked, IsOperandFault}
use Rattle.ca_cli.specs.Readings.{ReadsNothing}
use Rattle.ca_cli.specs.RightAnswers.{IsReply, IsReplyOf, IsReplyTo, IsAnswer}
use Rattle.ca_cli.specs.RightAnswers.IsReply.{Found, NotFit, RuleFault, Accepted, Refused, TooLong}
use Rattle.ca_commands.proofs.laws.Asked.{IsAsked-reads_nothing, IsOperandFault-reads_nothing}

-- what a reply to words that are a command is
pub to_command : {words : List (List ℕ)} {input : Option (List ℕ)} {c : Command} {reply : Reply} → IsCommand words c → IsReplyTo words input reply
    → IsReply input c reply
to_command is (IsReplyTo.Usage none) = absurd (none _ is)
to_command {input = input} is (IsReplyTo.Right d reply also right) = subst (λ e. IsReply input e reply) (IsCommand-unique also is) right

-- of words that are a command exactly what is right for it is right
pub right_exactly : {words : List (List ℕ)} {input : Option (List ℕ)} {c : Command} {s : Status} {out : List ℕ} → IsCommand words c
    → IsAnswer words input s out ↔ IsReplyOf input c s out
right_exactly {c = c} is = (
  λ answer. (answer.reply, to_command is answer.right, answer.status_is, answer.output_is),
  λ (reply, right, same, text). record { reply = reply; right = IsReplyTo.Right c reply is right; status_is = same; output_is = text },
)

-- what a reply says of the name of its command: that it is `check` or that it isn't
abbrev SaysOf : Reply → Name → Type 0
SaysOf (Reply.Accepted v) n = n ≡ name.Check
SaysOf (Reply.Refused f) n = n ≡ name.Check
SaysOf Reply.TooLong n = n ≡ name.Check
SaysOf _ n = n ≢ name.Check

-- only to `check` a right reply judges an input
pub says_of : {words : List (List ℕ)} {input : Option (List ℕ)} {c : Command} {reply : Reply} → IsCommand words c → IsReply input c reply
    → SaysOf reply c.name
says_of is (Found c q f asked right) = IsAsked-reads_nothing asked
says_of is (NotFit c q u asked unfits) = IsAsked-reads_nothing asked
says_of is (RuleFault c i f fault) = IsOperandFault-reads_nothing is fault
says_of is (Accepted c bytes v check whole accepted are_true) = check
says_of is (Refused c bytes f check whole refused) = check
says_of is (TooLong c check long) = check

-- no reply to a command is Usage
usage_for_none : {input : Option (List ℕ)} {c : Command} {reply : Reply} → IsReply input c reply → status.Usage ≢ reply_status reply
usage_for_none (Found c q f asked right) is = cc
usage_for_none _ is = cc

usage_to : {words : List (List ℕ)} {input : Option (List ℕ)} {reply : Reply} → IsReplyTo words input reply → status.Usage ≡ reply_status reply
    → ((c : Command) → ¬ IsCommand words c) × (reply_text reply ≡ usage_line)
usage_to (IsReplyTo.Usage none) same = (none, refl)
usage_to (IsReplyTo.Right c reply is right) same = absurd (usage_for_none right same)

pub usage_says : {words : List (List ℕ)} {input : Option (List ℕ)} {out : List ℕ} → IsAnswer words input status.Usage out
    → ((c : Command) → ¬ IsCommand words c) × (out ≡ usage_line)
usage_says answer = let (none, line) = usage_to answer.right answer.status_is in (none, answer.output_is ∙ line)

-- a reply with the status RuleFault names an operand that is refused
fault_said : {input : Option (List ℕ)} {c : Command} {reply : Reply} → IsReply input c reply → status.RuleFault ≡ reply_status reply
    → (i : ℕ) × (f : TextFault) × IsOperandFault c i f × (reply_text reply ≡ operand_fault_line i f)
fault_said (RuleFault c i f fault) same = (i, f, fault, refl)
fault_said _ same = absurd cc

fault_to : {words : List (List ℕ)} {input : Option (List ℕ)} {reply : Reply} → IsReplyTo words input reply → status.RuleFault ≡ reply_status reply
    → (c : Command) × (i : ℕ) × (f : TextFault) × IsCommand words c × IsOperandFault c i f × (reply_text reply ≡ operand_fault_line i f)
fault_to (IsReplyTo.Usage none) same = absurd cc
fault_to (IsReplyTo.Right c reply is right) same = let (i, f, fault, line) = fault_said right same in (c, i, f, is, fault, line)

pub rule_fault_says : {words : List (List ℕ)} {input : Option (List ℕ)} {out : List ℕ} → IsAnswer words input status.RuleFault out
    → (c : Command) × (i : ℕ) × (f : TextFault) × IsCommand words c × IsOperandFault c i f × (out ≡ operand_fault_line i f)
rule_fault_says answer = let (c, i, f, is, fault, line) = fault_to answer.right answer.status_is in (c, i, f, is, fault, answer.output_is ∙ line)

-- of a command that reads nothing, none of whose operands is refused and for which something fits, the status is Done
pub done_says : {words : List (List ℕ)} {input : Option (List ℕ)} {c : Command} {reply : Reply} → IsCommand words c → ReadsNothing c
    → ((i : ℕ) (f : TextFault) → ¬ IsOperandFault c i f)
    → ((q : Question) (u : Cause) → IsAsked c q → ¬ IsCauseFor q u) → IsReply input c reply → reply_status reply ≡ status.Done
done_says is reads accepted fits (Found c q f asked right) = refl
done_says is reads accepted fits (NotFit c q u asked unfits) = absurd (fits q u asked unfits)
done_says is reads accepted fits (RuleFault c i f fault) = absurd (accepted i f fault)
done_says is reads accepted fits judged = absurd (reads (says_of is judged))
