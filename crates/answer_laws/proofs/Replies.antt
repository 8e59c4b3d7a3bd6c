-- Words have one right reply.
use Rattle.std.proofs.Common.{◌≡◌, ℕ, List, length, refl, sym, ap, ap₂, ◌∙◌, subst, arith, rules, Option, Some, ◌↔◌}
use Rattle.cert_conditions.proofs.Common.{IsAccepted, IsRefusal}
use Rattle.cert_conditions.proofs.laws.OneAnswer.{IsAccepted-unique, IsRefusal-unique, accepted_not_refused}
use Rattle.ca_commands.specs.declared.names.Name.TheVariants as name
use Rattle.ca_commands.specs.Commands.{Command, IsCommand}
use Rattle.ca_questions.proofs.Common.{IsFinding, IsCauseFor, Reply}
use Rattle.ca_questions.proofs.Fits.{IsFinding-fit}
use Rattle.ca_cli.specs.declared.status.Status.{Status}
use Rattle.ca_cli.specs.Inputs.{IsLongInput, IsWholeInput}
use Rattle.ca_cli.specs.Readings.{ReadsNothing}
use Rattle.ca_text.specs.Replies.{reply_text}
use Rattle.ca_cli.specs.Statuses.{reply_status}
use Rattle.ca_cli.specs.RightAnswers.{IsReply, IsReplyOf, IsReplyTo, IsAnswer}
use Rattle.ca_cli.specs.RightAnswers.IsReply.{Found, NotFit, RuleFault, Accepted, Refused, TooLong}
use Rattle.ca_commands.proofs.laws.Asked.{IsAsked-unique, IsAsked-no_fault}
use Rattle.answer_laws.proofs.RightAnswers.{says_of, to_command, right_exactly}
use Rattle.answer_laws.proofs.Findings.{IsFinding-unique, IsCauseFor-unique}
use Rattle.answer_laws.proofs.Asked.{IsAsked-rules, IsOperandFault-unique}

-- `check` reads at most one whole input, and no input that is too long beside it
pub record ReadsOne (input : Option (List ℕ)) : Type 0 where
  pub one : {bytes others : List ℕ} → IsWholeInput input bytes → IsWholeInput input others → bytes ≡ others
  pub short : {bytes : List ℕ} → IsWholeInput input bytes → ¬ IsLongInput input

-- a source that tells what it has left gives one input
pub ReadsOne-told : (left : List ℕ) → ReadsOne (Some left)
ReadsOne-told left = record { one = λ whole also. whole.all ∙ sym also.all; short = λ whole long. omega (arith, long, ap length whole.all, whole.short) }

-- right replies to a command are one
pub IsReply-unique : {words : List (List ℕ)} {input : Option (List ℕ)} {c : Command} {a b : Reply} → IsCommand words c
    → (c.name ≡ name.Check → ReadsOne input) → IsReply input c a → IsReply input c b → a ≡ b
IsReply-unique is reads (Found c q f asked right) (Found _ p g also other) =
    ap Reply.Found (IsFinding-unique (IsAsked-rules asked) right (subst (λ p. IsFinding p g) (IsAsked-unique also asked) other))
IsReply-unique is reads (Found c q f asked right) (NotFit _ p u also unfits) = absurd (IsFinding-fit right (subst (λ p. IsCauseFor p u) (IsAsked-unique also asked) unfits))
IsReply-unique is reads (Found c q f asked right) (RuleFault _ i g fault) = absurd (IsAsked-no_fault asked fault)
IsReply-unique is reads (NotFit c q u asked unfits) (Found _ p f also right) = absurd (IsFinding-fit right (subst (λ p. IsCauseFor p u) (IsAsked-unique asked also) unfits))
IsReply-unique is reads (NotFit c q u asked unfits) (NotFit _ p v also other) =
    ap Reply.NotFit (IsCauseFor-unique (IsAsked-rules asked) unfits (subst (λ p. IsCauseFor p v) (IsAsked-unique also asked) other))
IsReply-unique is reads (NotFit c q u asked unfits) (RuleFault _ i g fault) = absurd (IsAsked-no_fault asked fault)
IsReply-unique is reads (RuleFault c i f fault) (Found _ q g asked right) = absurd (IsAsked-no_fault asked fault)
IsReply-unique is reads (RuleFault c i f fault) (NotFit _ q u asked unfits) = absurd (IsAsked-no_fault asked fault)
IsReply-unique is reads (RuleFault c i f fault) (RuleFault _ j g also) = let (one, first) = IsOperandFault-unique is fault also in ap₂ Reply.RuleFault one first
IsReply-unique is reads (Accepted c bytes v check whole accepted are_true) (Accepted _ others w _ also accepted' _) =
    ap Reply.Accepted (IsAccepted-unique accepted (subst (λ b. IsAccepted b w) ((reads check).one also whole) accepted'))
IsReply-unique is reads (Accepted c bytes v check whole accepted are_true) (Refused _ others f _ also refused) =
    absurd (accepted_not_refused accepted (subst (λ b. IsRefusal b f) ((reads check).one also whole) refused))
IsReply-unique is reads (Accepted c bytes v check whole accepted are_true) (TooLong _ _ long) = absurd ((reads check).short whole long)
IsReply-unique is reads (Refused c bytes f check whole refused) (Accepted _ others v _ also accepted _) =
    absurd (accepted_not_refused accepted (subst (λ b. IsRefusal b f) ((reads check).one whole also) refused))
IsReply-unique is reads (Refused c bytes f check whole refused) (Refused _ others g _ also refused') =
    ap Reply.Refused (IsRefusal-unique refused (subst (λ b. IsRefusal b g) ((reads check).one also whole) refused'))
IsReply-unique is reads (Refused c bytes f check whole refused) (TooLong _ _ long) = absurd ((reads check).short whole long)
IsReply-unique is reads (TooLong c check long) (Accepted _ bytes v _ whole accepted are_true) = absurd ((reads check).short whole long)
IsReply-unique is reads (TooLong c check long) (Refused _ bytes f _ whole refused) = absurd ((reads check).short whole long)
IsReply-unique is reads (TooLong c check long) (TooLong _ _ _) = refl
IsReply-unique is reads here there = let one = says_of is here in let other = says_of is there in absurd (search rules)

-- of a right reply to a command exactly the status and the text are right
pub reply_exactly : {words : List (List ℕ)} {input : Option (List ℕ)} {c : Command} {reply : Reply} {s : Status} {out : List ℕ} → IsCommand words c
    → (c.name ≡ name.Check → ReadsOne input)
    → IsReply input c reply → IsReplyOf input c s out ↔ ((s ≡ reply_status reply) × (out ≡ reply_text reply))
reply_exactly {reply = reply} is reads right = (
  λ (other, also, same, text). let one = IsReply-unique is reads also right in (same ∙ ap reply_status one, text ∙ ap reply_text one),
  λ (same, text). (reply, right, same, text),
)

-- of words that are a command exactly the status and the text of a right reply to it are right
pub answer_exactly : {words : List (List ℕ)} {input : Option (List ℕ)} {c : Command} {reply : Reply} {s : Status} {out : List ℕ} → IsCommand words c
    → (c.name ≡ name.Check → ReadsOne input)
    → IsReply input c reply → IsAnswer words input s out ↔ ((s ≡ reply_status reply) × (out ≡ reply_text reply))
answer_exactly is reads right =
    ((λ answer. (reply_exactly is reads right).0 ((right_exactly is).0 answer)), (λ said. (right_exactly is).1 ((reply_exactly is reads right).1 said)))

-- right replies to words are one
IsReplyTo-unique : {words : List (List ℕ)} {input : Option (List ℕ)} {a b : Reply}
    → ((c : Command) → IsCommand words c → c.name ≡ name.Check → ReadsOne input) → IsReplyTo words input a → IsReplyTo words input b → a ≡ b
IsReplyTo-unique reads (IsReplyTo.Usage none) (IsReplyTo.Usage _) = refl
IsReplyTo-unique reads (IsReplyTo.Usage none) (IsReplyTo.Right c b is right) = absurd (none c is)
IsReplyTo-unique reads (IsReplyTo.Right c a is right) there = IsReply-unique is (reads c is) right (to_command is there)

-- words have one right reply over a source that tells what it has left
pub one_reply_told : {words : List (List ℕ)} {left : List ℕ} {a b : Reply} → IsReplyTo words (Some left) a → IsReplyTo words (Some left) b → a ≡ b
one_reply_told {left = left} = IsReplyTo-unique (λ c is check. ReadsOne-told left)

-- words that are no command, or one that reads nothing, have one right reply whatever the source tells
pub one_reply_unread : {words : List (List ℕ)} {input : Option (List ℕ)} {a b : Reply} → ((c : Command) → IsCommand words c → ReadsNothing c)
    → IsReplyTo words input a → IsReplyTo words input b → a ≡ b
one_reply_unread reads = IsReplyTo-unique (λ c is check. absurd (reads c is check))

-- of right answers whose replies are one the statuses are one, and the outputs
pub one_answer : {words : List (List ℕ)} {input : Option (List ℕ)} {s t : Status} {out other : List ℕ} (here : IsAnswer words input s out) (there : IsAnswer words input t other) → here.reply ≡ there.reply → (s ≡ t) × (out ≡ other)
one_answer here there same = (here.status_is ∙ ap reply_status same ∙ sym there.status_is, here.output_is ∙ ap reply_text same ∙ sym there.output_is)
