-- A text has one Tail or one first fault.
use Rattle.std.proofs.Common.{◌≡◌, ◌⊎◌, ℕ, List, Result, Ok, Err, sym, ap, ◌∙◌, inl, inr, alloc_error, IfOk, IfErr}
use Rattle.word_image.proofs.Common.{none-some, same_Some, IsFormFault-unique}
use Rattle.tail_config.specs.Tails.{TailConfig}
use Rattle.tail_config.specs.TailValues.{TailOver}
use Rattle.tail_config.specs.TailFaults.{tail_fault, IsTailText}
use Rattle.tail_config.specs.TailTextFaults.{IsTailTextFault, NoForm, Refused}
use Rattle.tail_config.specs.declared.texts.TailTextFault.{TailTextFault}
use Rattle.tail_config.specs.declared.texts.TailTextFault.TheVariants as fault
use Rattle.tail_config.proofs.laws.TailFaults.{tail_fault-none}
use Rattle.tail_config.proofs.laws.TailTexts.{HasParts-unique}

-- a text with a Tail has no fault
pub IsTailText-no_fault : {k : ℕ} {text : List ℕ} {t : TailConfig} {f : TailTextFault} → IsTailText k text t → IsTailTextFault k text f → ⊥
IsTailText-no_fault {t = t} good (NoForm place form) = form.outside (t, good.parts)
IsTailText-no_fault {k} {text} {t} good (Refused u f parts some) =
    none-some f (sym ((tail_fault-none k t).1 good.accepted) ∙ ap (tail_fault k) (HasParts-unique good.parts parts) ∙ some)

-- a text has one first fault
pub one_fault : {k : ℕ} {text : List ℕ} {f g : TailTextFault} → IsTailTextFault k text f → IsTailTextFault k text g → f ≡ g
one_fault (NoForm p a) (NoForm q b) = ap fault.Form (IsFormFault-unique a b)
one_fault (NoForm p a) (Refused u g parts some) = absurd (a.outside (u, parts))
one_fault (Refused t f parts some) (NoForm q b) = absurd (b.outside (t, parts))
one_fault {k} (Refused t f p a) (Refused u g q b) = ap fault.Tail (same_Some f g (sym a ∙ ap (tail_fault k) (HasParts-unique p q) ∙ b))

-- what is made of the parts of a text is its Tail, unless memory is wanting
pub every_tail : {k : ℕ} {text : List ℕ} {t u : TailConfig} → IsTailText k text t → IsTailText k text u → (answer : Result TailOver TailTextFault)
    → IfOk answer (λ r. r ≡ record { states = k; config = t }) → IfErr answer (λ f. f ≡ fault.Memory alloc_error)
    → (answer ≡ Ok (record { states = k; config = u })) ⊎ (answer ≡ Err (fault.Memory alloc_error))
every_tail {k} good other (Ok r) made memory = inl (ap Ok (made ∙ ap (λ (c : TailConfig). record { states = k; config = c }) (HasParts-unique good.parts other.parts)))
every_tail good other (Err f) made memory = inr (ap Err memory)
