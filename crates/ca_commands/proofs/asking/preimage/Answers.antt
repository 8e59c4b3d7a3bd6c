use Rattle.std.proofs.Common.{ℕ, List, [], ◌∷◌, refl, sym, ◌∙◌, subst}
use Rattle.word_image.proofs.Common.{LocalRule}
use Rattle.tail_config.specs.TailFaults.{HasForm}
use Rattle.tail_config.specs.declared.texts.TailTextFault.{TailTextFault}
use Rattle.tail_config.specs.declared.texts.TailTextFault.TheVariants as text
use Rattle.tail_config.specs.declared.faults.TailFault.{TailFault}
use Rattle.tail_config.specs.TailTextFaults.{IsTailTextFault}
use Rattle.tail_config.specs.TailTextFaults.IsTailTextFault.{NoForm, Refused}
use Rattle.ca_commands.specs.declared.names.Name.TheVariants as name
use Rattle.ca_questions.proofs.Common.{Question, IsCauseFor, Cause}
use Rattle.ca_commands.specs.Asked.{Asks}
use Rattle.ca_commands.specs.Asking.{Ask, IsCall}
use Rattle.ca_commands.proofs.laws.Asking.{asks, failed, first_refused, read_one}
use Rattle.ca_commands.proofs.asking.preimage.Goals as goal

-- a fault of the parts is why nothing fits
unfits : {words : List (List ℕ)} {r : LocalRule} {t : List ℕ} {f : TailFault} → IsCall words name.Preimage (r ∷ []) (t ∷ [])
    → IsTailTextFault r.states t (text.Tail f)
    → (q : Question) × Ask words q × IsCauseFor q (Cause.Tail f)
unfits {r = r} call (Refused t f parts refused) = (Question.Preimage r t, asks refl call (Asks.Preimage r _ t parts), IsCauseFor.Tail r t f refused)

-- a text of the form has no fault of it
no_form : {k : ℕ} {words : List ℕ} {place : ℕ} → HasForm words → IsTailTextFault k words (text.Form place) → ⊥
no_form form (NoForm place fault) = fault.outside form

-- no fault of a text is lack of memory
no_memory : {k : ℕ} {words : List ℕ} {e : _} → IsTailTextFault k words (text.Memory e) → ⊥
no_memory h = elim h [ ]

pub returns-in_err-rule : goal.returns-in_err-rule
returns-in_err-rule g c = failed _ _ _ c.from_residual.result (first_refused name.Preimage [] _ c.in-Some.ensures refl (c.has_form.ensures.0 c.if-not-has_form.false) c.in_err-rule.ensures) c.from_residual.ensures.1

pub returns-in-Ok : goal.returns-in-Ok
returns-in-Ok g c =
    let call = read_one name.Preimage c.in-Some.ensures refl (c.has_form.ensures.0 c.if-not-has_form.false) c.in_ok-rule.ensures in
    (asks refl call (Asks.Preimage _ c.in-Some.tail.now _ c.in-Ok.ensures.1.parts), sym (c.in-Ok.ensures.0 ∙ c.k.ensures.states))

pub returns-in-Err-Tail : goal.returns-in-Err-Tail
returns-in-Err-Tail g c =
    let fault = subst (λ (f : TailTextFault). IsTailTextFault c.in_ok-rule.rule.states c.in-Some.tail.now f) c.in-Err-Tail.field-0-is (rw c.k.ensures.states at c.in-Err-Tail.ensures) in
    rw c.in-Err-Tail.fault-is (unfits (read_one name.Preimage c.in-Some.ensures refl (c.has_form.ensures.0 c.if-not-has_form.false) c.in_ok-rule.ensures) fault)

pub unreachable-requires : goal.unreachable-requires
unreachable-requires g c =
    no_form (c.has_form.ensures.0 c.if-not-has_form.false) (subst (IsTailTextFault c.k.result c.in-Some.tail.now) c.in-Err-Form.field-0-is c.in-Err-Form.ensures)

pub unreachable-requires-in-Err-Memory : goal.unreachable-requires-in-Err-Memory
unreachable-requires-in-Err-Memory g c = no_memory (subst (IsTailTextFault c.k.result c.in-Some.tail.now) c.in-Err-Memory.field-0-is c.in-Err-Memory.ensures)
