-- What is handed back of the rules of a shape, in the words of the code.
use Rattle.std.proofs.Common.{◌≡◌, ◌≢◌, ℕ, ◌^◌, ◌<◌, ◌≤◌, Bool, List, length, Some, None, pos, sym, ◌∙◌}
use Rattle.word_image.proofs.Common.{LocalRule, IsRule, rule_fault, shape_fault}
use Rattle.word_image.specs.declared.local_rule.RuleFault.{RuleFault}
use Rattle.rule_lists.specs.Ranks.{IsOrder}
use Rattle.rule_lists.specs.Orders.{IsOrderFor}
use Rattle.rule_lists.specs.Listed.{IsFirst, NoneIs}
use Rattle.rule_lists.specs.declared.properties.Property.{Property}
use Rattle.rule_text.specs.RuleTexts.{rule_of_table}
use Rattle.c_structs.specs.Verdicts.{fault_code}
use Rattle.c_structs.specs.NextRules.{property_number, fixed_letters, IsToCome, IsQuestion, IsNext, IsWindowOrder}

-- the number of a fault of the shape
pub IsWindowOrder-fault : {number states width code : ℕ} {before : List ℕ} {f : RuleFault} → Some f ≡ shape_fault states width (pos 0)
    → code ≡ fault_code (Some f)
    → IsWindowOrder number states width before code before
IsWindowOrder-fault {f = f} fault coded = rw coded (IsWindowOrder.NoShape f (sym fault))

-- the number of the fault that there isn't one byte for each window
pub IsWindowOrder-length : (property : Property) {number states width i j size code : ℕ} {before : List ℕ} → None ≡ shape_fault states width (pos 0)
    → number ≡ property_number property
    → size ≡ i ^ j → i ≡ states → j ≡ width → length before ≢ size → code ≡ 5 → IsWindowOrder number states width before code before
IsWindowOrder-length property shape numbered windows same_states same_width other coded =
    rw coded (IsWindowOrder.NoLength property (sym shape) numbered (λ same. other (same ∙ sym (rw (same_states, same_width) at windows))))

-- the order of the windows of a rule of the shape
pub IsWindowOrder-order : (property : Property) {number states width i j : ℕ} {before order : List ℕ} → None ≡ shape_fault states width (pos 0)
    → number ≡ property_number property
    → i ≡ states → j ≡ width → IsOrderFor property i j order → IsWindowOrder number states width before 0 order
IsWindowOrder-order property {order = order} shape numbered same_states same_width ordered =
    IsWindowOrder.Order property order (sym shape) numbered (rw (same_states, same_width) at ordered)

-- the rule of a table has as many windows as its states to the power of its width
pub size-rule_of_table : (states width : ℕ) (table : List ℕ) {size : ℕ} {r : LocalRule} → size ≡ r.states ^ r.width
    → r ≡ rule_of_table states width table → size ≡ states ^ width
size-rule_of_table states width table windows same = rw same at windows

-- the code of a fault of the table is handed back, and the table as it was
pub IsNext-fault : {number states width code : ℕ} {order begin before : List ℕ} {after : Bool} {f : RuleFault}
    → Some f ≡ rule_fault states width (pos 0) before → code ≡ fault_code (Some f)
    → IsNext number states width order begin after before code before
IsNext-fault {f = f} fault coded = rw coded (IsNext.NoTable f (sym fault))

-- where the windows are in no order, code 11 is handed back
pub IsNext-no_order : (property : Property) {number states width size : ℕ} {order begin before : List ℕ} {after : Bool}
    → IsRule (rule_of_table states width before) → number ≡ property_number property
    → size ≡ states ^ width → ¬ IsOrder size order → IsNext number states width order begin after before 11 before
IsNext-no_order property rule numbered windows none = IsNext.NoOrder property rule numbered (λ ordered. none (rw windows ordered))

-- where more letters are fixed than there are windows, code 12 is handed back
pub IsNext-no_beginning : (property : Property) {number states width size : ℕ} {order begin before : List ℕ} {after : Bool}
    → IsRule (rule_of_table states width before) → number ≡ property_number property
    → size ≡ states ^ width → IsOrder size order → size < length begin → IsNext number states width order begin after before 12 before
IsNext-no_beginning property rule numbered windows ordered more = IsNext.NoBeginning property rule numbered (rw windows at ordered) (rw windows at more)

-- a question, by the number of windows
pub IsQuestion-size : {number states width size : ℕ} {order begin before : List ℕ} {property : Property} → IsRule (rule_of_table states width before)
    → number ≡ property_number property
    → size ≡ states ^ width → IsOrder size order → length begin ≤ size → IsQuestion property number states width order begin before
IsQuestion-size rule numbered windows ordered within = record { rule = rule; numbered = numbered; ordered = rw windows at ordered; within = rw windows at within }

-- no rule is to come behind that of the table
pub IsNext-none : {number states width : ℕ} {order begin before letters : List ℕ} {after : Bool} {property : Property} {last : LocalRule}
    → IsQuestion property number states width order begin before
    → last ≡ rule_of_table states width before → letters ≡ fixed_letters begin
    → NoneIs property last.states last.width letters (IsToCome after last.states order last.table)
    → IsNext number states width order begin after before 13 before
IsNext-none {property = property} question same fixed none = IsNext.NoRule property question (rw (same, fixed) at none)

-- the table of the first rule behind that of the table before
pub IsNext-rule : {number states width : ℕ} {order begin before letters table : List ℕ} {after : Bool} {property : Property} {last r : LocalRule}
    → IsQuestion property number states width order begin before
    → last ≡ rule_of_table states width before → letters ≡ fixed_letters begin
    → IsFirst property last.states last.width letters order (IsToCome after last.states order last.table) r → table ≡ r.table
    → IsNext number states width order begin after before 0 table
IsNext-rule {property = property} {r = r} question same fixed first written = rw written (IsNext.Rule property r question (rw (same, fixed) at first))
