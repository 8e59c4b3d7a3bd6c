-- What is appended to an output.
use Rattle.std.proofs.Common.{◌≡◌, ℕ, ◌+◌, List, ◌++◌, ◌≤◌, length, length-append, append_assoc, ap, refl, ◌∙◌, arith, Result, Ok, Err, IsErr}
use Rattle.word_image.proofs.Common.{false≢true, on_ok_weaker}
use Rattle.ca_text.specs.Rooms.{AppendsAtMost, IsAppended, most_text}

-- a text is appended to what another text was appended to
pub IsAppended-then : {A E : Type 0} (result : Result A E) (old new first second : List ℕ) {between : List ℕ}
    → between ≡ old ++ first → IsAppended result between new second → IsAppended result old new (first ++ second)
IsAppended-then result old new first second is (appended, fits) = (
  on_ok_weaker result (λ e. e ∙ ap (λ t. t ++ second) is ∙ append_assoc old first second) appended,
  λ room. fits (omega (arith, ap length is, length-append old first, length-append first second, room)),
)

-- a text of at most so many bytes is appended
pub AppendsAtMost-appended : {A E : Type 0} (count : ℕ) (result : Result A E) (old new text : List ℕ) → IsAppended result old new text
    → length text ≤ count → AppendsAtMost count result old new
AppendsAtMost-appended count (Ok a) old new text (is, fits) few room = (refl, omega (arith, ap length is, length-append old text, few))
AppendsAtMost-appended count (Err e) old new text (is, fits) few room = absurd (false≢true (fits (omega (arith, few, room))))

-- a call may fail if the text doesn't fit the room
pub IsAppended-failed : {A E : Type 0} (result : Result A E) (old new text : List ℕ) → IsErr result → ¬ (length old + length text ≤ most_text)
    → IsAppended result old new text
IsAppended-failed (Ok a) old new text failed full = absurd (false≢true failed)
IsAppended-failed (Err e) old new text failed full = (tt, λ room. absurd (full room))

-- a text may fail if its second part doesn't fit the room behind its first part
pub IsAppended-behind : {A E : Type 0} (result : Result A E) (old new first second : List ℕ) {between : List ℕ}
    → IsErr result → between ≡ old ++ first → ¬ (length between + length second ≤ most_text) → IsAppended result old new (first ++ second)
IsAppended-behind result old new first second failed is full =
    IsAppended-failed result old new (first ++ second) failed (λ room. full (omega (arith, ap length is, length-append old first, length-append first second, room)))

-- a longer text may fail if the text fails
pub IsAppended-longer : {A E : Type 0} (result : Result A E) (old new text rest : List ℕ) → IsErr result → IsAppended result old new text
    → IsAppended result old new (text ++ rest)
IsAppended-longer (Ok a) old new text rest failed is = absurd (false≢true failed)
IsAppended-longer (Err e) old new text rest failed (is, fits) = (tt, λ room. fits (omega (arith, room, length-append text rest)))

-- what is appended in two steps is appended as one
pub appended_twice : (before first second : List ℕ) {between after : List ℕ} → between ≡ before ++ first → after ≡ between ++ second
    → after ≡ before ++ (first ++ second)
appended_twice before first second one two = two ∙ ap (λ o. o ++ second) one ∙ append_assoc before first second
