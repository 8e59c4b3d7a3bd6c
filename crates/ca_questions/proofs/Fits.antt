-- A question has a right finding, or nothing fits it, and not both.
use Rattle.std.proofs.Common.{inl, ◌≡◌, ℕ, ◌^◌, ◌<◌, ◌≤◌, subst, arith}
use Rattle.word_image.proofs.Common.{LocalRule, IsLeastDetermined}
use Rattle.ca_questions.specs.Questions.{Question}
use Rattle.ca_questions.specs.Findings.{Finding, Cause, IsFinding, IsCauseFor}

-- the least determined windows of a rule have one length
pub IsLeastDetermined-length : {r : LocalRule} {n c m d : ℕ} → IsLeastDetermined r n c → IsLeastDetermined r m d → n ≡ m
IsLeastDetermined-length {n = n} {c = c} {m = m} {d = d} first second =
    let below : ¬ (n < m) = λ less. second.least n c (inl less) first.determined in
    let above : ¬ (m < n) = λ less. first.least m d (inl less) second.determined in
    omega (arith, below, above)

-- a question with a finding has no cause
pub IsFinding-fit : {q : Question} {f : Finding} {u : Cause} → IsFinding q f → ¬ IsCauseFor q u
IsFinding-fit (IsFinding.Report r _ e each weights least) (IsCauseFor.Report _ named other) = other each
IsFinding-fit (IsFinding.Written v r _ c each written) (IsCauseFor.Written _ _ named other) = other each
IsFinding-fit (IsFinding.Shift r by fits rule) (IsCauseFor.Shift _ _ f unfits) = absurd cc
IsFinding-fit (IsFinding.Widen r width g fits widened rule) (IsCauseFor.Widen _ _ f unfits) = absurd cc
IsFinding-fit (IsFinding.Permute r letters g fits new offset rule) (IsCauseFor.Permute _ _ unfits) = unfits fits
IsFinding-fit (IsFinding.Compose r s g fits composed rule) (IsCauseFor.Compose _ _ f unfits) = absurd cc
IsFinding-fit (IsFinding.Least r mirror g few least rule) (IsCauseFor.Least _ many) = omega (arith, few, many)
IsFinding-fit (IsFinding.Lift r fits rule) (IsCauseFor.Lift _ f unfits) = absurd cc
IsFinding-fit (IsFinding.Unlift r fits rule) (IsCauseFor.Unlift _ f unfits) = absurd cc
IsFinding-fit (IsFinding.Inverse r n c g rule found) (IsCauseFor.Twins _ x y none twins) = none found.injective
IsFinding-fit (IsFinding.Inverse r n c g rule found) (IsCauseFor.Wide _ m d least wide) =
    let few : r.states ^ m ≤ 65536 = subst (λ l. r.states ^ l ≤ 65536) (IsLeastDetermined-length found.least least) found.few in
    omega (arith, few, wide)
IsFinding-fit (IsFinding.Preimage r t p short from) (IsCauseFor.Tail _ _ f unfits) = absurd cc
IsFinding-fit (IsFinding.Gap r t before after w short gap) (IsCauseFor.Tail _ _ f unfits) = absurd cc
IsFinding-fit (IsFinding.Same r s word same says) (IsCauseFor.States _ _ differ) = differ same
IsFinding-fit found unfit = elim unfit [ ]
