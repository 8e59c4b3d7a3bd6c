-- What a function hands on.
use Rattle.std.proofs.Common.{sym, subst, ◌≡◌, Result, Ok, Err, IfErr, IsErrAnd}

-- an error that is handed on is the one that came
pub handed_on : {T E : Type 0} {e : E} (P : E → Type 0) (r : Result T E) → IsErrAnd r (λ f. f ≡ e) → P e → IfErr r P
handed_on P (Ok x) is h = absurd is
handed_on P (Err f) is h = subst P (sym is) h
