-- What comes of a call for the degree of a rule, in the words of the code.
use Rattle.std.proofs.Common.{◌≡◌, ℕ, ◌≤◌, List, [], ◌++◌, length, drop, Some, sym, ap, arith}
use Rattle.word_image.proofs.Common.{LocalRule, rule_fault}
use Rattle.word_image.specs.declared.local_rule.RuleFault.{RuleFault}
use Rattle.c_structs.specs.declared.rule_degrees.RuleDegree.{RuleDegree}
use Rattle.c_structs.specs.Verdicts.{fault_code}
use Rattle.c_structs.specs.Degrees.{IsDegreeFound, IsDegreeCall, no_degree}

-- there is no degree where there is no rule
pub IsDegreeFound-fault : (r : LocalRule) {v : RuleDegree} {letters : List ℕ} {code : ℕ} (f : RuleFault) → Some f ≡ rule_fault r.states r.width r.offset r.table
    → code ≡ fault_code (Some f) → v ≡ no_degree code → letters ≡ [] → IsDegreeFound r v letters
IsDegreeFound-fault r f fault coded same empty = rw (same, empty, coded) (IsDegreeFound.NoRule f (sym fault))

-- the numbers are handed back, and all letters
pub IsDegreeCall-whole : {r : LocalRule} {was v : RuleDegree} {before after letters bytes : List ℕ} {len : ℕ} → IsDegreeFound r v letters → len ≡ length letters
    → bytes ≡ letters → length bytes ≤ length before → after ≡ bytes ++ drop (length bytes) before → IsDegreeCall r was before 0 len v after
IsDegreeCall-whole {v = v} {letters = letters} made long same fits put = rw (long, put, same) (IsDegreeCall.Whole v letters made (rw same at fits))

-- the length of letters that don't fit
pub IsDegreeCall-short : {r : LocalRule} {was v : RuleDegree} {before after letters bytes : List ℕ} {len : ℕ} → IsDegreeFound r v letters → len ≡ length letters
    → bytes ≡ letters → ¬ (length bytes ≤ length before) → after ≡ before → IsDegreeCall r was before 10 len was after
IsDegreeCall-short {v = v} {letters = letters} made long same over kept = rw (long, kept) (IsDegreeCall.Short v letters made (omega (arith, over, ap length same)))
