-- Where a JSON value is no evidence.
use Rattle.std.proofs.Common.{◌≡◌, ◌≢◌, ◌↔◌, sym, ap, ◌∙◌, subst, List, [], ◌∷◌, length, ℕ, ◌+◌, ◌<◌, ◌≤◌, ℤ, Option, arith, codes, All, slice_index}
use Rattle.word_image.proofs.Common.{AllZip, All-nil, All-cons, All-head, All-tail, All-weaker, LocalRule, node_count, full_set, pair_count}
use Rattle.serde_json.specs.Data.{Data}
use Rattle.cert_values.specs.declared.cert_version.CertVersion.{CertVersion}
use Rattle.cert_values.specs.Evidence.{SurjectiveEvidence, InjectiveEvidence, SumEvidence}
use Rattle.cert_values.specs.Certificates.{IsClaim, IsNear}
use Rattle.cert_values.specs.Evidence.SurjectiveEvidence.{Sets, Pairs, Orphan}
use Rattle.cert_values.specs.Evidence.InjectiveEvidence.{Window, Twins}
use Rattle.cert_values.specs.Evidence.SumEvidence.{Flux, Ring}
use Rattle.cert_values.specs.CertificateTexts.{IsWhole, IsSigned, IsDigits, IsClaimValue, IsArrayOf, HasOnly, list_of}
use Rattle.cert_format.specs.Readings.{IsWordValue, IsWordsValue, IsShort, IsRankValue, IsFlow, AreNumbers, IsFluxFor, IsByte, IsWeightsFor, IsRowFor, IsSurjectiveFor, IsInjectiveFor, IsSumFor}
use Rattle.cert_values.proofs.laws.Uniqueness.{HasOnly-unique, not_both, IsArrayOf-unique, IsWhole-unique}

-- the values of one key are one
at_key : (d : Data) {v u : Data} {k : List ℕ} (P : Data → Type 0) → HasOnly k v d → HasOnly k u d → P u → P v
at_key d P p q h = subst P (sym (HasOnly-unique d p q).1) h

-- no evidence for surjective: the sets are none, the pairs are, or the orphan is

pub no_sets : (version : CertVersion) (r : LocalRule) (d : Data) {v : Data} (most : ℕ) → most ≡ full_set r → HasOnly (codes "sets") v d
    → ((sets : List ℕ) → ¬ AreNumbers most v sets)
    → (e : SurjectiveEvidence) → ¬ IsSurjectiveFor version r d e
no_sets version r d most full only none (Sets sets) h =
    none sets (at_key d (λ v. IsArrayOf IsWhole v sets) only h.0.1 h.0.2, subst (λ m. All (λ n. n ≤ m) sets) (sym full) h.1)
no_sets version r d most full only none _ h = absurd (omega (arith, ap length (HasOnly-unique d only h.0.1).0))

pub no_pairs : (version : CertVersion) (r : LocalRule) (d : Data) {v : Data} (last : ℕ) → last + 1 ≡ pair_count r → HasOnly (codes "pairs") v d
    → ((pairs : List ℕ) → ¬ AreNumbers last v pairs)
    → (e : SurjectiveEvidence) → ¬ IsSurjectiveFor version r d e
no_pairs version r d last count only none (Pairs pairs) h =
    none pairs (at_key d (λ v. IsArrayOf IsWhole v pairs) only h.0.1 h.0.2, All-weaker (λ p. p < pair_count r) (λ n. n ≤ last) (λ n less. omega (arith, less, count)) pairs h.1.1)
no_pairs version r d last count only none _ h = absurd (omega (arith, ap length (HasOnly-unique d only h.0.1).0))

pub no_orphan : (version : CertVersion) (r : LocalRule) (d : Data) {v : Data} → HasOnly (codes "orphan") v d
    → ((w : List ℕ) → ¬ IsWordValue r.states v w) → (e : SurjectiveEvidence) → ¬ IsSurjectiveFor version r d e
no_orphan version r d only none (Orphan w) h = none w (at_key d (λ v. IsDigits v w) only h.0.1 h.0.2, h.1)
no_orphan version r d only none _ h = absurd (omega (arith, ap length (HasOnly-unique d only h.0.1).0))

-- no evidence for injective: the twins are none
pub no_twins_value : (r : LocalRule) (d : Data) {v : Data} → HasOnly (codes "twins") v d → ((x y : List ℕ) → ¬ IsWordsValue r.states v x y)
    → (e : InjectiveEvidence) → ¬ IsInjectiveFor r d e
no_twins_value r d only none (Window n c) h = not_both d only h.0.2
no_twins_value r d only none (Twins x y) h = none x y (at_key d (λ v. IsArrayOf IsDigits v (x ∷ y ∷ [])) only h.0.1 h.0.2, h.1.0, h.1.1)

-- no evidence for conserving: the ring is none
pub no_ring : (r : LocalRule) (d : Data) {v : Data} → HasOnly (codes "ring") v d → ((w : List ℕ) → ¬ IsWordValue r.states v w) → (e : SumEvidence)
    → ¬ IsSumFor r d e
no_ring r d only none (Flux phi) h = absurd (omega (arith, ap (λ k. slice_index k 0) (HasOnly-unique d only h.0.1).0))
no_ring r d only none (Ring p) h = none p (at_key d (λ v. IsDigits v p) only h.0.1 h.0.2, h.1)

-- Arrays whose elements have a limit

zip_both : {A : Type 0} (R : Data → A → Type 0) (P : A → Type 0) (ds : List Data) (xs : List A)
    → AllZip (λ d x. R d x × P x) ds xs ↔ (AllZip R ds xs × All P xs)
zip_both R P [] [] = ((λ h. (tt, All-nil P)), (λ both. tt))
zip_both R P [] (x ∷ xs) = ((λ h. absurd h), (λ both. absurd both.0))
zip_both R P (d ∷ ds) [] = ((λ h. absurd h), (λ both. absurd both.0))
zip_both R P (d ∷ ds) (x ∷ xs) =
    let rest = zip_both R P ds xs in (
      (λ h. ((h.0.0, (rest.0 h.1).0), All-cons P x xs h.0.1 (rest.0 h.1).1)),
      (λ both. ((both.0.0, All-head P x xs both.1), rest.1 (both.0.1, All-tail P x xs both.1))),
    )

-- an array within the limit
pub IsArrayOf-within : {A : Type 0} (R : Data → A → Type 0) (P : A → Type 0) (d : Data) (xs : List A) → IsArrayOf R d xs → All P xs
    → IsArrayOf (λ d x. R d x × P x) d xs
IsArrayOf-within R P d xs h all = (h.0, h.1, (zip_both R P (list_of h.0) xs).1 (h.2, all))

-- an array of elements within a limit is an array, and its elements are within the limit
pub within-IsArrayOf : {A : Type 0} (R : Data → A → Type 0) (P : A → Type 0) (d : Data) (xs : List A) → IsArrayOf (λ d x. R d x × P x) d xs
    → IsArrayOf R d xs × All P xs
within-IsArrayOf R P d xs h = let both = (zip_both R P (list_of h.0) xs).0 h.2 in ((h.0, h.1, both.0), both.1)

-- Arrays of numbers whose limits the machine's numbers keep

pub no_numbers_array : (d : Data) (most : ℕ) → most ≤ 65535 → ((xs : List ℕ) → ¬ IsArrayOf IsShort d xs) → (ns : List ℕ) → ¬ AreNumbers most d ns
no_numbers_array d most short none ns h =
    none ns (IsArrayOf-within IsWhole (λ n. n ≤ 65535) d ns h.0 (All-weaker (λ n. n ≤ most) (λ n. n ≤ 65535) (λ n le. omega (arith, le, short)) ns h.1))

pub no_numbers_above : (d : Data) (most : ℕ) (xs : List ℕ) → IsArrayOf IsShort d xs → ¬ All (λ n. n ≤ most) xs → (ns : List ℕ)
    → ¬ AreNumbers most d ns
no_numbers_above d most xs array above ns h =
    let same : xs ≡ ns = IsArrayOf-unique IsWhole IsWhole-unique d xs ns (within-IsArrayOf IsWhole (λ n. n ≤ 65535) d xs array).0 h.0 in
    above (subst (All (λ n. n ≤ most)) (sym same) h.1)

-- a flux is an array with a flow for each node
pub IsFluxFor-array : (r : LocalRule) (d : Data) (xs : List ℤ) → IsArrayOf IsFlow d xs → length xs ≡ node_count r → IsFluxFor r d xs
IsFluxFor-array r d xs array long = let parts = within-IsArrayOf IsSigned IsNear d xs array in (parts.0, long, parts.1)

pub no_flux : (r : LocalRule) (d : Data) → ((xs : List ℤ) → length xs ≡ node_count r → ¬ IsArrayOf IsFlow d xs) → (phi : List ℤ) → ¬ IsFluxFor r d phi
no_flux r d none phi h = none phi h.1 (IsArrayOf-within IsSigned IsNear d phi h.0 h.2)

-- a row is an array with a claim for each pair
pub IsRowFor-array : (r : LocalRule) (d : Data) (xs : List (Option ℕ)) → IsArrayOf IsRankValue d xs → length xs ≡ pair_count r → IsRowFor r d xs
IsRowFor-array r d xs array long = let parts = within-IsArrayOf IsClaimValue IsClaim d xs array in (parts.0, record { each_pair = long; claims = parts.1 })

pub no_row : (r : LocalRule) (d : Data) → ((xs : List (Option ℕ)) → length xs ≡ pair_count r → ¬ IsArrayOf IsRankValue d xs) → (row : List (Option ℕ))
    → ¬ IsRowFor r d row
no_row r d none row h = none row h.1.each_pair (IsArrayOf-within IsClaimValue IsClaim d row h.0 h.1.claims)

-- weights are an array with a byte for each letter
pub IsWeightsFor-array : (r : LocalRule) (d : Data) (xs : List ℕ) → IsArrayOf IsByte d xs → length xs ≡ r.states → IsWeightsFor r d xs
IsWeightsFor-array r d xs array long = let parts = within-IsArrayOf IsWhole (λ n. n ≤ 255) d xs array in (parts.0, record { each_letter = long; small = parts.1 })

pub no_weights_array : (r : LocalRule) (d : Data) → ((xs : List ℕ) → ¬ IsArrayOf IsByte d xs) → (weights : List ℕ) → ¬ IsWeightsFor r d weights
no_weights_array r d none weights h = none weights (IsArrayOf-within IsWhole (λ n. n ≤ 255) d weights h.0 h.1.small)

pub no_weights_long : (r : LocalRule) (d : Data) (xs : List ℕ) → IsArrayOf IsByte d xs → length xs ≢ r.states → (weights : List ℕ)
    → ¬ IsWeightsFor r d weights
no_weights_long r d xs array long weights h =
    let same : xs ≡ weights = IsArrayOf-unique IsWhole IsWhole-unique d xs weights (within-IsArrayOf IsWhole (λ n. n ≤ 255) d xs array).0 h.0 in
    long (ap length same ∙ h.1.each_letter)
