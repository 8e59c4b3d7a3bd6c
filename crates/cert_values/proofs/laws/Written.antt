-- What is written for a certificate within its limits is read back as it.
use Rattle.std.proofs.Common.{◌≡◌, ℕ, ◌-◌, ◌^◌, ◌<◌, ◌≤◌, List, [], ◌∷◌, codes, map, Option, Some, None, All, nat_cmp, Contains, refl, sym, ap, subst, ⊎_elim, ◌++◌, arith, ℤ, pos, negsuc, ◌≤ℤ◌, if◌then◌else◌}
use Rattle.word_image.proofs.Common.{AllZip, slice_cmp, nat_tests, ints, All-head, All-tail, Contains-append_left, none-some, LocalRule, IsRule, IsWord, node_count, pair_count, word_text, IsWord-le}
use Rattle.serde_json.specs.Data.{Data, string, Members, no_members, member}
use Rattle.serde_json.specs.Find.{get_member}
use Rattle.serde_json.specs.View.{items_of}
use Rattle.tail_config.proofs.Common.{TailConfig, IsShortTail, Spells-word_text}
use Rattle.tail_config.specs.TailTexts as tail
use Rattle.rule_text.specs.PrintedRules.{printed_rule}
use Rattle.rule_text.proofs.laws.Printed.{IsRuleText-printed_rule}
use Rattle.cert_values.specs.declared.cert_version.CertVersion.{CertVersion}
use Rattle.cert_values.specs.declared.cert_version.CertVersion.TheVariants.{One}
use Rattle.cert_values.specs.Versions.{number_of, names_weights}
use Rattle.cert_values.specs.Evidence.{SurjectiveEvidence, InjectiveEvidence, SideEvidence, SumEvidence}
use Rattle.cert_values.specs.Certificates.{Certificate, IsNear, IsClaim, IsSurjectiveShape, IsInjectiveShape, IsSideShape, IsSumShape, IsRankShape}
use Rattle.cert_values.specs.Parts.{IsShaped, IsWeightShape}
use Rattle.cert_values.specs.Evidence.SurjectiveEvidence.{Sets, Pairs, Orphan}
use Rattle.cert_values.specs.Evidence.InjectiveEvidence.{Window, Twins}
use Rattle.cert_values.specs.Evidence.SideEvidence.{Ahead, Split}
use Rattle.cert_values.specs.Evidence.SumEvidence.{Flux, Ring}
use Rattle.cert_values.specs.CertificateTexts.HasWeights.{Named, Own}
use Rattle.cert_values.specs.CertificateTexts.{IsJson, IsWhole, IsSigned, IsDigits, IsTailString, IsClaimValue, IsArrayOf, IsSurjectiveValue, IsInjectiveValue, IsSideValue, IsSumValue, IsRanksValue, HasWeights, HasNoOther, IsCertificateText, keys, list_of}
use Rattle.cert_values.specs.WrittenTexts.{array_from, whole_value, signed_value, word_value, tail_value, claim_value, surjective_value, injective_value, side_value, sum_value, ranks_value, members_before, certificate_members, certificate_value}
use Rattle.cert_values.proofs.laws.WeightMembers.{names_weights-other, weights_member, weights_members-cases}
use Rattle.cert_values.proofs.laws.Members.{found_at}

-- the names of an object
abbrev names_of : Members → List (List ℕ)
names_of no_members = []
names_of (member k d ms) = k ∷ names_of ms

-- a key that is found in an object is one of its names
Contains-found : (ms : Members) (k : List ℕ) (d : Data) → get_member k ms ≡ Some d → Contains (names_of ms) k
Contains-found no_members k d found = absurd (none-some d found)
Contains-found (member l e ms) k d found = found_at (slice_cmp nat_cmp k l) k l e d _ _ refl (Contains-found ms k d) found

-- the values of a list's elements, all within a limit, are read as the elements
AllZip-values : {A : Type 0} (R : Data → A → Type 0) (P : A → Type 0) (f : A → Data) → ((x : A) → P x → R (f x) x) → (xs : List A) → All P xs
    → AllZip R (list_of (items_of (map f xs))) xs
AllZip-values R P f each [] all = tt
AllZip-values R P f each (x ∷ xs) all = (each x (All-head P x xs all), AllZip-values R P f each xs (All-tail P x xs all))

-- an array of the values of a list's elements, all within a limit, is read as the list
IsArrayOf-values : {A : Type 0} (R : Data → A → Type 0) (P : A → Type 0) (f : A → Data) → ((x : A) → P x → R (f x) x) → (xs : List A) → All P xs
    → IsArrayOf R (array_from (map f xs)) xs
IsArrayOf-values R P f each xs all = (items_of (map f xs), refl, AllZip-values R P f each xs all)

-- a word's digits are read as the word
IsDigits-word : (k : ℕ) (w : List ℕ) → k ≤ 16 → IsWord k w → IsDigits (word_value w) w
IsDigits-word k w few word = (word_text w, refl, Spells-word_text w (IsWord-le k 16 w few word))

-- a configuration's text is read as the configuration
IsTailString-tail : {k : ℕ} {t : TailConfig} → k ≤ 16 → IsShortTail k t → IsTailString (tail_value t) t
IsTailString-tail {k} {t} few short =
    let spells = λ (w : List ℕ) (word : IsWord k w). Spells-word_text w (IsWord-le k 16 w few word) in (
      tail.printed t,
      refl,
      record {
        left = word_text t.left;
        middle = word_text t.middle;
        right = word_text t.right;
        parts = refl;
        left_spells = spells t.left (short.tail).left_word;
        middle_spells = spells t.middle (short.tail).middle_word;
        right_spells = spells t.right (short.tail).right_word;
      },
    )

-- a claim's value is read as the claim
IsClaimValue-claim : (o : Option ℕ) → IsClaim o → IsClaimValue (claim_value o) o
IsClaimValue-claim None claim = refl
IsClaimValue-claim (Some n) claim = refl

-- a number of a flux is read as the number
IsSigned-signed : (z : ℤ) → IsNear z → IsSigned (signed_value z) z
IsSigned-signed (pos n) limits =
    let most : pos n ≤ℤ pos 1000000 = limits.1 in
    let small : n ≤ 1000000 = omega (arith, ints) in
    grind (arith, nat_tests)
IsSigned-signed (negsuc n) limits = refl

-- evidence for surjective is read from its value
IsSurjectiveValue-written : {r : LocalRule} → IsRule r → (version : CertVersion) (e : SurjectiveEvidence) → IsSurjectiveShape version r e
    → IsSurjectiveValue (surjective_value e) e
IsSurjectiveValue-written {r} rule version (Sets sets) shape =
    (array_from (map whole_value sets), refl, IsArrayOf-values IsWhole (λ set. set ≤ 2 ^ node_count r - 1) whole_value (λ n h. refl) sets shape)
IsSurjectiveValue-written {r} rule version (Pairs pairs) shape =
    (array_from (map whole_value pairs), refl, IsArrayOf-values IsWhole (λ p. p < pair_count r) whole_value (λ n h. refl) pairs shape.1)
IsSurjectiveValue-written {r} rule version (Orphan w) shape = (word_value w, refl, IsDigits-word r.states w (rule.shape).most_states shape)

-- evidence for injective is read from its value
IsInjectiveValue-written : {r : LocalRule} → IsRule r → (e : InjectiveEvidence) → IsInjectiveShape r e → IsInjectiveValue (injective_value e) e
IsInjectiveValue-written rule (Window n c) shape = (whole_value c, whole_value n, refl, refl, refl)
IsInjectiveValue-written {r} rule (Twins x y) shape =
    let few = (rule.shape).most_states in
    (array_from (word_value x ∷ word_value y ∷ []), refl, (items_of (word_value x ∷ word_value y ∷ []), refl, (IsDigits-word r.states x few shape.0, (IsDigits-word r.states y few shape.1, tt))))

-- evidence for a side is read from its value
IsSideValue-written : {r : LocalRule} → IsRule r → (e : SideEvidence) → IsSideShape r e → IsSideValue (side_value e) e
IsSideValue-written rule (Ahead n) shape = (whole_value n, refl, refl)
IsSideValue-written rule (Split x y) shape =
    let few = (rule.shape).most_states in
    (array_from (tail_value x ∷ tail_value y ∷ []), refl, (items_of (tail_value x ∷ tail_value y ∷ []), refl, (IsTailString-tail few shape.0, (IsTailString-tail few shape.1, tt))))

-- evidence for conserving is read from its value
IsSumValue-written : {r : LocalRule} → IsRule r → (e : SumEvidence) → IsSumShape r e → IsSumValue (sum_value e) e
IsSumValue-written rule (Flux phi) shape = (array_from (map signed_value phi), refl, IsArrayOf-values IsSigned IsNear signed_value IsSigned-signed phi shape.1)
IsSumValue-written {r} rule (Ring p) shape = (word_value p, refl, IsDigits-word r.states p (rule.shape).most_states shape)

-- the ranks are read from their value
IsRanksValue-written : {r : LocalRule} {forward backward : List (Option ℕ)} → IsRankShape r forward → IsRankShape r backward
    → IsRanksValue (ranks_value forward backward) forward backward
IsRanksValue-written {r} {forward} {backward} ahead back =
    let claims = λ (row : List (Option ℕ)) (shape : IsRankShape r row). IsArrayOf-values IsClaimValue IsClaim claim_value IsClaimValue-claim row shape.claims in
    (array_from (map claim_value backward), array_from (map claim_value forward), refl, claims backward back, claims forward ahead)

-- the number of a version is read from its value
IsWhole-version : (v : CertVersion) → IsWhole (whole_value (number_of v)) (number_of v)
IsWhole-version One = refl
IsWhole-version _ = refl

-- what is written of the weights says them
HasWeights-written : (c : Certificate) → IsWeightShape c.version c.rule c.weights → HasWeights c.version c.rule (certificate_members c) c.weights
HasWeights-written c shape =
    ⊎_elim
    (λ (own, none). Own (λ names. ap (get_member (codes "weights")) none) own)
    (λ (other, named). Named (names_weights-other shape other)
    (array_from (map whole_value c.weights), ap (get_member (codes "weights")) named, IsArrayOf-values IsWhole (λ w. w ≤ 255) whole_value (λ n h. refl) c.weights (shape.each).small)
    shape.each)
    (weights_members-cases c.rule c.weights)

-- what is written has no key besides those of its version
HasNoOther-written : (c : Certificate) → IsWeightShape c.version c.rule c.weights → HasNoOther c.version (certificate_members c)
HasNoOther-written c shape =
    ⊎_elim
    (λ (own, none). subst (λ ms. HasNoOther c.version (members_before ms c)) (sym none)
    (λ k d found. Contains-append_left keys (if names_weights c.version then codes "weights" ∷ [] else []) k (Contains-found (members_before no_members c) k d found)))
    (λ (other, named).
    let all : (k : List ℕ) (d : Data) → get_member k (members_before (weights_member c.weights) c) ≡ Some d → Contains (keys ++ codes "weights" ∷ []) k =
    Contains-found (members_before (weights_member c.weights) c) in
    subst (λ ms. HasNoOther c.version (members_before ms c)) (sym named)
    (λ k d found. subst (λ b. Contains (keys ++ (if b then codes "weights" ∷ [] else [])) k) (sym (names_weights-other shape other)) (all k d found)))
    (weights_members-cases c.rule c.weights)

-- bytes that read as the value of a certificate within its limits are a text of it
pub IsCertificateText-written : {bytes : List ℕ} {c : Certificate} → IsJson bytes (certificate_value c) → IsShaped c → IsCertificateText bytes c
IsCertificateText-written {bytes} {c} json shaped =
    let rule = shaped.rule in
    record {
      members = certificate_members c;
      text = printed_rule c.rule;
      json = json;
      version = (whole_value (number_of c.version), refl, IsWhole-version c.version);
      rule_text = (string (printed_rule c.rule), refl, refl);
      rule = IsRuleText-printed_rule c.rule rule;
      parts = record {
        surjective = ((surjective_value c.surjective, refl, IsSurjectiveValue-written rule c.version c.surjective shaped.surjective), shaped.surjective);
        injective = ((injective_value c.injective, refl, IsInjectiveValue-written rule c.injective shaped.injective), shaped.injective);
        right = ((side_value c.right, refl, IsSideValue-written rule c.right shaped.right), shaped.right);
        left = ((side_value c.left, refl, IsSideValue-written rule c.left shaped.left), shaped.left);
        conserving = ((sum_value c.conserving, refl, IsSumValue-written rule c.conserving shaped.conserving), shaped.conserving);
        weights = HasWeights-written c shaped.weights;
        ranks = ((ranks_value c.forward c.backward, refl, IsRanksValue-written shaped.forward shaped.backward), shaped.forward, shaped.backward);
        no_other = HasNoOther-written c shaped.weights;
      };
    }
