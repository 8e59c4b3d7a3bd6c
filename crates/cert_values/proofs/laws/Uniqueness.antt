-- A JSON value says one thing, and bytes are the text of one certificate.
use Rattle.std.proofs.Common.{◌≡◌, refl, sym, ap, ap₂, ◌∙◌, subst, subst₂, List, [], ◌∷◌, length, map, ℕ, zero, suc, ℤ, Option, Some, None, slice_index, arith, codes}
use Rattle.std.proofs.lemmas.Slice.Zip.{AllZip-long}
use Rattle.word_image.proofs.Common.{AllZip, none-some, same_Some, LocalRule, hex_value}
use Rattle.serde_json.specs.Data.{Data, null, Members, no_members, member}
use Rattle.serde_json.specs.Find.{get_member, as_object, as_array, as_str}
use Rattle.serde_json.specs.Events.{members_len}
use Rattle.rule_text.specs.RuleTexts.{IsRuleText}
use Rattle.rule_text.proofs.laws.Texts.{IsRuleText-unique}
use Rattle.tail_config.proofs.Common.{TailConfig, HasParts, HasParts-unique}
use Rattle.cert_values.specs.declared.cert_version.CertVersion.{CertVersion}
use Rattle.cert_values.specs.declared.cert_version.CertVersion.TheVariants.{One, Two, Three}
use Rattle.cert_values.specs.Versions.{number_of}
use Rattle.cert_values.specs.Evidence.{SurjectiveEvidence, InjectiveEvidence, SideEvidence, SumEvidence}
use Rattle.cert_values.specs.Certificates.{Certificate}
use Rattle.cert_values.specs.Evidence.SurjectiveEvidence.{Sets, Pairs, Orphan}
use Rattle.cert_values.specs.Evidence.InjectiveEvidence.{Window, Twins}
use Rattle.cert_values.specs.Evidence.SideEvidence.{Ahead, Split}
use Rattle.cert_values.specs.Evidence.SumEvidence.{Flux, Ring}
use Rattle.cert_values.specs.CertificateTexts.{IsCertificateText, IsObject, IsWhole, IsSigned, IsDigits, IsTailString, IsClaimValue, IsArrayOf, IsSurjectiveValue, IsInjectiveValue, IsSideValue, IsSumValue, IsRanksValue, HasOnly, HasOnlyBoth, HasMember, HasRuleText, HasWeights, list_of}
use Rattle.cert_values.specs.CertificateTexts.HasWeights.{Named, Own}

-- an option holds one value
pub one_some : {A : Type 0} {o : Option A} {x y : A} → o ≡ Some x → o ≡ Some y → x ≡ y
one_some {x = x} {y = y} p q = same_Some x y (sym p ∙ q)

-- two lists with the same options are one list
same_letters : (w v : List ℕ) → map Some w ≡ map Some v → w ≡ v
same_letters [] [] e = refl
same_letters (a ∷ w) (b ∷ v) e = let tails : map Some w ≡ map Some v = cc in let rest : w ≡ v = same_letters w v tails in cc
same_letters _ _ e = absurd (omega (arith, ap length e))

-- a string of digits is one word
pub IsDigits-unique : (d : Data) (w v : List ℕ) → IsDigits d w → IsDigits d v → w ≡ v
IsDigits-unique d w v p q = same_letters w v (sym p.2 ∙ subst (λ text. map hex_value text ≡ map Some v) (sym (one_some p.1 q.1)) q.2)

-- a string is one configuration
pub IsTailString-unique : (d : Data) (t u : TailConfig) → IsTailString d t → IsTailString d u → t ≡ u
IsTailString-unique d t u p q = HasParts-unique (subst (λ text. HasParts text t) (one_some p.1 q.1) p.2) q.2

pub IsWhole-unique : (d : Data) (m n : ℕ) → IsWhole d m → IsWhole d n → m ≡ n
IsWhole-unique d m n p q = one_some p q

pub IsSigned-unique : (d : Data) (y z : ℤ) → IsSigned d y → IsSigned d z → y ≡ z
IsSigned-unique d y z p q = one_some p q

-- null is no number
not_null : (d : Data) (n : ℕ) → d ≡ null → ¬ IsWhole d n
not_null d n is whole = none-some n (subst (λ d. IsWhole d n) is whole)

pub IsClaimValue-unique : (d : Data) (o p : Option ℕ) → IsClaimValue d o → IsClaimValue d p → o ≡ p
IsClaimValue-unique d None None h k = refl
IsClaimValue-unique d None (Some n) h k = absurd (not_null d n h k)
IsClaimValue-unique d (Some m) None h k = absurd (not_null d m k h)
IsClaimValue-unique d (Some m) (Some n) h k = ap Some (one_some h k)

-- the lists of two arrays are one, where each value is related to one element at most
one_zip : {A : Type 0} (R : Data → A → Type 0) → ((d : Data) (x y : A) → R d x → R d y → x ≡ y) → (ds : List Data) (xs ys : List A) → AllZip R ds xs
    → AllZip R ds ys → xs ≡ ys
one_zip R one [] [] [] h k = refl
one_zip R one [] [] (y ∷ ys) h k = absurd k
one_zip R one [] (x ∷ xs) ys h k = absurd h
one_zip R one (d ∷ ds) [] ys h k = absurd h
one_zip R one (d ∷ ds) (x ∷ xs) [] h k = absurd k
one_zip R one (d ∷ ds) (x ∷ xs) (y ∷ ys) h k = let head : x ≡ y = one d x y h.0 k.0 in let rest : xs ≡ ys = one_zip R one ds xs ys h.1 k.1 in cc

-- an array is one list, where each value is one element
pub IsArrayOf-unique : {A : Type 0} (R : Data → A → Type 0) → ((d : Data) (x y : A) → R d x → R d y → x ≡ y) → (d : Data) (xs ys : List A)
    → IsArrayOf R d xs → IsArrayOf R d ys → xs ≡ ys
IsArrayOf-unique R one d xs ys h k =
    one_zip R one (list_of k.0) xs ys (subst (λ ds. AllZip R (list_of ds) xs) (same_Some h.0 k.0 (ap as_array (sym h.1 ∙ k.1))) h.2) k.2

-- two lists of the items of one array are of one length
pub IsArrayOf-length : {A : Type 0} (R : Data → A → Type 0) (d : Data) (xs ys : List A) → IsArrayOf R d xs → IsArrayOf R d ys → length xs ≡ length ys
IsArrayOf-length R d xs ys h k =
    AllZip-long R (list_of h.0) xs h.2 ∙ ap (λ ds. length (list_of ds)) (same_Some h.0 k.0 (ap as_array (sym h.1 ∙ k.1))) ∙ sym (AllZip-long R (list_of k.0) ys k.2)

-- the one key of an object and its value are one
pub HasOnly-unique : (d : Data) {v u : Data} {k l : List ℕ} → HasOnly k v d → HasOnly l u d → (k ≡ l) × (v ≡ u)
HasOnly-unique d {v} {u} {k} {l} p q = let same : member k v no_members ≡ member l u no_members = one_some p q in (cc, cc)

-- the two values of an object with two keys are one each
pub HasOnlyBoth-unique : (d : Data) {v u w x : Data} {k l : List ℕ} → HasOnlyBoth k v l u d → HasOnlyBoth k w l x d → (v ≡ w) × (u ≡ x)
HasOnlyBoth-unique d {v} {u} {w} {x} {k} {l} p q =
    let same : member k v (member l u no_members) ≡ member k w (member l x no_members) = one_some p q in (cc, cc)

-- one key is not two
pub not_both : (d : Data) {v u w : Data} {k l m : List ℕ} → HasOnly k v d → ¬ HasOnlyBoth l u m w d
not_both d p q = absurd (omega (arith, ap members_len (one_some p q)))

-- what the value of the one key says is one
value_at : {A : Type 0} (R : Data → A → Type 0) → ((d : Data) (x y : A) → R d x → R d y → x ≡ y) → (d : Data) {v u : Data} {k : List ℕ}
    → HasOnly k v d → HasOnly k u d → (x y : A) → R v x → R u y → x ≡ y
value_at R one d {v} p q x y h k = one v x y h (subst (λ u. R u y) (sym (HasOnly-unique d p q).1) k)

array_at : {A : Type 0} (R : Data → A → Type 0) → ((d : Data) (x y : A) → R d x → R d y → x ≡ y) → (d : Data) {v u : Data} {k : List ℕ}
    → HasOnly k v d → HasOnly k u d → (xs ys : List A) → IsArrayOf R v xs → IsArrayOf R u ys → xs ≡ ys
array_at R one = value_at (IsArrayOf R) (IsArrayOf-unique R one)

pub IsSurjectiveValue-unique : (d : Data) (e f : SurjectiveEvidence) → IsSurjectiveValue d e → IsSurjectiveValue d f → e ≡ f
IsSurjectiveValue-unique d (Sets s) (Sets t) p q = ap Sets (array_at IsWhole IsWhole-unique d p.1 q.1 s t p.2 q.2)
IsSurjectiveValue-unique d (Pairs s) (Pairs t) p q = ap Pairs (array_at IsWhole IsWhole-unique d p.1 q.1 s t p.2 q.2)
IsSurjectiveValue-unique d (Orphan w) (Orphan v) p q = ap Orphan (value_at IsDigits IsDigits-unique d p.1 q.1 w v p.2 q.2)
IsSurjectiveValue-unique d _ _ p q = absurd (omega (arith, ap length (HasOnly-unique d p.1 q.1).0))

pub IsInjectiveValue-unique : (d : Data) (e f : InjectiveEvidence) → IsInjectiveValue d e → IsInjectiveValue d f → e ≡ f
IsInjectiveValue-unique d (Window n c) (Window m b) p q =
    let values = HasOnlyBoth-unique d p.2 q.2 in
    ap₂ Window (one_some p.4 (rw values.1 q.4)) (one_some p.3 (rw values.0 q.3))
IsInjectiveValue-unique d (Window n c) (Twins x y) p q = absurd (not_both d q.1 p.2)
IsInjectiveValue-unique d (Twins x y) (Window n c) p q = absurd (not_both d p.1 q.2)
IsInjectiveValue-unique d (Twins x y) (Twins u v) p q =
    let same : x ∷ y ∷ [] ≡ u ∷ v ∷ [] = array_at IsDigits IsDigits-unique d p.1 q.1 (x ∷ y ∷ []) (u ∷ v ∷ []) p.2 q.2 in cc

pub IsSideValue-unique : (d : Data) (e f : SideEvidence) → IsSideValue d e → IsSideValue d f → e ≡ f
IsSideValue-unique d (Ahead m) (Ahead n) p q = ap Ahead (value_at IsWhole IsWhole-unique d p.1 q.1 m n p.2 q.2)
IsSideValue-unique d (Split t u) (Split x y) p q =
    let same : t ∷ u ∷ [] ≡ x ∷ y ∷ [] = array_at IsTailString IsTailString-unique d p.1 q.1 (t ∷ u ∷ []) (x ∷ y ∷ []) p.2 q.2 in cc
IsSideValue-unique d _ _ p q = absurd (omega (arith, ap (λ k. slice_index k 0) (HasOnly-unique d p.1 q.1).0))

pub IsSumValue-unique : (d : Data) (e f : SumEvidence) → IsSumValue d e → IsSumValue d f → e ≡ f
IsSumValue-unique d (Flux s) (Flux t) p q = ap Flux (array_at IsSigned IsSigned-unique d p.1 q.1 s t p.2 q.2)
IsSumValue-unique d (Ring w) (Ring v) p q = ap Ring (value_at IsDigits IsDigits-unique d p.1 q.1 w v p.2 q.2)
IsSumValue-unique d _ _ p q = absurd (omega (arith, ap (λ k. slice_index k 0) (HasOnly-unique d p.1 q.1).0))

pub IsRanksValue-unique : (d : Data) (f b g c : List (Option ℕ)) → IsRanksValue d f b → IsRanksValue d g c → (f ≡ g) × (b ≡ c)
IsRanksValue-unique d f b g c p q =
    let values = HasOnlyBoth-unique d p.2 q.2 in (
      IsArrayOf-unique IsClaimValue IsClaimValue-unique p.1 f g p.4 (rw values.1 q.4),
      IsArrayOf-unique IsClaimValue IsClaimValue-unique p.0 b c p.3 (rw values.0 q.3),
    )

-- what the member of a key says is one
pub HasMember-unique : {A : Type 0} (R : Data → A → Type 0) → ((d : Data) (x y : A) → R d x → R d y → x ≡ y)
    → {ms ns : Members} (k : List ℕ) (x y : A) → ms ≡ ns
    → HasMember ms k (λ d. R d x) → HasMember ns k (λ d. R d y) → x ≡ y
HasMember-unique R one k x y same p q = one q.0 x y (subst (λ d. R d x) (one_some (subst (λ ms. get_member k ms ≡ Some p.0) same p.1) q.1) p.2) q.2

-- bytes are at most one object
pub IsObject-unique : (bytes : List ℕ) {ms ns : Members} → IsObject bytes ms → IsObject bytes ns → ms ≡ ns
IsObject-unique bytes {ms} {ns} p q = same_Some ms ns (ap as_object (one_some p.1 q.1))

-- with one text of a rule
pub HasRuleText-unique : {ms ns : Members} (text other : List ℕ) → ms ≡ ns → HasRuleText ms text → HasRuleText ns other → text ≡ other
HasRuleText-unique text other same p q = HasMember-unique (λ d text. as_str d ≡ Some text) (λ d x y h k. one_some h k) (codes "rule") text other same p q

-- the version of a number
abbrev version_of : ℕ → Option CertVersion
version_of (suc zero) = Some One
version_of (suc (suc zero)) = Some Two
version_of (suc (suc (suc zero))) = Some Three
version_of n = None

version_of-number : (v : CertVersion) → version_of (number_of v) ≡ Some v
version_of-number One = refl
version_of-number _ = refl

-- two versions with one number are one
pub number_of-injective : (v w : CertVersion) → number_of v ≡ number_of w → v ≡ w
number_of-injective v w same = same_Some v w (sym (version_of-number v) ∙ ap version_of same ∙ version_of-number w)

-- the weights are one list
HasWeights-unique : {version : CertVersion} {r : LocalRule} {ms : Members} (weights other : List ℕ) → HasWeights version r ms weights
    → HasWeights version r ms other → weights ≡ other
HasWeights-unique weights other (Own absent own) (Own missing also) = own ∙ sym also
HasWeights-unique weights other (Own absent own) (Named names has are) = absurd (none-some has.0 (sym (absent names) ∙ has.1))
HasWeights-unique weights other (Named names has are) (Own absent own) = absurd (none-some has.0 (sym (absent names) ∙ has.1))
HasWeights-unique {ms = ms} weights other (Named names has are) (Named known also too) =
    HasMember-unique (IsArrayOf IsWhole) (λ d x y h k. IsArrayOf-unique IsWhole IsWhole-unique d x y h k) {ms = ms} {ns = ms} (codes "weights") weights other refl has also

-- bytes are the text of one certificate
pub IsCertificateText-unique : {bytes : List ℕ} {c d : Certificate} → IsCertificateText bytes c → IsCertificateText bytes d → c ≡ d
IsCertificateText-unique {bytes} {c} {d} p q =
    let same : p.members ≡ q.members = IsObject-unique bytes p.json q.json in
    let text : p.text ≡ q.text = HasRuleText-unique p.text q.text same p.rule_text q.rule_text in
    let version : c.version ≡ d.version =
    number_of-injective c.version d.version (HasMember-unique IsWhole IsWhole-unique (codes "version") (number_of c.version) (number_of d.version) same p.version q.version) in
    let rule : c.rule ≡ d.rule = IsRuleText-unique (subst (λ text. IsRuleText text c.rule) text p.rule) q.rule in
    let here = p.parts in
    let there = q.parts in
    let surjective : c.surjective ≡ d.surjective = HasMember-unique IsSurjectiveValue IsSurjectiveValue-unique (codes "surjective") c.surjective d.surjective same here.surjective.0 there.surjective.0 in
    let injective : c.injective ≡ d.injective = HasMember-unique IsInjectiveValue IsInjectiveValue-unique (codes "injective") c.injective d.injective same here.injective.0 there.injective.0 in
    let right : c.right ≡ d.right = HasMember-unique IsSideValue IsSideValue-unique (codes "right") c.right d.right same here.right.0 there.right.0 in
    let left : c.left ≡ d.left = HasMember-unique IsSideValue IsSideValue-unique (codes "left") c.left d.left same here.left.0 there.left.0 in
    let conserving : c.conserving ≡ d.conserving = HasMember-unique IsSumValue IsSumValue-unique (codes "conserving") c.conserving d.conserving same here.conserving.0 there.conserving.0 in
    let weights : c.weights ≡ d.weights =
    HasWeights-unique c.weights d.weights
    (subst (λ ms. HasWeights d.version d.rule ms c.weights) same (subst₂ (λ (v : CertVersion) (r : LocalRule). HasWeights v r p.members c.weights) version rule here.weights)) there.weights in
    let ranks = IsRanksValue-unique there.ranks.0.0 c.forward c.backward d.forward d.backward
    (subst (λ v. IsRanksValue v c.forward c.backward) (one_some (subst (λ ms. get_member (codes "ranks") ms ≡ Some here.ranks.0.0) same here.ranks.0.1) there.ranks.0.1) here.ranks.0.2) there.ranks.0.2 in
    λ i. record { version = version i; rule = rule i; surjective = surjective i; injective = injective i; right = right i; left = left i; conserving = conserving i; weights = weights i; forward = ranks.0 i; backward = ranks.1 i }
