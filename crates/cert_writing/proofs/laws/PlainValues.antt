-- The value of a certificate nests no deeper than JSON is read, and has no float.
use Rattle.std.proofs.Common.{◌≡◌, ℕ, suc, ◌≤◌, List, [], ◌∷◌, map, Option, Some, None, false, refl, sym, subst, ⊎_elim, arith, ℤ, pos, negsuc, codes}
use Rattle.word_image.proofs.Common.{max-le, LocalRule}
use Rattle.serde_json.specs.Data.{Data, string, object, Items, Members, no_members, member, depth, items_depth, members_depth}
use Rattle.serde_json.specs.View.{items_of}
use Rattle.serde_json.specs.Written.{has_float, items_have_float, members_have_float}
use Rattle.rule_text.specs.PrintedRules.{printed_rule}
use Rattle.cert_values.specs.Versions.{number_of}
use Rattle.cert_values.specs.Evidence.{SurjectiveEvidence, InjectiveEvidence, SideEvidence, SumEvidence}
use Rattle.cert_values.specs.Certificates.{Certificate}
use Rattle.cert_values.specs.Evidence.SurjectiveEvidence.{Sets, Pairs, Orphan}
use Rattle.cert_values.specs.Evidence.InjectiveEvidence.{Window, Twins}
use Rattle.cert_values.specs.Evidence.SideEvidence.{Ahead, Split}
use Rattle.cert_values.specs.Evidence.SumEvidence.{Flux, Ring}
use Rattle.cert_values.specs.WrittenTexts.{array_from, whole_value, signed_value, word_value, tail_value, claim_value, surjective_value, injective_value, side_value, sum_value, ranks_value, weights_members, certificate_value}
use Rattle.cert_values.proofs.laws.WeightMembers.{weights_members-cases}

-- a value that nests no deeper than n, without a float
pub record IsPlain (n : ℕ) (d : Data) : Type 0 where
  pub depth : depth d ≤ n
  pub no_float : has_float d ≡ false

-- values in a row that nest no deeper than n, without a float
record ArePlain (n : ℕ) (ds : Items) : Type 0 where
  depth : items_depth ds ≤ n
  no_float : items_have_float ds ≡ false

-- members whose values nest no deeper than n, without a float
record HavePlain (n : ℕ) (ms : Members) : Type 0 where
  depth : members_depth ms ≤ n
  no_float : members_have_float ms ≡ false

-- the values of a list's elements nest no deeper than n, without a float, if each of them does
ArePlain-map : {A : Type 0} {n : ℕ} (f : A → Data) → ((x : A) → IsPlain n (f x)) → (xs : List A) → ArePlain n (items_of (map f xs))
ArePlain-map f each [] = record { depth = omega arith; no_float = refl }
ArePlain-map f each (x ∷ xs) =
    let first = each x in
    let rest = ArePlain-map f each xs in
    record { depth = max-le first.depth rest.depth; no_float = rw (first.no_float) rest.no_float }

-- an array of plain values is plain, and nests one deeper
IsPlain-array : {A : Type 0} {n : ℕ} (f : A → Data) → ((x : A) → IsPlain n (f x)) → (xs : List A) → IsPlain (suc n) (array_from (map f xs))
IsPlain-array f each xs = let items = ArePlain-map f each xs in record { depth = omega (arith, items.depth); no_float = items.no_float }

-- no member is plain members
HavePlain-none : (n : ℕ) → HavePlain n no_members
HavePlain-none n = record { depth = omega arith; no_float = refl }

-- plain members with one plain member more are plain members
HavePlain-member : {n : ℕ} (k : List ℕ) {d : Data} {ms : Members} → IsPlain n d → HavePlain n ms → HavePlain n (member k d ms)
HavePlain-member k first rest = record { depth = max-le first.depth rest.depth; no_float = rw (first.no_float) rest.no_float }

-- an object of plain members is plain, and nests one deeper
IsPlain-object : {n : ℕ} {ms : Members} → HavePlain n ms → IsPlain (suc n) (object ms)
IsPlain-object members = record { depth = omega (arith, members.depth); no_float = members.no_float }

-- an object with one plain member is plain, and nests one deeper
IsPlain-only : {n : ℕ} (k : List ℕ) {d : Data} → IsPlain n d → IsPlain (suc n) (object (member k d no_members))
IsPlain-only k first = IsPlain-object (HavePlain-member k first (HavePlain-none _))

-- a string is plain
IsPlain-string : (n : ℕ) (s : List ℕ) → IsPlain n (string s)
IsPlain-string n s = record { depth = omega arith; no_float = refl }

-- a whole number is plain
IsPlain-whole : (n v : ℕ) → IsPlain n (whole_value v)
IsPlain-whole n v = record { depth = omega arith; no_float = refl }

-- a signed number is plain
IsPlain-signed : (n : ℕ) (z : ℤ) → IsPlain n (signed_value z)
IsPlain-signed n (pos v) = record { depth = omega arith; no_float = refl }
IsPlain-signed n (negsuc v) = record { depth = omega arith; no_float = refl }

-- a claim is plain
IsPlain-claim : (n : ℕ) (o : Option ℕ) → IsPlain n (claim_value o)
IsPlain-claim n None = record { depth = omega arith; no_float = refl }
IsPlain-claim n (Some v) = IsPlain-whole n v

-- evidence for surjective is plain, and nests no deeper than 2
IsPlain-surjective : (e : SurjectiveEvidence) → IsPlain 2 (surjective_value e)
IsPlain-surjective (Sets sets) = IsPlain-only (codes "sets") (IsPlain-array whole_value (IsPlain-whole 0) sets)
IsPlain-surjective (Pairs pairs) = IsPlain-only (codes "pairs") (IsPlain-array whole_value (IsPlain-whole 0) pairs)
IsPlain-surjective (Orphan w) = IsPlain-only (codes "orphan") (IsPlain-string 1 _)

-- evidence for injective is plain, and nests no deeper than 2
IsPlain-injective : (e : InjectiveEvidence) → IsPlain 2 (injective_value e)
IsPlain-injective (Window n c) =
    IsPlain-object (HavePlain-member (codes "c") (IsPlain-whole 1 c) (HavePlain-member (codes "n") (IsPlain-whole 1 n) (HavePlain-none 1)))
IsPlain-injective (Twins x y) = IsPlain-only (codes "twins") (IsPlain-array word_value (λ w. IsPlain-string 0 _) (x ∷ y ∷ []))

-- evidence for a side is plain, and nests no deeper than 2
IsPlain-side : (e : SideEvidence) → IsPlain 2 (side_value e)
IsPlain-side (Ahead n) = IsPlain-only (codes "ahead") (IsPlain-whole 1 n)
IsPlain-side (Split x y) = IsPlain-only (codes "split") (IsPlain-array tail_value (λ t. IsPlain-string 0 _) (x ∷ y ∷ []))

-- evidence for conserving is plain, and nests no deeper than 2
IsPlain-sum : (e : SumEvidence) → IsPlain 2 (sum_value e)
IsPlain-sum (Flux phi) = IsPlain-only (codes "flux") (IsPlain-array signed_value (IsPlain-signed 0) phi)
IsPlain-sum (Ring p) = IsPlain-only (codes "ring") (IsPlain-string 1 _)

-- the ranks are plain, and nest no deeper than 2
IsPlain-ranks : (forward backward : List (Option ℕ)) → IsPlain 2 (ranks_value forward backward)
IsPlain-ranks forward backward =
    let claims = IsPlain-array claim_value (IsPlain-claim 0) in
    IsPlain-object (HavePlain-member (codes "backward") (claims backward) (HavePlain-member (codes "forward") (claims forward) (HavePlain-none 1)))

-- the weights, where they are written, are plain, and nest no deeper than 2
HavePlain-weights : (r : LocalRule) (weights : List ℕ) → HavePlain 2 (weights_members r weights)
HavePlain-weights r weights =
    ⊎_elim
    (λ (own, none). subst (HavePlain 2) (sym none) (HavePlain-none 2))
    (λ (other, named). subst (HavePlain 2) (sym named) (HavePlain-member (codes "weights") (IsPlain-array whole_value (IsPlain-whole 1) weights) (HavePlain-none 2)))
    (weights_members-cases r weights)

-- a certificate is plain, and nests no deeper than 3
pub IsPlain-certificate : (c : Certificate) → IsPlain 3 (certificate_value c)
IsPlain-certificate c =
    IsPlain-object (HavePlain-member (codes "conserving") (IsPlain-sum c.conserving)
    (HavePlain-member (codes "injective") (IsPlain-injective c.injective)
    (HavePlain-member (codes "left") (IsPlain-side c.left)
    (HavePlain-member (codes "ranks") (IsPlain-ranks c.forward c.backward)
    (HavePlain-member (codes "right") (IsPlain-side c.right)
    (HavePlain-member (codes "rule") (IsPlain-string 2 (printed_rule c.rule))
    (HavePlain-member (codes "surjective") (IsPlain-surjective c.surjective)
    (HavePlain-member (codes "version") (IsPlain-whole 2 (number_of c.version)) (HavePlain-weights c.rule c.weights)))))))))
