-- The text of a certificate within its limits is a text of it.
use Rattle.std.proofs.Common.{ℕ, suc, ◌-◌, ◌^◌, ◌<◌, ◌≤◌, negsuc, pos, List, [], ◌∷◌, map, All, Option, Some, None, codes, refl, ⊎_elim, arith, ℤ}
use Rattle.word_image.proofs.Common.{pow-le-pow_right, ints, All-weaker, All-nil, All-cons, LocalRule, IsRule, IsWord, node_count, word_text, pair_count-le}
use Rattle.serde_json.specs.Data.{Members}
use Rattle.tail_config.proofs.Common.{TailConfig, IsShortTail}
use Rattle.tail_config.specs.TailTexts as tail
use Rattle.rule_text.specs.PrintedRules.{printed_rule}
use Rattle.cert_values.specs.declared.cert_version.CertVersion.{CertVersion}
use Rattle.cert_values.specs.declared.cert_version.CertVersion.TheVariants.{One, Two, Three}
use Rattle.cert_values.proofs.Common.{number_of, SurjectiveEvidence, InjectiveEvidence, SideEvidence, SumEvidence, Sets, Pairs, Orphan, Window, Twins, Ahead, Split, Flux, Ring, Certificate, IsSurjectiveShape, IsInjectiveShape, IsSideShape, IsSumShape, IsClaim, IsNear, IsCertificateText, IsShaped, array_from, whole_value, signed_value, word_value, tail_value, claim_value, surjective_value, injective_value, side_value, sum_value, ranks_value, members_before, certificate_value, certificate_text, weights_members-cases}
use Rattle.cert_values.proofs.laws.Utf8Texts.{IsUtf8-word, IsUtf8-tail, IsUtf8-rule}
use Rattle.cert_values.proofs.laws.Written.{IsCertificateText-written}
use Rattle.certificate_laws.proofs.ReadBack.{IsReadBack, HaveReadBack, IsReadBack-null, IsReadBack-string, IsReadBack-whole, IsReadBack-signed, IsReadBack-array, IsReadBack-object, IsReadBack-only, HaveReadBack-none, HaveReadBack-member, read-compact_text}

-- an array of numbers below a limit of 64 bits is read back
whole_values : (n limit : ℕ) → limit ≤ 2 ^ 64 → (values : List ℕ) → All (λ v. v < limit) values
    → IsReadBack (suc n) (array_from (map whole_value values))
whole_values n limit fits values small = IsReadBack-array whole_value (λ v. v < limit) (λ v below. IsReadBack-whole n v (omega (arith, below, fits))) values small

module _ {r : LocalRule} (rule : IsRule r) where
  -- a word
  word-back : (n : ℕ) (w : List ℕ) → IsWord r.states w → IsReadBack n (word_value w)
  word-back n w word = IsReadBack-string n (word_text w) (IsUtf8-word rule.shape.most_states w word)

  -- a configuration
  tail-back : (n : ℕ) (t : TailConfig) → IsShortTail r.states t → IsReadBack n (tail_value t)
  tail-back n t short = IsReadBack-string n (tail.printed t) (IsUtf8-tail rule.shape.most_states t short)

  -- the parts of a certificate: of surjective
  surjective-back : (v : CertVersion) (e : SurjectiveEvidence) → IsSurjectiveShape v r e → IsReadBack 2 (surjective_value e)
  surjective-back v (Sets sets) shape =
      let most : 2 ^ node_count r ≤ 2 ^ 16 = pow-le-pow_right (omega arith) rule.shape.most_nodes in
      IsReadBack-only (codes "sets") refl (whole_values 0 (2 ^ 16) (omega arith) sets (All-weaker (λ set. set ≤ 2 ^ node_count r - 1) (λ set. set < 2 ^ 16) (λ set within. omega (arith, within, most)) sets shape))
  surjective-back v (Pairs pairs) shape = IsReadBack-only (codes "pairs") refl (whole_values 0 _ (omega (arith, pair_count-le rule)) pairs shape.1)
  surjective-back v (Orphan w) shape = IsReadBack-only (codes "orphan") refl (word-back 1 w shape)

  -- of injective
  injective-back : (e : InjectiveEvidence) → IsInjectiveShape r e → IsReadBack 2 (injective_value e)
  injective-back (Window n c) shape =
      IsReadBack-object refl
      (HaveReadBack-member (codes "c") refl (IsReadBack-whole 1 c (omega (arith, shape.3))) (HaveReadBack-member (codes "n") refl (IsReadBack-whole 1 n (omega (arith, shape.1))) (HaveReadBack-none 1)))
  injective-back (Twins x y) shape =
      IsReadBack-only (codes "twins") refl
      (IsReadBack-array word_value (IsWord r.states) (word-back 0) (x ∷ y ∷ []) (All-cons (IsWord r.states) x (y ∷ []) shape.0 (All-cons (IsWord r.states) y [] shape.1 (All-nil (IsWord r.states)))))

  -- of a side
  side-back : (e : SideEvidence) → IsSideShape r e → IsReadBack 2 (side_value e)
  side-back (Ahead n) shape = IsReadBack-only (codes "ahead") refl (IsReadBack-whole 1 n (omega (arith, shape.1)))
  side-back (Split x y) shape =
      let Short = IsShortTail r.states in
      IsReadBack-only (codes "split") refl (IsReadBack-array tail_value Short (tail-back 0) (x ∷ y ∷ []) (All-cons Short x (y ∷ []) shape.0 (All-cons Short y [] shape.1 (All-nil Short))))

  -- of conserving
  sum-back : (e : SumEvidence) → IsSumShape r e → IsReadBack 2 (sum_value e)
  sum-back (Flux phi) shape = IsReadBack-only (codes "flux") refl (IsReadBack-array signed_value IsNear near-back phi shape.1)
    where
      near-back : (z : ℤ) → IsNear z → IsReadBack 0 (signed_value z)
      near-back (pos v) near = IsReadBack-signed 0 (pos v) (omega (arith, ints, near.1))
      near-back (negsuc v) near = IsReadBack-signed 0 (negsuc v) (omega (arith, ints, near.0))
  sum-back (Ring p) shape = IsReadBack-only (codes "ring") refl (word-back 1 p shape)

-- a claim is read back
claim-back : (n : ℕ) (o : Option ℕ) → IsClaim o → IsReadBack n (claim_value o)
claim-back n None claim = IsReadBack-null n
claim-back n (Some v) claim = IsReadBack-whole n v (omega (arith, claim))

-- the ranks are read back
ranks-back : (forward backward : List (Option ℕ)) → All IsClaim forward → All IsClaim backward → IsReadBack 2 (ranks_value forward backward)
ranks-back forward backward first second =
    IsReadBack-object refl
    (HaveReadBack-member (codes "backward") refl (IsReadBack-array claim_value IsClaim (claim-back 0) backward second)
    (HaveReadBack-member (codes "forward") refl (IsReadBack-array claim_value IsClaim (claim-back 0) forward first) (HaveReadBack-none 1)))

-- the number of a version is read back
version-back : (v : CertVersion) → IsReadBack 2 (whole_value (number_of v))
version-back One = IsReadBack-whole 2 1 (omega arith)
version-back Two = IsReadBack-whole 2 2 (omega arith)
version-back Three = IsReadBack-whole 2 3 (omega arith)

-- the members of a certificate are read back, where those behind them are
members-back : {c : Certificate} {rest : Members} → IsShaped c → HaveReadBack 2 rest → HaveReadBack 2 (members_before rest c)
members-back {c} shaped rest =
    let rule = shaped.rule in
    HaveReadBack-member (codes "conserving") refl (sum-back rule c.conserving shaped.conserving)
    (HaveReadBack-member (codes "injective") refl (injective-back rule c.injective shaped.injective)
    (HaveReadBack-member (codes "left") refl (side-back rule c.left shaped.left)
    (HaveReadBack-member (codes "ranks") refl (ranks-back c.forward c.backward shaped.forward.claims shaped.backward.claims)
    (HaveReadBack-member (codes "right") refl (side-back rule c.right shaped.right)
    (HaveReadBack-member (codes "rule") refl (IsReadBack-string 2 (printed_rule c.rule) (IsUtf8-rule rule))
    (HaveReadBack-member (codes "surjective") refl (surjective-back rule c.version c.surjective shaped.surjective)
    (HaveReadBack-member (codes "version") refl (version-back c.version) rest)))))))

-- the value of a certificate within its limits is read back
IsReadBack-certificate : {c : Certificate} → IsShaped c → IsReadBack 3 (certificate_value c)
IsReadBack-certificate {c} shaped =
    let weights = IsReadBack-array whole_value (λ w. w ≤ 255) (λ w small. IsReadBack-whole 1 w (omega (arith, small))) c.weights shaped.weights.each.small in
    ⊎_elim
    (λ (own, none). rw none (IsReadBack-object refl (members-back shaped (HaveReadBack-none 2))))
    (λ (other, named). rw named (IsReadBack-object refl (members-back shaped (HaveReadBack-member (codes "weights") refl weights (HaveReadBack-none 2)))))
    (weights_members-cases c.rule c.weights)

-- a certificate within its limits is read from its own text
pub IsCertificateText-own : {c : Certificate} → IsShaped c → IsCertificateText (certificate_text c) c
IsCertificateText-own {c} shaped =
    let back = IsReadBack-certificate shaped in
    IsCertificateText-written (back.text, read-compact_text {n = 3} (certificate_value c) (omega arith) back) shaped
