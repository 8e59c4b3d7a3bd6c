-- The text that is written for a rule has fewer than 450,000 bytes.
use Rattle.std.proofs.Common.{ℕ, ◌+◌, ◌-◌, ◌^◌, ◌<◌, ◌≤◌, true, ⊎_elim, List, length, map, Option, Some, None, arith, length-append, ℤ, pos, negsuc, ◌≤ℤ◌}
use Rattle.std.proofs.lemmas.Fmt.{length-decimal-le, length_signed_le}
use Rattle.word_image.proofs.Common.{pow-le-pow_right, ints, length-map, All-weaker, LocalRule, IsRule, node_count, pair_count, AreWeights, window_count-le, pair_count-le}
use Rattle.serde_json.specs.Written.{compact_text, members_text}
use Rattle.rule_text.specs.PrintedRules.{offset_text, printed_rule}
use Rattle.tail_laws.proofs.Common.{length-IsLeastTwins}
use Rattle.cert_values.specs.declared.cert_version.CertVersion.{CertVersion}
use Rattle.cert_values.specs.declared.cert_version.CertVersion.TheVariants.{One}
use Rattle.cert_values.proofs.Common.{number_of, SurjectiveEvidence, InjectiveEvidence, SideEvidence, SumEvidence, Certificate, IsSurjectiveShape, IsInjectiveShape, IsSideShape, IsSumShape, IsClaim, IsRankShape, IsNear, IsShaped, Sets, Pairs, Orphan, Window, Twins, Ahead, Split, Flux, Ring, array_from, whole_value, signed_value, claim_value, surjective_value, injective_value, side_value, sum_value, weights_members, certificate_text, weights_members-cases}
use Rattle.certificate_laws.specs.LeastEvidence.{IsOrphanPart, IsInjectivePart, IsConservingPart}
use Rattle.certificate_laws.specs.WrittenCertificates.{orphan_of, IsListPart, HasWrittenParts}
use Rattle.certificate_laws.proofs.PairLists.{length-reached}
use Rattle.certificate_laws.proofs.FamilySizes.{length-IsCoverList}
use Rattle.certificate_laws.proofs.ShortOrphans.{length-IsLeastOrphan}
use Rattle.certificate_laws.proofs.ShortWords.{length-IsLeastLossyRing}
use Rattle.certificate_laws.proofs.TextLengths.{length-escape_byte, length-comma_if, length-escape, length-word_text, length-tail_text, length-values}

-- a number of sixteen bits has at most five digits
length-whole_value : (n : ℕ) → n ≤ 65535 → length (compact_text (whole_value n)) ≤ 5
length-whole_value n small = length-decimal-le 5 n (omega arith) (omega arith) (omega arith)

-- a number of at most a million either way has at most eight characters
length-signed_value : (z : ℤ) → IsNear z → length (compact_text (signed_value z)) ≤ 8
length-signed_value (pos n) near = length_signed_le 7 (pos n) (omega (arith, ints, near.1)) (omega (arith, ints, near.1))
length-signed_value (negsuc n) near = length_signed_le 7 (negsuc n) (omega (arith, ints, near.0)) (omega (arith, ints, near.0))

-- the text of a claim has at most five characters
length-claim_value : (o : Option ℕ) → IsClaim o → length (compact_text (claim_value o)) ≤ 5
length-claim_value None claim = omega arith
length-claim_value (Some n) claim = length-whole_value n claim

-- the text of an offset has at most three characters
length-offset_text : (z : ℤ) → negsuc 15 ≤ℤ z → z ≤ℤ pos 16 → length (offset_text z) ≤ 3
length-offset_text (pos n) low high = let small : n ≤ 16 = omega (arith, ints) in omega (arith, length-decimal-le 2 n (omega arith) (omega arith) (omega arith))
length-offset_text (negsuc n) low high = let small : n ≤ 15 = omega (arith, ints) in omega (arith, length-decimal-le 2 (n + 1) (omega arith) (omega arith) (omega arith))

-- the printed form of a rule has at most 267 characters
length-printed_rule : {r : LocalRule} → IsRule r → length (printed_rule r) ≤ 267
length-printed_rule {r} rule =
    let shape = rule.shape in
    let k = length-decimal-le 2 r.states (omega arith) (omega (arith, shape.most_states)) (omega (arith, shape.most_states)) in
    let m = length-decimal-le 2 r.width (omega arith) (omega (arith, shape.most_width)) (omega (arith, shape.most_width)) in
    let o = length-offset_text r.offset shape.least_offset (omega (arith, ints, shape.most_offset)) in
    let entries = window_count-le r.states r.width r.offset shape in
    let table = rule.entries in
    simp (length-append, length-map) (omega arith)

-- the text of the cover list, the reached pairs, or an orphan has at most 393,260 bytes
length-surjective_value : (version : CertVersion) {r : LocalRule} → IsRule r → (e : SurjectiveEvidence) → IsSurjectiveShape version r e
    → IsOrphanPart r (orphan_of e) → IsListPart version r e
    → length (compact_text (surjective_value e)) ≤ 393260
length-surjective_value version {r} rule (Sets sets) shape surjective (two, covers) =
    let most : 2 ^ node_count r ≤ 2 ^ 16 = pow-le-pow_right (omega arith) rule.shape.most_nodes in
    let small = All-weaker (λ s. s ≤ 2 ^ node_count r - 1) (λ s. length (compact_text (whole_value s)) ≤ 5) (λ s l. length-whole_value s (omega (arith, l, most))) sets shape in
    simp length-append (omega (arith, length-escape_byte, length-comma_if, length-values whole_value 5 sets small, length-IsCoverList rule covers))
length-surjective_value version {r} rule (Pairs pairs) shape surjective (three, reached) =
    let most = pair_count-le rule in
    let small = All-weaker (λ p. p < pair_count r) (λ p. length (compact_text (whole_value p)) ≤ 5) (λ p l. length-whole_value p (omega (arith, l, most))) pairs shape.1 in
    simp length-append (omega (arith, length-escape_byte, length-comma_if, length-values whole_value 5 pairs small, length-reached rule reached, most))
length-surjective_value version rule (Orphan w) shape least list = simp length-append (omega (arith, length-escape_byte, length-comma_if, length-IsLeastOrphan rule least, length-word_text w))

-- the text of a window or twins has at most 1,100 bytes
length-injective_value : {r : LocalRule} → IsRule r → (e : InjectiveEvidence) → IsInjectiveShape r e → IsInjectivePart r e
    → length (compact_text (injective_value e)) ≤ 1100
length-injective_value rule (Window n c) shape part =
    simp length-append (omega (arith, length-escape_byte, length-comma_if, length-whole_value n shape.1, length-whole_value c shape.3))
length-injective_value rule (Twins x y) shape part =
    let brief = length-IsLeastTwins rule part.1 in
    simp length-append (omega (arith, length-escape_byte, length-comma_if, brief.0, brief.1, length-word_text x, length-word_text y))

-- the text of a look-ahead or a split has at most 6,300 bytes
length-side_value : (r : LocalRule) (e : SideEvidence) → IsSideShape r e → length (compact_text (side_value e)) ≤ 6300
length-side_value r (Ahead n) shape = simp length-append (omega (arith, length-escape_byte, length-comma_if, length-whole_value n shape.1))
length-side_value r (Split x y) shape =
    simp length-append (omega (arith, length-escape_byte, length-comma_if, length-tail_text x, length-tail_text y))

-- the text of a flux or a ring has at most 200 bytes
length-sum_value : (weight : ℕ → ℕ) {r : LocalRule} → IsRule r → (e : SumEvidence) → IsSumShape r e → IsConservingPart weight r e
    → length (compact_text (sum_value e)) ≤ 200
length-sum_value weight rule (Flux phi) shape part =
    let small = All-weaker IsNear (λ z. length (compact_text (signed_value z)) ≤ 8) length-signed_value phi shape.1 in
    simp length-append (omega (arith, length-escape_byte, length-comma_if, length-values signed_value 8 phi small, shape.0, rule.shape.most_nodes))
length-sum_value weight rule (Ring p) shape part = simp length-append (omega (arith, length-escape_byte, length-comma_if, length-IsLeastLossyRing rule part.1, rule.shape.most_width, length-word_text p))

-- the text of the ranks of one direction has at most 1,538 bytes
length-row : {r : LocalRule} {row : List (Option ℕ)} → IsRule r → IsRankShape r row → length (compact_text (array_from (map claim_value row))) ≤ 1538
length-row {r} {row} rule shape =
    let small = All-weaker IsClaim (λ o. length (compact_text (claim_value o)) ≤ 5) length-claim_value row shape.claims in
    omega (arith, length-values claim_value 5 row small, shape.each_pair, pair_count-le rule)

-- the weights, where they are written, and the closing brace have at most 200 bytes
length-weights_members : {r : LocalRule} → IsRule r → (weights : List ℕ) → AreWeights r.states weights
    → length (members_text true (weights_members r weights)) ≤ 200
length-weights_members {r} rule weights are =
    let small = All-weaker (λ w. w ≤ 255) (λ w. length (compact_text (whole_value w)) ≤ 5) (λ w l. length-whole_value w (omega (arith, l))) weights are.small in
    ⊎_elim
    (λ (own, none). rw none (omega arith))
    (λ (other, named). rw named (simp length-append (omega (arith, length-escape_byte, length-comma_if, length-values whole_value 5 weights small, are.each_letter))))
    (weights_members-cases r weights)

-- what is written for its own rule has a short text
pub short-own : {c : Certificate} → IsShaped c → HasWrittenParts c.version c.rule c.weights c → length (certificate_text c) < 450000
short-own shaped parts =
    grind (arith, length-append, length-weights_members, length-sum_value, length-injective_value, length-side_value, length-row, length-escape, length-printed_rule, length-surjective_value, length-whole_value, length-escape_byte)
