-- The certificate that the program writes for a rule and weights of its letters has the least evidence and the exact
-- ranks of all pairs of nodes. If the rule is surjective, it also has a list. Version 2 has the cover list: the set of
-- all nodes, and each minimal set of last nodes of the preimages of a word. Version 3 has the reached pairs: the pairs
-- of nodes at which two walks with equal labels can be after they left one node by different letters.
use Rattle.std.specs.Prelude.{◌≡◌, ℕ, ◌<◌, List, length, slice_index, get_or, Option, Some, None, MatchOption, ⊤}
use Rattle.word_image.specs.LocalRules.{LocalRule}
use Rattle.word_image.specs.Graphs.{first_of, second_of, pair_count}
use Rattle.word_image.specs.Ranks.{BeginTogether, EndTogether, IsRank, IsEndless}
use Rattle.word_image.specs.Families.{IsCoverList}
use Rattle.cert_values.specs.declared.cert_version.CertVersion.{CertVersion}
use Rattle.cert_values.specs.declared.cert_version.CertVersion.TheVariants.{Two, Three}
use Rattle.cert_values.specs.Evidence.{SurjectiveEvidence, Sets, Pairs, Orphan}
use Rattle.cert_values.specs.Certificates.{Certificate}
use Rattle.cert_values.specs.WrittenTexts.{certificate_text}
use Rattle.cert_conditions.specs.Accepted.{IsAccepted, verdicts_of}
use Rattle.certificate_laws.specs.LeastEvidence.{IsLeastEvidence}
use Rattle.garden_laws.specs.ReachedPairs.{AreReached}

-- the orphan, or None if the evidence is a list of sets or pairs
abbrev pub orphan_of : SurjectiveEvidence → Option (List ℕ)
orphan_of (Sets sets) = None
orphan_of (Pairs pairs) = None
orphan_of (Orphan w) = Some w

-- the list of the evidence is the right one for the version: the cover list in version 2, the reached pairs in version 3
abbrev pub IsListPart : CertVersion → LocalRule → SurjectiveEvidence → Type 0
IsListPart version r (Sets sets) = (version ≡ Two) × IsCoverList r sets
IsListPart version r (Pairs pairs) = (version ≡ Three) × AreReached r pairs
IsListPart version r (Orphan w) = ⊤

-- the row has the exact rank of each pair of nodes, or None if two walks of any length have equal labels
pub record IsRankRow (r : LocalRule) (Together : ℕ → ℕ → ℕ → Type 0) (row : List (Option ℕ)) : Type 0 where
  pub each_pair : length row ≡ pair_count r
  pub ranks : (p : ℕ) → p < pair_count r
      → MatchOption (get_or row p None) (IsEndless (Together (first_of r p) (second_of r p))) (IsRank (Together (first_of r p) (second_of r p)))

-- the certificate has this version, these weights, the least evidence about the rule, the list for its version, and the exact ranks of all pairs of nodes
pub record HasWrittenParts (version : CertVersion) (r : LocalRule) (weights : List ℕ) (c : Certificate) : Type 0 where
  pub version_is : c.version ≡ version
  pub weights_are : c.weights ≡ weights
  pub least : IsLeastEvidence (slice_index weights) r
      (record { rule = c.rule; weights = c.weights; orphan = orphan_of c.surjective; injective = c.injective; right = c.right; left = c.left; conserving = c.conserving })
  pub list : IsListPart version r c.surjective
  pub forward : IsRankRow r (BeginTogether r) c.forward
  pub backward : IsRankRow r (EndTogether r) c.backward

-- the program writes the certificate c for the rule and the weights: it has the parts above, the judge accepts its text, and the text has fewer than 450,000 bytes
pub record IsWritten (version : CertVersion) (r : LocalRule) (weights : List ℕ) (c : Certificate) : Type 0 where
  pub parts : HasWrittenParts version r weights c
  pub accepted : IsAccepted (certificate_text c) (verdicts_of c)
  pub short : length (certificate_text c) < 450000
