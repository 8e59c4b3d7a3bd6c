-- A certificate has evidence for each verdict about a rule of width m, a weight for each letter, and claims. A claim
-- is an upper bound of the rank of a pair of nodes, or None. The forward rank of a pair is the greatest length of two
-- walks with equal labels that begin at its nodes. The backward rank is the same for two walks that end at its nodes.
-- This file defines the limits of each part.
use Rattle.std.specs.Prelude.{◌≡◌, ℕ, ◌+◌, ◌-◌, ◌^◌, ◌<◌, ◌≤◌, List, length, Option, Some, None, All, pos, negsuc, ◌≤ℤ◌, ⊤, true, ℤ}
use Rattle.word_image.specs.LocalRules.{LocalRule, IsWord, node_count}
use Rattle.word_image.specs.Graphs.{pair_count}
use Rattle.tail_config.specs.TailTexts.{IsShortTail}
use Rattle.cert_values.specs.declared.cert_version.CertVersion.{CertVersion}
use Rattle.cert_values.specs.Versions.{lists_pairs}
use Rattle.cert_values.specs.Evidence.{SurjectiveEvidence, InjectiveEvidence, SideEvidence, SumEvidence, Sets, Pairs, Orphan, Window, Twins, Ahead, Split, Flux, Ring}

-- a certificate: a version, a rule, evidence on five properties, a weight for each letter, and for each pair of nodes a forward claim and a backward claim
pub record Certificate : Type 0 where
  pub version : CertVersion
  pub rule : LocalRule
  pub surjective : SurjectiveEvidence
  pub injective : InjectiveEvidence
  pub right : SideEvidence
  pub left : SideEvidence
  pub conserving : SumEvidence
  pub weights : List ℕ
  pub forward : List (Option ℕ)
  pub backward : List (Option ℕ)

-- The limits of each part of a certificate, which depend on its rule

-- the evidence on surjectivity is within its limits: sets of nodes of the rule, or pairs of nodes if the version may list pairs, or a word
abbrev pub IsSurjectiveShape : CertVersion → LocalRule → SurjectiveEvidence → Type 0
IsSurjectiveShape version r (Sets sets) = All (λ set. set ≤ 2 ^ node_count r - 1) sets
IsSurjectiveShape version r (Pairs pairs) = (lists_pairs version ≡ true) × All (λ p. p < pair_count r) pairs
IsSurjectiveShape version r (Orphan w) = IsWord r.states w

-- the evidence on injectivity is within its limits: a window of n letters of an image and a place c of their preimages, both at most 65,535, or two words
abbrev pub IsInjectiveShape : LocalRule → InjectiveEvidence → Type 0
IsInjectiveShape r (Window n c) = (1 ≤ n) × (n ≤ 65535) × (c ≤ n + r.width - 2) × (c ≤ 65535)
IsInjectiveShape r (Twins x y) = IsWord r.states x × IsWord r.states y

-- the evidence on closing on a side is within its limits: a look-ahead from 1 to 65,535, or two configurations with at most 1,024 letters in each part
abbrev pub IsSideShape : LocalRule → SideEvidence → Type 0
IsSideShape r (Ahead n) = (1 ≤ n) × (n ≤ 65535)
IsSideShape r (Split x y) = IsShortTail r.states x × IsShortTail r.states y

-- z is from -1,000,000 to 1,000,000
abbrev pub IsNear : ℤ → Type 0
IsNear z = (negsuc 999999 ≤ℤ z) × (z ≤ℤ pos 1000000)

-- the evidence on conservation is within its limits: a number from -1,000,000 to 1,000,000 for each node, or a word
abbrev pub IsSumShape : LocalRule → SumEvidence → Type 0
IsSumShape r (Flux phi) = (length phi ≡ node_count r) × All IsNear phi
IsSumShape r (Ring p) = IsWord r.states p

-- the claim is None, which claims nothing, or a number from 0 to 65,535
abbrev pub IsClaim : Option ℕ → Type 0
IsClaim None = ⊤
IsClaim (Some n) = n ≤ 65535

-- the list has a claim for each pair of nodes
pub record IsRankShape (r : LocalRule) (row : List (Option ℕ)) : Type 0 where
  pub each_pair : length row ≡ pair_count r
  pub claims : All IsClaim row
