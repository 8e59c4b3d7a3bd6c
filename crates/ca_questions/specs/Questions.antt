-- The questions that commands ask. A question has rules, weights, numbers and configurations as values, not as texts.
use Rattle.std.specs.Prelude.{◌≡◌, ℕ, List, length, Option, None, Some, ℤ, All, ⊤}
use Rattle.word_image.specs.LocalRules.{LocalRule, IsRule}
use Rattle.tail_config.specs.Tails.{TailConfig}
use Rattle.cert_values.specs.declared.cert_version.CertVersion.{CertVersion}

-- a question, with one case for each kind; if it has no weights, each letter weighs its own value
pub data Question : Type 0 where
  Report : (r : LocalRule) (weights : Option (List ℕ)) → Question
  Certify : (version : CertVersion) (r : LocalRule) (weights : Option (List ℕ)) → Question
  Orphan : (r : LocalRule) → Question
  Number : (r : LocalRule) → Question
  Reflect : (r : LocalRule) → Question
  Trim : (r : LocalRule) → Question
  Shift : (r : LocalRule) (by : ℤ) → Question
  Widen : (r : LocalRule) (width : ℕ) → Question
  Permute : (r : LocalRule) (letters : List ℕ) → Question
  Compose : (r s : LocalRule) → Question
  Least : (r : LocalRule) → Question
  Lift : (r : LocalRule) → Question
  Unlift : (r : LocalRule) → Question
  Inverse : (r : LocalRule) → Question
  Language : (r : LocalRule) → Question
  Same : (r s : LocalRule) → Question
  Erase : (r : LocalRule) → Question
  Preimage : (r : LocalRule) (t : TailConfig) → Question
  Summary : (rules : List LocalRule) → Question
  Classes : (rules : List LocalRule) → Question

-- if weights are named, there is one for each letter of the rule
abbrev pub AreFor : Option (List ℕ) → LocalRule → Type 0
AreFor None r = ⊤
AreFor (Some weights) r = length weights ≡ r.states

-- the answer to the question may need memory besides a room: it has a certificate or a number of classes
abbrev pub AnswerNeedsMemory : Question → Type 0
AnswerNeedsMemory (Certify version r weights) = AreFor weights r
AnswerNeedsMemory (Classes rules) = ⊤
AnswerNeedsMemory _ = ⊥

-- each rule of the question is within the limits of rules
abbrev pub AreRules : Question → Type 0
AreRules (Report r weights) = IsRule r
AreRules (Certify version r weights) = IsRule r
AreRules (Orphan r) = IsRule r
AreRules (Number r) = IsRule r
AreRules (Reflect r) = IsRule r
AreRules (Trim r) = IsRule r
AreRules (Shift r by) = IsRule r
AreRules (Widen r width) = IsRule r
AreRules (Permute r letters) = IsRule r
AreRules (Compose r s) = IsRule r × IsRule s
AreRules (Least r) = IsRule r
AreRules (Lift r) = IsRule r
AreRules (Unlift r) = IsRule r
AreRules (Inverse r) = IsRule r
AreRules (Language r) = IsRule r
AreRules (Same r s) = IsRule r × IsRule s
AreRules (Erase r) = IsRule r
AreRules (Preimage r t) = IsRule r
AreRules (Summary rules) = All IsRule rules
AreRules (Classes rules) = All IsRule rules
