-- The program writes each letter as a hexadecimal digit, so letters must be below 16. This file defines which
-- findings, causes and replies can be written.
use Rattle.std.specs.Prelude.{◌≡◌, ◌*◌, ◌≤◌, ℕ, List, Option, length, IfSome, ⊤}
use Rattle.word_image.specs.LocalRules.{IsWord}
use Rattle.tail_config.specs.Tails.{TailConfig}
use Rattle.image_minimal.specs.ImageLanguages.{Automaton}
use Rattle.cert_values.specs.Evidence.{InjectiveEvidence, SumEvidence, Window, Twins, Flux, Ring}
use Rattle.ca_questions.specs.Findings.{Finding, Cause}
use Rattle.ca_questions.specs.Replies.{Reply}

-- if there is a word, its letters are below 16
abbrev pub HasDigits : Option (List ℕ) → Type 0
HasDigits word = IfSome word (IsWord 16)

-- if there is a pair of words, their letters are below 16
abbrev pub HavePairDigits : Option (List ℕ × List ℕ) → Type 0
HavePairDigits pair = IfSome pair (λ p. IsWord 16 p.0 × IsWord 16 p.1)

-- if the evidence is twins, which are two words, their letters are below 16
abbrev pub HasTwinDigits : InjectiveEvidence → Type 0
HasTwinDigits (Window n c) = ⊤
HasTwinDigits (Twins x y) = IsWord 16 x × IsWord 16 y

-- if the evidence is a ring, its letters are below 16
abbrev pub HasRingDigits : SumEvidence → Type 0
HasRingDigits (Flux phi) = ⊤
HasRingDigits (Ring p) = IsWord 16 p

-- the letters of the three parts of the configuration are below 16
abbrev pub HasTailDigits : TailConfig → Type 0
HasTailDigits t = IsWord 16 t.left × IsWord 16 t.middle × IsWord 16 t.right

-- the automaton has from 1 to 16 letters, and a next class for each class and each letter
pub record HasRows (m : Automaton) : Type 0 where
  pub some : 1 ≤ m.states
  pub most : m.states ≤ 16
  pub long : length m.next ≡ m.classes * m.states

-- the finding can be written: the letters of its words are below 16, and its automaton has all its rows
abbrev pub IsWritable : Finding → Type 0
IsWritable (Finding.Report e) = HasDigits e.orphan × HasTwinDigits e.injective × HasRingDigits e.conserving
IsWritable (Finding.Orphan orphan) = HasDigits orphan
IsWritable (Finding.Language m) = HasRows m
IsWritable (Finding.Same word) = HasDigits word
IsWritable (Finding.Erased pair) = HavePairDigits pair
IsWritable (Finding.Preimage p) = HasTailDigits p.config
IsWritable (Finding.Gap before after w) = IsWord 16 w
IsWritable _ = ⊤

-- the cause can be written: if it is twins, their letters are below 16
abbrev pub IsWritableCause : Cause → Type 0
IsWritableCause (Cause.Twins x y) = IsWord 16 x × IsWord 16 y
IsWritableCause _ = ⊤

-- the reply can be written: its finding or its cause can be written, if it has one
abbrev pub IsWritableReply : Reply → Type 0
IsWritableReply (Reply.Found f) = IsWritable f
IsWritableReply (Reply.NotFit u) = IsWritableCause u
IsWritableReply _ = ⊤
