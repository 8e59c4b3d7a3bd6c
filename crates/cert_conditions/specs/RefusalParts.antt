-- A refusal is the reason why the judge doesn't accept bytes as a certificate. Its parts are words and numbers, which
-- the program shows as a line of text or as JSON.
use Rattle.std.specs.Prelude.{ℕ, List, [], codes, Option, Some, None}
use Rattle.std.specs.Option.{option_map}
use Rattle.word_image.specs.declared.side.Side.{Side}
use Rattle.word_image.specs.declared.side.Side.TheVariants as side
use Rattle.rule_text.specs.FaultTexts.{fault_name, fault_place}
use Rattle.cert_values.specs.declared.shape_fault.ShapeFault.{ShapeFault}
use Rattle.cert_values.specs.declared.shape_fault.ShapeFault.TheVariants as shape
use Rattle.cert_values.specs.declared.shape_fault.Key.{Key}
use Rattle.cert_values.specs.declared.shape_fault.Key.TheVariants as key
use Rattle.cert_conditions.specs.declared.refusal.TwinCause.{TwinCause}
use Rattle.cert_conditions.specs.declared.refusal.TwinCause.TheVariants as twin
use Rattle.cert_conditions.specs.declared.refusal.SplitCause.{SplitCause}
use Rattle.cert_conditions.specs.declared.refusal.SplitCause.TheVariants as split
use Rattle.cert_conditions.specs.declared.refusal.Refusal.{Refusal}
use Rattle.cert_conditions.specs.declared.refusal.Refusal.TheVariants as refusal
use Rattle.cert_conditions.specs.declared.refusal_parts.RefusalNumbers.{RefusalNumbers}
use Rattle.cert_conditions.specs.declared.refusal_parts.RefusalNumbers.TheVariants as numbers
use Rattle.cert_conditions.specs.declared.refusal_parts.RefusalParts.{RefusalParts}

-- the word for a part of a certificate, which says which part is wrong
abbrev pub key_text : Key → List ℕ
key_text key.Top = codes "top"
key_text key.Version = codes "version"
key_text key.Rule = codes "rule"
key_text key.Surjective = codes "surjective"
key_text key.Injective = codes "injective"
key_text key.Right = codes "right"
key_text key.Left = codes "left"
key_text key.Conserving = codes "conserving"
key_text key.Weights = codes "weights"
key_text key.Ranks = codes "ranks"
key_text key.Unknown = codes "unknown"

-- the word for a side
abbrev pub side_text : Side → List ℕ
side_text side.Right = codes "right"
side_text side.Left = codes "left"

-- the word for the reason why two words aren't twins
abbrev pub twin_text : TwinCause → List ℕ
twin_text twin.Length = codes "length"
twin_text twin.Same = codes "same"
twin_text twin.Image = codes "image"

-- the word for the reason why two configurations aren't a split
abbrev pub split_text : SplitCause → List ℕ
split_text split.Same = codes "same"
split_text split.Apart = codes "apart"
split_text split.Image = codes "image"

-- the parts of a refusal: a cause, optionally a side, a reason, a key and a fault of the rule's text, and numbers
pub record SaidParts : Type 0 where
  pub cause : List ℕ
  pub side : Option (List ℕ)
  pub because : Option (List ℕ)
  pub key : Option (List ℕ)
  pub fault : Option (List ℕ)
  pub numbers : RefusalNumbers

-- the parts of a refusal with this cause and these numbers, and without any other part
abbrev pub bare_parts : List ℕ → RefusalNumbers → SaidParts
bare_parts cause ns = record { cause = cause; side = None; because = None; key = None; fault = None; numbers = ns }

-- the parts p with the side s in addition
abbrev pub add_side : Side → SaidParts → SaidParts
add_side s p = record { cause = p.cause; side = Some (side_text s); because = p.because; key = p.key; fault = p.fault; numbers = p.numbers }

-- the parts p with the reason `why` in addition
abbrev pub add_reason : List ℕ → SaidParts → SaidParts
add_reason why p = record { cause = p.cause; side = p.side; because = Some why; key = p.key; fault = p.fault; numbers = p.numbers }

-- the numbers of a refusal that names a fault: the place of the fault, or no number if the fault has no place
abbrev pub place_number : Option ℕ → RefusalNumbers
place_number None = numbers.None
place_number (Some place) = numbers.One place

-- the parts of a refusal with the cause `format`, by the first fault of the text
abbrev pub shape_parts : ShapeFault → SaidParts
shape_parts shape.NotJson = add_reason (codes "notjson") (bare_parts (codes "format") numbers.None)
shape_parts (shape.Version v) = add_reason (codes "version") (bare_parts (codes "format") (numbers.One v))
shape_parts (shape.Shape k) = record { cause = codes "format"; side = None; because = Some (codes "shape"); key = Some (key_text k); fault = None; numbers = numbers.None }
shape_parts (shape.Rule f) = record { cause = codes "format"; side = None; because = Some (codes "rule"); key = None; fault = Some (fault_name f); numbers = place_number (fault_place f) }

-- the parts of a refusal; if there is no memory, which isn't a refusal, the cause is empty
abbrev pub parts_of : Refusal → SaidParts
parts_of (refusal.Format f) = shape_parts f
parts_of (refusal.Rank s p) = add_side s (bare_parts (codes "rank") (numbers.One p))
parts_of refusal.NoFull = bare_parts (codes "nofull") numbers.None
parts_of (refusal.EmptySet i) = bare_parts (codes "emptyset") (numbers.One i)
parts_of (refusal.NotClosed i a) = bare_parts (codes "notclosed") (numbers.Two i a)
parts_of (refusal.NoFirst p) = bare_parts (codes "nofirst") (numbers.One p)
parts_of (refusal.Diagonal i) = bare_parts (codes "diagonal") (numbers.One i)
parts_of (refusal.Leaves i a b) = bare_parts (codes "leaves") (numbers.Three i a b)
parts_of refusal.Orphan = bare_parts (codes "orphan") numbers.None
parts_of (refusal.Window p) = bare_parts (codes "window") (numbers.One p)
parts_of (refusal.Twins cause) = add_reason (twin_text cause) (bare_parts (codes "twins") numbers.None)
parts_of (refusal.Ahead s p) = add_side s (bare_parts (codes "ahead") (numbers.One p))
parts_of (refusal.Split s cause) = add_reason (split_text cause) (add_side s (bare_parts (codes "split") numbers.None))
parts_of (refusal.Flux w) = bare_parts (codes "flux") (numbers.One w)
parts_of refusal.Ring = bare_parts (codes "ring") numbers.None
parts_of (refusal.Memory _) = bare_parts [] numbers.None

-- the parts of a refusal for which a value of the type RefusalParts of the code stands
abbrev pub said_in : RefusalParts → SaidParts
said_in p = record {
  cause = p.cause.now;
  side = option_map (λ s. s.now) p.side;
  because = option_map (λ s. s.now) p.because;
  key = option_map (λ s. s.now) p.key;
  fault = option_map (λ s. s.now) p.fault;
  numbers = p.numbers;
}
