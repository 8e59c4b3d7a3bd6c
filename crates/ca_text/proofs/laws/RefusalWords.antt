-- How long the words of a refusal are.
use Rattle.std.proofs.Common.{ℕ, ◌≤◌, arith}
use Rattle.rule_text.specs.declared.text_fault.TextFault.{TextFault}
use Rattle.rule_text.specs.declared.text_fault.TextFault.TheVariants as fault
use Rattle.cert_values.specs.declared.shape_fault.ShapeFault.TheVariants as shape
use Rattle.cert_values.specs.declared.shape_fault.Key.{Key}
use Rattle.cert_values.specs.declared.shape_fault.Key.TheVariants as key
use Rattle.word_image.specs.declared.side.Side.{Side}
use Rattle.word_image.specs.declared.side.Side.TheVariants as side
use Rattle.cert_conditions.specs.declared.refusal.TwinCause.TheVariants as twin
use Rattle.cert_conditions.specs.declared.refusal.SplitCause.{SplitCause}
use Rattle.cert_conditions.specs.declared.refusal.SplitCause.TheVariants as split
use Rattle.cert_conditions.specs.declared.refusal.Refusal.{Refusal}
use Rattle.cert_conditions.specs.declared.refusal.Refusal.TheVariants as refusal
use Rattle.cert_conditions.specs.RefusalParts.{add_reason, add_side, bare_parts, parts_of, shape_parts, split_text}
use Rattle.ca_text.specs.StatusLines.{words_length}

-- a refusal has at most 60 bytes of words
pub words_length-parts : (f : Refusal) → words_length (parts_of f) ≤ 60
words_length-parts (refusal.Format shape.NotJson) = omega arith
words_length-parts (refusal.Format (shape.Version v)) = omega arith
words_length-parts (refusal.Format (shape.Shape key.Top)) = omega arith
words_length-parts (refusal.Format (shape.Shape key.Version)) = omega arith
words_length-parts (refusal.Format (shape.Shape key.Rule)) = omega arith
words_length-parts (refusal.Format (shape.Shape key.Surjective)) = omega arith
words_length-parts (refusal.Format (shape.Shape key.Injective)) = omega arith
words_length-parts (refusal.Format (shape.Shape key.Right)) = omega arith
words_length-parts (refusal.Format (shape.Shape key.Left)) = omega arith
words_length-parts (refusal.Format (shape.Shape key.Conserving)) = omega arith
words_length-parts (refusal.Format (shape.Shape key.Weights)) = omega arith
words_length-parts (refusal.Format (shape.Shape key.Ranks)) = omega arith
words_length-parts (refusal.Format (shape.Shape key.Unknown)) = omega arith
words_length-parts (refusal.Format (shape.Rule (fault.Form place))) = omega arith
words_length-parts (refusal.Format (shape.Rule fault.States)) = omega arith
words_length-parts (refusal.Format (shape.Rule fault.Width)) = omega arith
words_length-parts (refusal.Format (shape.Rule fault.Nodes)) = omega arith
words_length-parts (refusal.Format (shape.Rule fault.Offset)) = omega arith
words_length-parts (refusal.Format (shape.Rule fault.Kind)) = omega arith
words_length-parts (refusal.Format (shape.Rule fault.Length)) = omega arith
words_length-parts (refusal.Format (shape.Rule (fault.Letter place))) = omega arith
words_length-parts (refusal.Format (shape.Rule fault.Number)) = omega arith
words_length-parts (refusal.Rank side.Right p) = omega arith
words_length-parts (refusal.Ahead side.Right p) = omega arith
words_length-parts (refusal.Split side.Right split.Same) = omega arith
words_length-parts (refusal.Split side.Right split.Apart) = omega arith
words_length-parts (refusal.Split side.Right split.Image) = omega arith
words_length-parts (refusal.Rank side.Left p) = omega arith
words_length-parts (refusal.Ahead side.Left p) = omega arith
words_length-parts (refusal.Split side.Left split.Same) = omega arith
words_length-parts (refusal.Split side.Left split.Apart) = omega arith
words_length-parts (refusal.Split side.Left split.Image) = omega arith
words_length-parts (refusal.Twins twin.Length) = omega arith
words_length-parts (refusal.Twins twin.Same) = omega arith
words_length-parts (refusal.Twins twin.Image) = omega arith
words_length-parts refusal.NoFull = omega arith
words_length-parts (refusal.EmptySet i) = omega arith
words_length-parts (refusal.NotClosed i a) = omega arith
words_length-parts (refusal.NoFirst p) = omega arith
words_length-parts (refusal.Diagonal i) = omega arith
words_length-parts (refusal.Leaves i a b) = omega arith
words_length-parts refusal.Orphan = omega arith
words_length-parts (refusal.Window p) = omega arith
words_length-parts (refusal.Flux w) = omega arith
words_length-parts refusal.Ring = omega arith
words_length-parts (refusal.Memory _) = omega arith
