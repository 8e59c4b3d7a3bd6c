use Rattle.std.proofs.Common.{◌≡◌, ◌↔◌, ◌++◌, length}
use Rattle.ca_commands.specs.WeightTexts.{AreWeightTexts, weights_said}
use Rattle.ca_commands.proofs.laws.WeightTexts.{IsLeft}
use Rattle.ca_commands.proofs.short_lists.weights.Given as goal

-- the text lists weights if and only if its rest does, and the weights of the rest come behind those so far
abbrev pub invariant-loop-i : goal.invariant-loop-i
invariant-loop-i l = record {
  left : AreWeightTexts l.text ↔ IsLeft l.rest l._i;
  said : weights_said l.text ≡ l.list ++ weights_said l.rest;
  many : length l.list ≡ l._i;
}
