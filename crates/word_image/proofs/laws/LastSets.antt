-- Sets of last nodes, step by step, and what they say of preimages.
use Rattle.std.proofs.Common.{◌≡◌, ℕ, ◌<◌, List, [], ◌∷◌, ◌++◌, length, drop, arith, IsBitSet, pow_pos}
use Rattle.std.proofs.lemmas.Nat.Bits.{bit_at_ones}
use Rattle.std.proofs.lemmas.List.Elements.{All-push}
use Rattle.word_image.specs.LocalRules.{LocalRule, IsRule, value, node_count}
use Rattle.word_image.specs.Words.{IsPreimage, IsOrphan, IsSurjective}
use Rattle.word_image.specs.Graphs.{full_set}
use Rattle.word_image.specs.Edges.{IsStep}
use Rattle.word_image.specs.Ranks.{IsLastNode, IsLastSet}
use Rattle.word_image.proofs.laws.Bits.{bit_at-IsBitSet, IsBitSet-some, IsBitSet-zero}
use Rattle.word_image.proofs.laws.LastNodes.{IsLastNode-empty, IsLastNode-preimage, IsLastNode-below, IsLastNode-push, IsLastNode-snoc}

-- the set of all nodes has each
pub IsBitSet-full : (r : LocalRule) (u : ℕ) → u < node_count r → IsBitSet (full_set r) u
IsBitSet-full r u l = (bit_at-IsBitSet (full_set r) u).1 (bit_at_ones (node_count r) u l)

-- every node is a last node of the empty word
pub IsLastSet-full : (r : LocalRule) → IsLastSet r [] (full_set r)
IsLastSet-full r = grind (arith, pow_pos, IsLastNode-empty, IsBitSet-full)

-- a step leads from the last nodes of w to those of w a
pub IsLastSet-step : {r : LocalRule} {w : List ℕ} {set a after : ℕ} → IsRule r → IsLastSet r w set → a < r.states → IsStep r set a after
    → IsLastSet r (w ++ a ∷ []) after
IsLastSet-step {r} {w} {set} {a} rule h l s =
    record {
      word = All-push (λ b. b < r.states) w a h.word l;
      last = record {
        within = s.within;
        nodes = λ v below. (
          (λ bit. let (u, node, (present, edge)) = (s.nodes v below).0 bit in IsLastNode-push rule ((h.last.nodes u node).0 present) edge),
          (λ last. let (u, node, (before, edge)) = IsLastNode-snoc rule w a v last in (s.nodes v below).1 (u, node, ((h.last.nodes u node).1 before, edge))),
        );
      };
    }

-- a word with no last node is an orphan
pub IsOrphan-empty_set : {r : LocalRule} {w : List ℕ} → IsLastSet r w 0 → IsOrphan r w
IsOrphan-empty_set {r} {w} h =
    record {
      word = h.word;
      none = λ x p.
          let u : ℕ = value r.states (drop (length w) x) in
          let last = IsLastNode-preimage p in
          IsBitSet-zero u ((h.last.nodes u (IsLastNode-below last)).1 last);
    }

-- a word whose set of last nodes is not empty has a preimage
pub IsPreimage-nonempty_set : {r : LocalRule} {w : List ℕ} {set : ℕ} → IsLastSet r w set → ¬ (set ≡ 0) → (x : List ℕ) × IsPreimage r w x
IsPreimage-nonempty_set {r} {w} {set} h some =
    let bit = IsBitSet-some (node_count r) set h.last.within some in
    let last : IsLastNode r w bit.0 = (h.last.nodes bit.0 bit.1).0 bit.2 in
    (last.x, last.preimage)

-- a rule with an orphan isn't surjective
pub IsOrphan-not_surjective : {r : LocalRule} {w : List ℕ} → IsOrphan r w → ¬ IsSurjective r
IsOrphan-not_surjective {r} {w} orphan every = let preimage = every w orphan.word in orphan.none preimage.0 preimage.1
