-- The last nodes of the preimages of a word, one letter at a time.
use Rattle.std.proofs.lemmas.Grind.{common_steps}
use Rattle.std.proofs.Common.{◌≡◌, ℕ, ◌-◌, ◌<◌, List, [], ◌∷◌, ◌++◌, length, drop, refl, ap, ◌∙◌, arith}
use Rattle.std.proofs.lemmas.List.{length_push}
use Rattle.word_image.specs.LocalRules.{LocalRule, IsRule, value, word_of, node_count}
use Rattle.word_image.specs.Words.{IsPreimage}
use Rattle.word_image.specs.Graphs.{next, label}
use Rattle.word_image.specs.Ranks.{IsLastNode}
use Rattle.word_image.specs.Edges.{IsEdge}
use Rattle.word_image.specs.declared.side.Side.TheVariants.{Right}
use Rattle.word_image.proofs.laws.Values.{length-word_of, IsWord-word_of, value-word_of}
use Rattle.word_image.proofs.laws.Words.{IsLongerPreimage, IsPreimage-empty, IsPreimage-snoc, IsPreimage-push}
use Rattle.word_image.proofs.laws.Graphs.{value-node, value-next, local_map-label}

-- each node is a last node of the empty word
pub IsLastNode-empty : (r : LocalRule) (u : ℕ) → u < node_count r → IsLastNode r [] u
IsLastNode-empty r u h =
    record {
      x = word_of r.states (r.width - 1) u;
      preimage = IsPreimage-empty r _ (IsWord-word_of r.states (r.width - 1) u h) (length-word_of r.states (r.width - 1) u);
      last = value-word_of r.states (r.width - 1) u h;
    }

-- the node at the end of a preimage is a last node
pub IsLastNode-preimage : {r : LocalRule} {w x : List ℕ} → IsPreimage r w x → IsLastNode r w (value r.states (drop (length w) x))
IsLastNode-preimage {r} {w} {x} p = record { x = x; preimage = p; last = refl }

-- a last node is a node
pub IsLastNode-below : {r : LocalRule} {w : List ℕ} {u : ℕ} → IsLastNode r w u → u < node_count r
IsLastNode-below h = grind (arith, common_steps, value-node)

-- an edge with label a leads from a last node of w to a last node of w a
pub IsLastNode-push : {r : LocalRule} {w : List ℕ} {u a v : ℕ} → IsRule r → IsLastNode r w u → IsEdge Right r a u v → IsLastNode r (w ++ a ∷ []) v
IsLastNode-push {r} {w} {u} {a} rule h (b, l, (e, f)) =
    record {
      x = h.x ++ b ∷ [];
      preimage = IsPreimage-push rule h.preimage a b l (local_map-label r (drop (length w) h.x) b ∙ ap (λ n. label r n b) h.last ∙ e);
      last = ap (λ n. value r.states (drop n (h.x ++ b ∷ []))) (length_push w a) ∙ value-next rule (length w) h.x b h.preimage.word h.preimage.long l ∙ ap (λ n. next r n b) h.last ∙ f;
    }

-- the last letter of a preimage of w a goes along an edge with label a to its last node
pub last_edge : {r : LocalRule} → IsRule r → (w : List ℕ) (a : ℕ) (x : List ℕ) → (p : IsLongerPreimage r w a x) → let u = value r.states (drop (length w) p.before) in
    (label r u p.letter ≡ a) × (next r u p.letter ≡ value r.states (drop (length (w ++ a ∷ [])) x))
last_edge rule w a x p = grind (arith, local_map-label, value-next, length_push)

-- a last node of w a is reached from a last node of w by an edge with label a
pub IsLastNode-snoc : {r : LocalRule} → IsRule r → (w : List ℕ) (a v : ℕ) → IsLastNode r (w ++ a ∷ []) v
    → (u : ℕ) × (u < node_count r) × (IsLastNode r w u × IsEdge Right r a u v)
IsLastNode-snoc {r} rule w a v h =
    let p = IsPreimage-snoc rule w a h.x h.preimage in
    let at = IsLastNode-preimage p.preimage in
    let (label, leads) = last_edge rule w a h.x p in
    (value r.states (drop (length w) p.before), IsLastNode-below at, (at, (p.letter, p.within, (label, leads ∙ h.last))))
