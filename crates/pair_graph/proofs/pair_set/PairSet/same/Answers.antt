use Rattle.std.proofs.Common.{◌≡◌, ◌↔◌, length, refl, Bool, true, false, IsTrue, MatchBool, ap, ap₂, sym, ◌∙◌}
use Rattle.word_image.proofs.Common.{told_text, false≢true}
use Rattle.pair_graph.specs.PairSets.{truths}
use Rattle.pair_graph.specs.PairRows.{same_rows, same_roots, length-truths}
use Rattle.pair_graph.proofs.pair_set.PairSet.same.Goals as goal

-- a told test holds exactly where what it tests does
told_exactly : (b : Bool) (P : Type 0) → MatchBool b P (¬ P) → IsTrue b ↔ P
told_exactly true P told = (λ _. told, λ _. refl)
told_exactly false P told = (λ t. absurd (false≢true t), λ p. absurd (told p))

pub returns : goal.returns
returns c =
    let rows = c.self.inside.rows in
    let others = c.other.inside.rows in
    let told = told_exactly c.eq.result (rows ≡ others) (told_text rows others c.eq.result c.eq.ensures) in
    let first = c.self.view_is in
    let second = c.other.view_is in
    let nodes = same_roots c.self.inside.nodes c.other.inside.nodes
    (sym (length-truths c.self.inside.nodes rows) ∙ ap length first ∙ c.requires ∙ sym (ap length second) ∙ length-truths c.other.inside.nodes others) in (
      (λ t. sym first ∙ ap₂ truths nodes (told.0 t) ∙ second),
      (λ same. told.1 (same_rows c.self.inside.nodes c.other.inside.nodes rows others c.self.invariant c.other.invariant (first ∙ same ∙ sym second))),
    )
