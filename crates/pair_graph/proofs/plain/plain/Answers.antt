use Rattle.std.proofs.Common.{length, sym, ◌∙◌, ap, arith, ⊎_elim}
use Rattle.word_image.proofs.Common.{cases_eq, false≢true}
use Rattle.pair_graph.proofs.plain.plain.Goals as goal
use Rattle.pair_graph.proofs.plain.plain.Goals.{then-not-leads_into, else-not-leads_into}

pub loop-p-preserved : goal.loop-p-preserved
loop-p-preserved c =
    let p = c.loop-p.p in
    let h = c.loop-p.invariant in
    elim c.if-not-leads_into.branch [
      | then-not-leads_into w ↦
          record {
            count = ap length w.kept-is ∙ w.remove.ensures.count ∙ h.count;
            pairs = λ q inside.
                let exact = w.remove.ensures.pairs q (omega (arith, inside, h.count)) in
                let before = h.pairs q inside in
                rw w.kept-is (
                  (λ t. let (there, other) = exact.0 t in let (first, into) = before.0 there in (first, (λ less. into (omega (arith, less, other))))),
                  (λ (first, into). exact.1 (
                    before.1 (first, (λ less. into (omega arith))),
                    (λ same. false≢true (sym w.if-not-leads_into.true ∙ c.leads_into.ensures.1 (rw same at (into (omega (arith, same)))))),
                  )),
                );
          }
      | else-not-leads_into w ↦
          record {
            count = ap length w.kept-is ∙ h.count;
            pairs = λ q inside.
                let before = h.pairs q inside in
                rw w.kept-is (
                  (λ t. let (first, into) = before.0 t in
                      (first, λ less. ⊎_elim (λ same. rw same (c.leads_into.ensures.0 w.if-not-leads_into.false)) (λ other. into (omega (arith, less, other))) (cases_eq q p))),
                  (λ (first, into). before.1 (first, (λ less. into (omega arith)))),
                );
          }
    ]
