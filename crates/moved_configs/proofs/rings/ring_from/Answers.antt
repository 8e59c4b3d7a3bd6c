use Rattle.std.proofs.Common.{◌≡◌, ℕ, ◌+◌, ◌-◌, [], ◌∷◌, ◌++◌, take, set, slice_index, sym, ap, ◌∙◌, subst, arith, length-set, ⊎_elim}
use Rattle.std.proofs.lemmas.List.{append_assoc}
use Rattle.word_image.proofs.Common.{end_node, next, next-below, cases_eq, take_more_set}
use Rattle.word_image.specs.declared.side.Side.TheVariants.{Right}
use Rattle.moved_configs.specs.MovedRings.{LeadsTo, Reads, IsLeastReading}
use Rattle.moved_configs.proofs.Greedy.{LeadsTo-more, IsLeastReading-more, ReadsNone-empty}
use Rattle.moved_configs.proofs.rings.ring_from.Goals as goal

pub returns-then-rows-from-eq0-clause-none : goal.returns-then-rows-from-eq0-clause-none
returns-then-rows-from-eq0-clause-none c =
    ReadsNone-empty c.args.rule.now c.args.rows.now c.args.start c.args.count c.requires.some (ap (slice_index c.args.rows.now) (sym c.from.ensures) ∙ c.if-rows-from-eq0.true)

pub returns-in_default-clause-none : goal.returns-in_default-clause-none
returns-in_default-clause-none c q long reads =
    let r = c.args.rule.now in
    let rows = c.args.rows.now in
    let start = c.args.start in
    let node = c.loop-place.node in
    let n : ℕ = c.args.count - 1 - c.loop-place.place in
    let h = c.loop-place.invariant in
    let more : c.args.count - c.loop-place.place ≡ n + 1 = omega arith in
    let leads : LeadsTo r rows (c.args.count - c.loop-place.place) start node =
    ⊎_elim (λ zero. (q, omega arith, subst (λ u. Reads r rows u q start) (sym (h.starts zero)) reads)) (λ some. h.leads (omega arith)) (cases_eq c.loop-place.place 0) in
    c.in_default.ensures.none ((LeadsTo-more r rows n start c.sources-goals.result c.keeps_limits.ensures c.sources-goals.ensures node).1 (subst (λ j. LeadsTo r rows j start node) more leads))

pub loop-place-preserved : goal.loop-place-preserved
loop-place-preserved c =
    let r = c.args.rule.now in
    let rows = c.args.rows.now in
    let start = c.args.start in
    let node = c.loop-place.node in
    let place = c.loop-place.place in
    let letters = c.loop-place.letters in
    let a = c.in-Some.letter in
    let n : ℕ = c.args.count - 1 - place in
    let h = c.loop-place.invariant in
    let rule = c.keeps_limits.ensures in
    let least = c.in-Some.ensures.least in
    let end : c.end_node-node.result ≡ next r node a = c.end_node-node.ensures.value ∙ ap (end_node Right r) c.window_with.ensures.value in
    let same : n ≡ c.args.count - (place + 1) = omega arith in
    let on : LeadsTo r rows n start (next r node a) = (c.sources-goals.ensures.nodes (next r node a) (next-below rule node a)).0 least.leads.0 in
    record {
      long = length-set letters c.from-in-loop-place.result a ∙ h.long;
      node = c.end_node-node.ensures.node;
      starts = λ e. absurd (omega (arith, e));
      leads = λ l. subst (λ j. LeadsTo r rows j start c.end_node-node.result) same (subst (LeadsTo r rows n start) (sym end) on);
      whole = λ d long first.
          let all = h.whole (a ∷ d) (omega (arith, long)) (IsLeastReading-more r rows n node start c.sources-goals.result a d rule c.sources-goals.ensures least (omega (arith, long)) (subst (λ u. IsLeastReading r rows u start d) end first)) in
          let words : take (place + 1) (set letters c.from-in-loop-place.result a) ++ d ≡ take place letters ++ a ∷ d =
          ap (λ j. take (place + 1) (set letters j a) ++ d) c.from-in-loop-place.ensures
          ∙ ap (λ w. w ++ d) (take_more_set letters place a (omega (arith, h.long)))
          ∙ append_assoc (take place letters) (a ∷ []) d in
          subst (IsLeastReading r rows start start) (sym words) all;
    }
