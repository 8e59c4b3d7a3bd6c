use Rattle.std.proofs.Common.{ℕ, ◌+◌, ◌-◌, ◌*◌, ◌<◌, List, get_or, drop, refl, ap, ◌∙◌, arith}
use Rattle.std.proofs.lemmas.List.{get_or-take, get_or-drop}
use Rattle.ca_questions.proofs.Common.{automaton_of}
use Rattle.ca_text.proofs.languages.write_class.Goals as goal

pub returns-clause-appended : goal.returns-clause-appended
returns-clause-appended c =
    let k : ℕ = c.from-k.result in
    let next : List ℕ = c.args.automaton.now.next.now in
    let first : ℕ = c.args.class * k in
    let same = c.from-k.ensures in
    c.write_row.ensures.appended (automaton_of c.args.automaton.now) c.args.class refl (λ l below.
    let within : l < first + k - first = omega (arith, below, same) in
    get_or-take (first + k - first) (drop first next) l 0 within ∙ get_or-drop first next l 0
    ∙ ap (λ (n : ℕ). get_or next (c.args.class * n + l) 0) same)
