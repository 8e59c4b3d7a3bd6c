use Rattle.std.proofs.Common.{◌≡◌, ℕ, List, ◌∷◌, map, refl, sym, ap, ap₂, ◌∙◌, subst, MatchResult}
use Rattle.ca_commands.specs.Commands.{word_of}
use Rattle.ca_commands.specs.Asking.{IsAskedBy, IsWordFault}
use Rattle.ca_commands.proofs.asking.question.Goals as goal

pub named_question-requires : goal.named_question-requires
named_question-requires g c check none =
    let words : map g.W.AsStr.text c.args.words.now ≡ word_of c.in-Some-of_word.name ∷ map g.W.AsStr.text c.in-Some.rest.now =
    ap (map g.W.AsStr.text) c.in-Some.ensures.cases.0 ∙ ap (λ w. w ∷ map g.W.AsStr.text c.in-Some.rest.now) (sym c.as_str.ensures ∙ sym c.in-Some-of_word.ensures) in
    c.requires (record { words_are = words ∙ ap₂ (λ (w : List ℕ) (ws : List (List ℕ)). w ∷ ws) (ap word_of check) (ap (map g.W.AsStr.text) none); rules = refl; operands = tt })

pub returns-in-Some-of_word : goal.returns-in-Some-of_word
returns-in-Some-of_word g c =
    let words : map g.W.AsStr.text c.args.words.now ≡ word_of c.in-Some-of_word.name ∷ map g.W.AsStr.text c.in-Some.rest.now =
    ap (map g.W.AsStr.text) c.in-Some.ensures.cases.0 ∙ ap (λ w. w ∷ map g.W.AsStr.text c.in-Some.rest.now) (sym c.as_str.ensures ∙ sym c.in-Some-of_word.ensures) in
    subst (λ ws. MatchResult c.named_question.result (IsAskedBy ws) (IsWordFault ws)) (sym words) c.named_question.ensures
