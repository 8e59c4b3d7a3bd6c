use Rattle.std.proofs.Common.{◌≡◌, [], ◌∷◌, ◌++◌, take, get_or, Some, unwrap_or, sym, ap, ap₂, ◌∙◌, ℕ, List}
use Rattle.word_image.proofs.Common.{All-push, IsHexDigit, hex_value, letter_at, map_push, none-some, take_more}
use Rattle.ca_commands.proofs.short_lists.colours.Goals as goal

pub loop-digit-preserved : goal.loop-digit-preserved
loop-digit-preserved c =
    let text = c.args.text.now in
    let i = c.loop-digit.digit-index in
    let sofar = c.loop-digit.invariant in
    let hex : hex_value (get_or text i 0) ≡ Some c.in_ok-letter.field-0 = sym c.letter.ensures ∙ c.in_ok-letter.was in
    record {
      said = rw (take_more text i 0 c.loop-digit-test.true, map_push letter_at (take i text) (get_or text i 0))
          (c.push.ensures ∙ ap₂ (λ (list : List ℕ) (a : ℕ). list ++ a ∷ []) sofar.said (sym (ap (λ o. unwrap_or o 0) hex)));
      digits = rw (take_more text i 0 c.loop-digit-test.true) (All-push IsHexDigit (take i text) (get_or text i 0) sofar.digits (λ none. none-some _ (sym none ∙ hex)));
      some = sofar.some;
      most = sofar.most;
    }
