use Rattle.std.proofs.Common.{◌≡◌, ◌≢◌, ℕ, suc, ◌+◌, ◌*◌, ◌%◌, ◌<◌, ◌≤◌, sym, ap, ◌∙◌, ⊎_elim, arith, mod-lt, mod-eq_of_lt}
use Rattle.word_image.proofs.Common.{mod_self, suc-mod, cases_eq, cases_lt}
use Rattle.inverse_table.proofs.ImageLaws.{row_below}
use Rattle.inverse_table.proofs.cycles.next_row.Goals as goal

-- where a row is within, there are rows
some_rows : (row rows place : ℕ) → 0 < row → place + row ≤ rows * row → 0 < rows
some_rows row rows place some inside = ⊎_elim (λ l. l) (λ l. let none : rows ≡ 0 = omega arith in let empty : rows * row ≡ 0 * row = ap (λ n. n * row) none in absurd (omega arith)) (cases_lt 0 rows)

-- the number behind j, where numbers come round
next_mod : (j rows : ℕ) → (j + 1) % rows ≡ (j % rows + 1) % rows
next_mod j rows = let e : j + 1 ≡ suc j = omega arith in let f : suc (j % rows) ≡ j % rows + 1 = omega arith in ap (λ n. n % rows) e ∙ suc-mod j rows ∙ ap (λ n. n % rows) f

-- behind the last row the first one comes
after_last : (row rows j : ℕ) → 0 < row → 0 < rows → j % rows * row + row ≡ rows * row → 0 ≡ (j + 1) % rows * row
after_last row rows j some few end =
    let last : j % rows + 1 ≡ rows = grind (arith, row_below, cases_lt) in
    let zero : 0 ≡ 0 * row = omega arith in
    zero ∙ sym (ap (λ n. n * row) (next_mod j rows ∙ ap (λ n. n % rows) last ∙ mod_self rows))

-- behind another row the next one comes
after_other : (row rows j : ℕ) → 0 < rows → j % rows * row + row ≢ rows * row → j % rows * row + row ≡ (j + 1) % rows * row
after_other row rows j few other =
    let below : j % rows < rows = mod-lt j few in
    let within : j % rows + 1 < rows = ⊎_elim (λ last. let end : (j % rows + 1) * row ≡ rows * row = ap (λ n. n * row) last in absurd (other (omega arith))) (λ apart. omega (arith, apart)) (cases_eq (j % rows + 1) rows) in
    let next : (j % rows + 1) * row ≡ (j + 1) % rows * row = ap (λ n. n * row) (sym (next_mod j rows ∙ mod-eq_of_lt within)) in
    omega arith

pub returns-then-place-row : goal.returns-then-place-row
returns-then-place-row c = grind (arith, some_rows, after_last)

pub returns : goal.returns
returns c = grind (arith, some_rows, after_other)
