use Rattle.std.proofs.Common.{◌≡◌, ℕ, ◌+◌, ◌-◌, ◌≤◌, List, [], ◌∷◌, ◌++◌, length, length-drop, drop, take, sym, subst, ap, ap₂, ◌∙◌, arith, add-one, append_assoc, codes, flat_map, decimal}
use Rattle.word_image.proofs.Common.{range_with_len, drop-set}
use Rattle.std.proofs.lemmas.List.{take_all}
use Rattle.image_minimal.specs.ImageLanguages.{Automaton}
use Rattle.ca_text.specs.Lines.{after_class, class_line}
use Rattle.ca_text.specs.Rooms.{IsAppended}
use Rattle.ca_text.proofs.laws.Appended.{AppendsAtMost-appended}
use Rattle.ca_text.proofs.languages.write_row.Goals as goal

-- what is written for a letter
abbrev next_text : Automaton → ℕ → ℕ → List ℕ
next_text m i l = codes " " ++ decimal (after_class m i l)

-- what is written for one letter more, before the others
flat_map-before : (f : ℕ → List ℕ) (a n j k : ℕ) → j + 1 ≡ a → k ≡ n + 1 → flat_map f (range_with_len j k) ≡ f j ++ flat_map f (range_with_len a n)
flat_map-before f a n j k next more =
    ap (λ x. flat_map f (range_with_len j x)) (more ∙ add-one n) ∙ ap (λ x. f j ++ flat_map f (range_with_len x n)) next

pub loop-letter-preserved : goal.loop-letter-preserved
loop-letter-preserved c =
    let k : ℕ = c.args.k in
    let letter : ℕ = c.loop-letter.letter in
    let place : ℕ = c.write_short-first.result in
    let bytes = c.write_short-first.new.bytes in
    let some : 1 ≤ place = omega (arith, c.write_short-first.ensures.few.1, c.loop-letter.invariant.room, c.loop-letter-test.true, c.write_short-first.ensures.first) in
    let back : place - 1 + 1 ≡ place = omega (arith, some) in
    let next : letter - 1 + 1 ≡ letter = omega (arith, c.loop-letter-test.true) in
    let more : k - (letter - 1) ≡ k - letter + 1 = omega (arith, next, c.loop-letter.auto.letter) in
    record {
      some = omega (arith, c.loop-letter-test.true, next);
      room = omega (arith, c.write_short-first.ensures.few.1, c.loop-letter.invariant.room, c.write_short-first.ensures.first, some, next);
      within = omega (arith, c.loop-letter.invariant.within, c.write_short-first.ensures.first);
      written = λ a i states row.
          let number = row (letter - 1) (omega (arith, next, c.loop-letter.auto.letter)) in
          let others = flat_map (next_text a i) (range_with_len letter (k - letter)) in
          drop-set bytes (place - 1) 32 (omega arith) ∙ ap (λ n. 32 ∷ drop n bytes) back
          ∙ ap (λ (x : List ℕ). 32 ∷ x) (c.write_short-first.ensures.digits ∙ ap₂ (λ (n : ℕ) (x : List ℕ). decimal n ++ x) number (c.loop-letter.invariant.written a i states row)
          ∙ sym (append_assoc (decimal (after_class a i (letter - 1))) others (10 ∷ [])))
          ∙ ap (λ (x : List ℕ). x ++ 10 ∷ []) (sym (flat_map-before (next_text a i) letter (k - letter) (letter - 1) (k - (letter - 1)) next more));
    }

-- the bytes that are pushed are those from the first digit on
whole : (n place : ℕ) (bytes : List ℕ) → length bytes ≡ n → take (n - place) (drop place bytes) ≡ drop place bytes
whole n place bytes long = take_all (n - place) (drop place bytes) (omega (arith, length-drop place bytes, long))

pub returns-clause-appended : goal.returns-clause-appended
returns-clause-appended c a i states row =
    let k : ℕ = c.args.k in
    let letter : ℕ = c.loop-letter.letter in
    let first : letter ≡ 1 = omega (arith, c.loop-letter-test.false, c.loop-letter.invariant.some) in
    let number = row 0 c.requires.some in
    let others = λ (l n : ℕ). flat_map (next_text a i) (range_with_len l n) in
    let all : k - letter ≡ a.states - 1 = omega (arith, first, states) in
    let place : ℕ = c.write_short-first-2.result in
    let bytes = c.write_short-first-2.new.bytes in
    let pushed : take (96 - place) (drop place bytes) ≡ class_line a i = whole 96 place bytes (omega (arith, c.write_short-first-2.auto.bytes)) ∙ c.write_short-first-2.ensures.digits
    ∙ ap₂ (λ (n : ℕ) (x : List ℕ). decimal n ++ x) number (c.loop-letter.invariant.written a i states row ∙ ap₂ (λ (l n : ℕ). others l n ++ 10 ∷ []) first all)
    ∙ sym (append_assoc (decimal (after_class a i 0)) (others 1 (a.states - 1)) (10 ∷ [])) in
    subst (IsAppended c.push.result c.args.output.now c.push.new.self) pushed c.push.ensures

pub returns-clause-few : goal.returns-clause-few
returns-clause-few c =
    let place : ℕ = c.write_short-first-2.result in
    let bytes = c.write_short-first-2.new.bytes in
    AppendsAtMost-appended 96 c.push.result c.args.output.now c.push.new.self _ c.push.ensures
    (omega (arith, ap length (whole 96 place bytes (omega (arith, c.write_short-first-2.auto.bytes))), length-drop place bytes, c.write_short-first-2.auto.bytes))
