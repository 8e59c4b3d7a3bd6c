use Rattle.std.proofs.Common.{◌≡◌, ℕ, ◌++◌, List, is_ok, length, take, drop, Bool, true, if◌then◌else◌, refl, sym, ap, subst, ◌∙◌, arith, take_all}
use Rattle.word_image.proofs.Common.{take-append-le}
use Rattle.inverse_table.specs.InverseMaps.{AreMapLetters}
use Rattle.inverse_table.proofs.WordCounts.{power-divides}
use Rattle.inverse_table.proofs.ImageLaws.{AreImageValues-below}
use Rattle.inverse_table.proofs.InverseLaws.{IsReadingBack-place, AreApartAt-apart, AreMapLetters-read}
use Rattle.inverse_table.proofs.table_room.read_back.Goals as goal

-- a list that `resize` fills up within its capacity has as many items as were asked for
length-resized : (n len now : ℕ) (ok : Bool) → ok ≡ true → len ≡ (if ok then n else now) → len ≡ n
length-resized n len now ok succeeds is = is ∙ rw succeeds refl

pub read_letters-requires-clause-within : goal.read_letters-requires-clause-within
read_letters-requires-clause-within c = grind (arith, length-resized, is_ok, AreImageValues-below)

pub read_letters-requires-clause-whole : goal.read_letters-requires-clause-whole
read_letters-requires-clause-whole c = grind (arith, power-divides)

-- a list that is written to again from the front, as far as it is long
written : (n : ℕ) (xs ys : List ℕ) → length xs ≡ n → take n (xs ++ drop (length xs) ys) ≡ xs
written n xs ys long = take-append-le n xs (drop (length xs) ys) (omega arith) ∙ take_all n xs (omega arith)

pub returns-in-None-clause-letters : goal.returns-in-None-clause-letters
returns-in-None-clause-letters c =
    let place = c.place_of-place.ensures in
    let len = c.read_letters.ensures.long ∙ c.deref_mut.ensures.len in
    let long = len ∙ length-resized _ _ _ _ (ap is_ok c.unwrap.ensures) c.resize.ensures.len ∙ c.requires.count in
    let reading = IsReadingBack-place place.rule c.requires.some c.requires.inside place.states place.unit c.requires.images long in
    subst (AreMapLetters c.args.rule.now c.args.at.n c.args.at.c) (sym (written c.resize.new.self.len c.read_letters.new.letters c.resize.new.self.items len))
    (AreMapLetters-read place.rule reading c.in-None.ensures.read c.requires.few)

pub returns-in-Some-clause-fault : goal.returns-in-Some-clause-fault
returns-in-Some-clause-fault c =
    let place = c.place_of-place.ensures in
    let long = c.read_letters.ensures.long ∙ c.deref_mut.ensures.len ∙ length-resized _ _ _ _ (ap is_ok c.unwrap.ensures) c.resize.ensures.len ∙ c.requires.count in
    let reading = IsReadingBack-place place.rule c.requires.some c.requires.inside place.states place.unit c.requires.images long in
    (c.requires.few, AreApartAt-apart place.rule reading _ _ c.in-Some.ensures.read)
