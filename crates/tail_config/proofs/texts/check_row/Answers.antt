use Rattle.std.proofs.Common.{◌≡◌, ℕ, ◌+◌, Bool, cond, List, [], ◌∷◌, map, refl, ap, arith}
use Rattle.word_image.proofs.Common.{prefix_len, length-map}
use Rattle.tail_config.proofs.texts.check_row.Goals as goal

-- as many values pass from the front on as numbers whose values do
prefix_len-map : (p : ℕ → Bool) (f : ℕ → ℕ) (xs : List ℕ) → prefix_len p (map f xs) ≡ prefix_len (λ x. p (f x)) xs
prefix_len-map p f [] = refl
prefix_len-map p f (x ∷ xs) = ap (λ n. cond (p (f x)) (1 + n) 0) (prefix_len-map p f xs)

pub returns-in-Some : goal.returns-in-Some
returns-in-Some c = grind (arith, prefix_len-map, length-map)

pub returns-in-None : goal.returns-in-None
returns-in-None c = grind (arith, prefix_len-map, length-map)
