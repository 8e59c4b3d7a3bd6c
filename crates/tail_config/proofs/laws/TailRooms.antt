-- The three parts of a configuration in one list, one after another.
use Rattle.std.proofs.Common.{◌≡◌, ℕ, ◌+◌, ◌≤◌, List, ◌++◌, length, take, drop, reverse, append_assoc, length-drop, arith}
use Rattle.std.proofs.lemmas.List.{take_at, drop_at, length-reverse, length-take-le, reverse-append, take-append-drop}
use Rattle.tail_config.specs.Tails.{mirror_of}
use Rattle.tail_config.specs.TailValues.{config_in, config_of}

-- three lists, one after another, are the parts that they are cut into
pub config_in-joined : (left middle right letters : List ℕ) (a b : ℕ) → letters ≡ left ++ middle ++ right → a ≡ length left → b ≡ length middle
    → config_in letters a b ≡ config_of left middle right
config_in-joined left middle right letters a b joined long wide = grind (arith, append_assoc, drop_at, take_at)

-- the reversed list has the parts of the mirrored configuration
pub config_in-reverse : (letters : List ℕ) (a b c : ℕ) → a + b ≤ length letters → c + (a + b) ≡ length letters
    → config_in (reverse letters) c b ≡ mirror_of (config_in letters a b)
config_in-reverse letters a b c within all =
    let rest : List ℕ = drop a letters in
    let cut : letters ≡ take a letters ++ take b rest ++ drop b rest = simp (append_assoc, take-append-drop) in
    grind (arith, config_in-joined, reverse-append, append_assoc, length-reverse, length-drop, length-take-le)
