-- The words of a command are no other's.
use Rattle.std.proofs.Common.{◌≡◌, ℕ, nat_eq, List, [], ◌∷◌, ◌++◌, length, take, drop, refl, sym, ap, ap₂, ◌∙◌, if◌then◌else◌}
use Rattle.word_image.proofs.Common.{pointwise, drop-append_seam, take-append_seam}
use Rattle.ca_commands.specs.declared.names.Name.{Name}
use Rattle.ca_commands.specs.declared.names.Name.TheVariants as name
use Rattle.ca_commands.specs.Commands.{word_of, rule_count, Command, IsCommand}

-- the first of a list that has the word, or the last resort
first_with : Name → List Name → List ℕ → Name
first_with last [] word = last
first_with last (n ∷ others) word = if pointwise nat_eq word (word_of n) then n else first_with last others word

-- the name that a word says
name_in : List ℕ → Name
name_in =
    first_with name.Check
    (name.Decide ∷ name.Orphan ∷ name.Number ∷ name.Certify ∷ name.Brief ∷ name.Reflect ∷ name.Trim ∷ name.Shift ∷ name.Widen ∷ name.Permute ∷ name.Compose ∷ name.Least ∷ name.Lift
    ∷ name.Unlift ∷ name.Inverse ∷ name.Language ∷ name.Same ∷ name.Erase ∷ name.Preimage ∷ name.Survey ∷ name.Sample ∷ name.Classes ∷ [])

name_in-word : (n : Name) → name_in (word_of n) ≡ n
unfolding name_in first_with
name_in-word name.Decide = refl
name_in-word _ = refl

-- two names with one word are the same
pub word_of-injective : (n m : Name) → word_of n ≡ word_of m → n ≡ m
word_of-injective n m same = sym (name_in-word n) ∙ ap name_in same ∙ name_in-word m

-- words are those of one command
pub IsCommand-unique : {words : List (List ℕ)} {c d : Command} → IsCommand words c → IsCommand words d → c ≡ d
IsCommand-unique {c = c} {d = d} here also =
    let same : word_of c.name ∷ c.rules ++ c.operands ≡ word_of d.name ∷ d.rules ++ d.operands = sym here.words_are ∙ also.words_are in
    let names : c.name ≡ d.name = word_of-injective c.name d.name cc in
    let rest : c.rules ++ c.operands ≡ d.rules ++ d.operands = cc in
    let long : length c.rules ≡ length d.rules = here.rules ∙ ap rule_count names ∙ sym also.rules in
    let rules : c.rules ≡ d.rules = sym (take-append_seam c.rules c.operands) ∙ ap₂ take long rest ∙ take-append_seam d.rules d.operands in
    let operands : c.operands ≡ d.operands = sym (drop-append_seam c.rules c.operands) ∙ ap₂ drop long rest ∙ drop-append_seam d.rules d.operands in
    λ i. record { name = names i; rules = rules i; operands = operands i }
