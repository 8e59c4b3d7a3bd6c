-- Three parts have no fault exactly where they are a configuration with short parts.
use Rattle.std.proofs.Common.{◌≡◌, ℕ, ◌≤◌, List, [], ◌∷◌, ◌++◌, length, leb, Option, None, Some, refl, arith, ◌↔◌}
use Rattle.word_image.proofs.Common.{position_or_len, nat_tests, position_or_len_is, IsWord, IsWord-position}
use Rattle.tail_config.specs.Tails.{TailConfig}
use Rattle.tail_config.specs.TailTexts.{IsShortTail}
use Rattle.tail_config.specs.TailFaults.{first_fault, empty_fault, long_fault, letter_fault, length_faults, letter_faults, tail_fault}
use Rattle.tail_config.specs.declared.faults.Part.{Part}
use Rattle.tail_config.specs.declared.faults.Part.TheVariants as part
use Rattle.tail_config.specs.declared.faults.TailFault.{TailFault}
use Rattle.tail_config.specs.declared.faults.TailFault.TheVariants as fault

-- none of them comes
abbrev AllNone : List (Option TailFault) → Type 0
AllNone [] = Unit {0}
AllNone (f ∷ fs) = (f ≡ None) × AllNone fs

-- if no fault comes first, none comes
AllNone-first_fault : (fs : List (Option TailFault)) → first_fault fs ≡ None → AllNone fs
AllNone-first_fault [] e = tt
AllNone-first_fault (None ∷ fs) e = (refl, AllNone-first_fault fs e)
AllNone-first_fault (Some f ∷ fs) e = absurd (let some : Some f ≡ None = e in cc)

empty_fault-none : (f : TailFault) (w : List ℕ) → (empty_fault f w ≡ None) ↔ (1 ≤ length w)
empty_fault-none f w = (λ e. grind (arith, nat_tests), λ l. grind (arith, nat_tests))

long_fault-none : (p : Part) (w : List ℕ) → (long_fault p w ≡ None) ↔ (length w ≤ 1024)
long_fault-none p w = (λ e. grind (arith, nat_tests), λ l. grind (arith, nat_tests))

letter_fault-none : (k : ℕ) (p : Part) (w : List ℕ) → (letter_fault k p w ≡ None) ↔ IsWord k w
letter_fault-none k p w = (
  λ e. IsWord-position k w (grind (arith, nat_tests)),
  λ word.
      let none : position_or_len (λ a. leb k a) w ≡ length w =
      position_or_len_is (λ a. leb k a) w (length w) 0 (omega arith) (λ i h. grind (arith, nat_tests, word i 0 h)) (λ h. absurd (omega arith)) in
      grind (arith, nat_tests),
)

-- the parts of a configuration with short parts have no fault, and no others
pub tail_fault-none : (k : ℕ) (t : TailConfig) → (tail_fault k t ≡ None) ↔ IsShortTail k t
tail_fault-none k t = (
  λ none.
      let faults = AllNone-first_fault (length_faults t.left t.middle t.right ++ letter_faults k t) none in
      let (left_some, (right_some, (left, (middle, (right, (left_word, (middle_word, (right_word, _)))))))) = faults in
      record {
        tail = record {
          left_some = (empty_fault-none _ t.left).0 left_some;
          right_some = (empty_fault-none _ t.right).0 right_some;
          left_word = (letter_fault-none k _ t.left).0 left_word;
          middle_word = (letter_fault-none k _ t.middle).0 middle_word;
          right_word = (letter_fault-none k _ t.right).0 right_word;
        };
        left = (long_fault-none _ t.left).0 left;
        middle = (long_fault-none _ t.middle).0 middle;
        right = (long_fault-none _ t.right).0 right;
      },
  λ short. rw (
    (empty_fault-none fault.LeftEmpty t.left).1 short.tail.left_some,
    (empty_fault-none fault.RightEmpty t.right).1 short.tail.right_some,
    (long_fault-none part.Left t.left).1 short.left,
    (long_fault-none part.Middle t.middle).1 short.middle,
    (long_fault-none part.Right t.right).1 short.right,
    (letter_fault-none k part.Left t.left).1 short.tail.left_word,
    (letter_fault-none k part.Middle t.middle).1 short.tail.middle_word,
    (letter_fault-none k part.Right t.right).1 short.tail.right_word,
  ) refl,
)
