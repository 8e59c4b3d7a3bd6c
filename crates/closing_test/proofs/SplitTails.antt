-- The configurations that two walks make: how long their parts are, and what the least walks of all states make of them.
use Rattle.std.proofs.Common.{◌≡◌, ℕ, ◌+◌, ◌/◌, ◌%◌, [], ◌∷◌, map, Some, refl, arith}
use Rattle.std.proofs.lemmas.Simd.{map-map}
use Rattle.word_image.proofs.Common.{length-map, LocalRule, IsRule, pair_count}
use Rattle.tail_config.proofs.Common.{TailConfig, IsTail, TailOver, IsShortTail}
use Rattle.tail_laws.proofs.Common.{IsLeastRightSplit-below}
use Rattle.closing_test.specs.declared.walks.Walks.{Walks}
use Rattle.closing_test.specs.Walks.{IsLeastSoFar}
use Rattle.closing_test.specs.Closing.{IsShortOver, IsLeastSplitOf}

-- the first letter of a step
abbrev pub first_letter : ℕ → ℕ
first_letter step = step / 16

-- the second letter of a step
abbrev pub second_letter : ℕ → ℕ
second_letter step = step % 16

-- one of the two configurations of a split: zeros to the left, then one letter of each step of the first walk as the middle, then one letter of each step of the second walk as the right period
abbrev pub tail_by : (ℕ → ℕ) → Walks → TailConfig
tail_by letter w = record { left = 0 ∷ []; middle = map letter w.middle; right = map letter w.period }

-- the configurations of two walks are short
IsShortOver-walks : (r : LocalRule) (w : Walks) (letter : ℕ → ℕ) → IsShortOver r (record { states = r.states; config = tail_by letter w })
IsShortOver-walks r w letter = record {
  states = refl;
  left = omega arith;
  middle = omega (arith, w.short_middle, length-map w.middle letter);
  right = omega (arith, w.short_period, length-map w.period letter);
}

-- the least walks of all states make the least split, in short configurations
pub IsLeastSplitOf-walks : {r : LocalRule} {x y : TailOver} (w : Walks) → IsRule r → IsLeastSoFar r (pair_count r + pair_count r) (Some w)
    → x ≡ record { states = r.states; config = tail_by first_letter w } → y ≡ record { states = r.states; config = tail_by second_letter w }
    → IsLeastSplitOf r x y
IsLeastSplitOf-walks {r} w rule h first second =
    rw (first, second) (record { least = simp map-map at (IsLeastRightSplit-below rule h); first = IsShortOver-walks r w first_letter; second = IsShortOver-walks r w second_letter })

-- a configuration over the letters of the rule whose parts have at most 512 letters is short
pub IsShortTail-over : {r : LocalRule} {t : TailOver} → IsTail r.states t.config → IsShortOver r t → IsShortTail r.states t.config
IsShortTail-over tail short = record {
  tail = tail;
  left = omega (arith, short.left);
  middle = omega (arith, short.middle);
  right = omega (arith, short.right);
}
