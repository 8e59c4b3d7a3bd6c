-- How many letters stretches and answers have at most.
use Rattle.std.proofs.Common.{ℕ, ◌+◌, ◌*◌, ◌≤◌, List, length, ap, arith, add-mul}
use Rattle.word_image.proofs.Common.{repeat, mul-le, LocalRule}
use Rattle.tail_config.proofs.Common.{TailConfig, IsShortTail}
use Rattle.tail_preimage.specs.Preimages.{PlacedConfig, IsFrom, IsGap, stretch}
use Rattle.tail_preimage.specs.Answers.{IsPreimageAnswer, IsShortAnswer}
use Rattle.tail_preimage.specs.declared.answer.Pre.{Pre}
use Rattle.tail_preimage.specs.declared.answer.Pre.TheVariants.{From, Gap}
use Rattle.tail_preimage.proofs.laws.Stretches.{length-repeat, length-stretch}

-- a copies and b copies of a part, at most 16 in all, have at most 16,384 letters
copies_most : (a b n : ℕ) → a + b ≤ 16 → n ≤ 1024 → a * n + b * n ≤ 16384
copies_most a b n few short = omega (arith, mul-le (a + b) n 16 1024 few short, add-mul a b n)

-- at most 16 copies of a part have at most 16,384 letters
pub length-repeat-most : (n : ℕ) (part : List ℕ) → n ≤ 16 → length part ≤ 1024 → length (repeat n part) ≤ 16384
length-repeat-most n part few short = omega (arith, length-repeat n part, mul-le n (length part) 16 1024 few short)

-- a stretch with at most 16 periods on each side has at most 33,792 letters
pub length-stretch-most : {k : ℕ} {t : TailConfig} → IsShortTail k t → (b a : ℕ) → b ≤ 16 → a ≤ 16 → length (stretch t b a) ≤ 33792
length-stretch-most {t = t} short b a left right = grind (arith, length-stretch)

-- the three parts of the least placed configuration have at most 33,792 letters together
pub length-placed : {k : ℕ} {r : LocalRule} {t : TailConfig} {p : PlacedConfig} → IsShortTail k t → IsFrom r t p
    → length p.config.left + length p.config.middle + length p.config.right ≤ 33792
length-placed {t = t} short h = grind (arith, copies_most)

-- a gap has at most 33,792 letters
pub length-gap : {k b a : ℕ} {r : LocalRule} {t : TailConfig} {w : List ℕ} → IsShortTail k t → IsGap r t b a w → length w ≤ 33792
length-gap {b = b} {a = a} short h = omega (arith, ap length h.least.word, length-stretch-most short b a h.before_few h.after_few)

-- the right answer is short
pub IsShortAnswer-right : {k : ℕ} {t : TailConfig} (r : LocalRule) → IsShortTail k t → (p : Pre) → IsPreimageAnswer r t p → IsShortAnswer p
IsShortAnswer-right r short (From p) h = length-placed short h
IsShortAnswer-right r short (Gap b a w) h = length-gap short h
