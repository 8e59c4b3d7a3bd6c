-- Images and image cells under the second rule after the first.
use Rattle.std.proofs.Common.{◌≡◌, None, eq-eqb, ℕ, ◌+◌, ◌-◌, ◌<◌, ◌≤◌, List, length, take, drop, slice_range, ℤ, ◌+ℤ◌, sym, ap, ap₂, ◌∙◌, arith, length-drop, length-take-le}
use Rattle.word_image.proofs.Common.{nat_tests, ints, All-take, All-drop, LocalRule, IsRule, IsWord, local_map, image, length-image, entry-below, get_or-image, image-by_letters, image-drop, image-take}
use Rattle.tail_config.proofs.Common.{cells, cell, length-run, IsWord-run, image-run, cell-below}
use Rattle.rule_algebra.specs.Algebra.{IsComposed}
use Rattle.rule_algebra.specs.MadeImages.{ComposesCells}
use Rattle.rule_algebra.specs.AlgebraFaults.{limit_fault, compose_fault}
use Rattle.rule_algebra.specs.Tables.{composed}
use Rattle.rule_algebra.proofs.laws.Limits.{IsShape-limit_fault}
use Rattle.rule_algebra.proofs.laws.Tables.{IsRule-table_by, table_by-at}

-- what the second rule after the first gives on a window
local_map-composed : (first second : LocalRule) (w : List ℕ) → IsWord first.states w → length w ≡ first.width + second.width - 1
    → local_map (composed first second) w ≡ local_map second (image first w)
local_map-composed first second w word long = table_by-at first.states (first.width + second.width - 1) (λ x. local_map second (image first x)) w word long

-- the images compose
pub image-composed : {first second : LocalRule} → IsRule first → IsRule second → (x : List ℕ) → IsWord first.states x
    → image (composed first second) x ≡ image second (image first x)
image-composed {first} {second} before after x word =
    let m : ℕ = first.width + second.width - 1 in
    let middle : length (image first x) ≡ length x - (first.width - 1) = length-image first x in
    let last : length (image second (image first x)) ≡ length (image first x) - (second.width - 1) = length-image second (image first x) in
    image-by_letters (composed first second) x (image second (image first x)) (omega arith) (λ i l.
    let within : i + m ≤ length x = omega arith in
    let window : List ℕ = slice_range x i (i + m) in
    let long : length window ≡ m = length-take-le (i + m - i) (drop i x) (omega (arith, length-drop i x)) ∙ omega arith in
    let letters : i + m - i - (first.width - 1) ≡ i + second.width - i = omega arith in
    let cut : image first window ≡ slice_range (image first x) i (i + second.width) =
    image-take before (i + m - i) (drop i x) ∙ ap₂ (λ (n : ℕ) (y : List ℕ). take n y) letters (image-drop first i x) in
    get_or-image second (image first x) i (omega arith)
    ∙ ap (local_map second) (sym cut)
    ∙ sym (local_map-composed first second window (All-take (λ a. a < first.states) (i + m - i) (drop i x) (All-drop (λ a. a < first.states) i x word)) long))

-- the image cells compose
pub ComposesCells-composed : {first second : LocalRule} → IsRule first → IsRule second → ComposesCells first second (composed first second)
ComposesCells-composed {first} {second} before after = λ t i tail.
    let m : ℕ = first.width + second.width - 1 in
    let j : ℤ = i +ℤ (first.offset +ℤ second.offset) in
    let place : i +ℤ second.offset +ℤ first.offset ≡ j = omega (arith, ints) in
    let wide : m ≡ second.width + (first.width - 1) = omega arith in
    local_map-composed first second (cells t j m) (IsWord-run (cell-below tail) j m) (length-run (cell t) j m)
    ∙ ap (λ n. local_map second (image first (cells t j n))) wide
    ∙ ap (local_map second) (image-run before (cell t) (i +ℤ second.offset) j second.width place)

-- rules of one number of states have the first fault of the shape
pub compose_fault-same : (first second : LocalRule) → first.states ≡ second.states
    → compose_fault first second ≡ limit_fault first.states (first.width + second.width - 1) (first.offset +ℤ second.offset)
compose_fault-same first second same = grind (arith, eq-eqb)

-- where there is no fault, the rules are of one number of states
pub compose_fault-states : (first second : LocalRule) → compose_fault first second ≡ None → first.states ≡ second.states
compose_fault-states first second none = grind (arith, nat_tests)

-- where there is no fault, the second rule after the first is an accepted rule
pub IsRule-composed_fault : {first second : LocalRule} → IsRule first → IsRule second → compose_fault first second ≡ None
    → IsRule (composed first second)
IsRule-composed_fault {first} {second} before after none =
    grind (arith, compose_fault-states, IsShape-limit_fault, compose_fault-same, IsRule-table_by, entry-below)

-- the second rule after the first is the rule whose image is the image of the image
pub IsComposed-composed : {first second : LocalRule} → IsRule first → IsRule second → IsComposed first second (composed first second)
IsComposed-composed {first} {second} before after = grind (arith, image-composed)
