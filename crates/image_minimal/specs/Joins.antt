-- Numbers that are joined into classes (Galler and Fischer 1964). A list has the parent of each number: a lesser number
-- of the same class, or the number itself, if it is the root of its class. A colouring gives each number one of two
-- colours. Two numbers are in the same class if and only if they have the same colour under every colouring in which
-- each number has the colour of its parent.
use Rattle.std.specs.Prelude.{◌≡◌, ℕ, ◌+◌, ◌<◌, ◌≤◌, List, length, map, slice_index, Bool, false, nat_eq, if◌then◌else◌, sum_by}
use Rattle.std.specs.List.{range_with_len}

-- f is a colouring in which each number has the colour of its parent. So all numbers of a class have the same colour
abbrev pub AreColours : List ℕ → (ℕ → Bool) → Type 0
AreColours parents f = (x : ℕ) → x < length parents → f (slice_index parents x) ≡ f x

-- no number has a parent that is greater than the number
abbrev pub IsFalling : List ℕ → Type 0
IsFalling parents = (x : ℕ) → x < length parents → slice_index parents x ≤ x

-- the greatest number of numbers: two rules have at most 65,536 sets of nodes each
abbrev pub most_numbers : ℕ
most_numbers = 131072

-- 1 if the number is a root, so if its parent is the number itself, and 0 otherwise
abbrev pub root_mark : ℕ → ℕ → ℕ
root_mark number parent = if nat_eq parent number then 1 else 0

-- the number of classes, which is the number of roots
abbrev pub class_count : List ℕ → ℕ
class_count parents = sum_by (λ mark. mark) (map (λ x. root_mark x (slice_index parents x)) (range_with_len 0 (length parents)))

-- each number has a parent in its old class that isn't greater than the number, the old roots are still roots, and there are no more classes than before
pub record IsHalved (old new : List ℕ) : Type 0 where
  pub long : length new ≡ length old
  pub falling : IsFalling new
  pub colours : (f : ℕ → Bool) → AreColours old f → AreColours new f
  pub roots : (x : ℕ) → x < length old → slice_index old x ≡ x → slice_index new x ≡ x
  pub no_more : class_count new ≤ class_count old

-- on the way from `number` to the root of its class, the search has come to the number `at`, which is in the same class and isn't greater than `number`. Each new parent is in the old class of its number
pub record IsOnWay (old new : List ℕ) (number at : ℕ) : Type 0 where
  pub halved : IsHalved old new
  pub within : at ≤ number
  pub one : (f : ℕ → Bool) → AreColours old f → f number ≡ f at

-- x and y have been joined: a colouring for the old parents that gives x and y the same colour is a colouring for the new parents. If `joined` is true, there is one class less. If it is false, x and y were in the same class before
pub record IsJoin (old new : List ℕ) (x y : ℕ) (joined : Bool) : Type 0 where
  pub long : length new ≡ length old
  pub one : (f : ℕ → Bool) → AreColours old f → joined ≡ false → f x ≡ f y
  pub colours : (f : ℕ → Bool) → AreColours old f → f x ≡ f y → AreColours new f
  pub fewer : class_count new + (if joined then 1 else 0) ≤ class_count old
