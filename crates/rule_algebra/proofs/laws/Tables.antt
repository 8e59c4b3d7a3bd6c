-- Tables by what they give on each window.
use Rattle.std.proofs.Common.{◌≡◌, ℕ, ◌^◌, ◌<◌, List, length, slice_index, sym, ap, ◌∙◌, subst, arith, ℤ}
use Rattle.word_image.proofs.Common.{range_with_len, length-map-range_with_len, get_or-map-range_with_len, All-map, IsRule, IsShape, IsWord, value, word_of, value-below, word_of-value}
use Rattle.rule_algebra.specs.Tabulated.{table_by}

-- there is an entry for each window
pub length-table_by : (k m : ℕ) (f : List ℕ → ℕ) → length (table_by k m f) ≡ k ^ m
length-table_by k m f = length-map-range_with_len (λ v. f (word_of k m v)) 0 (k ^ m)

-- the rule with this table is accepted if its shape is, and if the function gives letters
pub IsRule-table_by : (k m : ℕ) (o : ℤ) (f : List ℕ → ℕ) → IsShape k m o → ((w : List ℕ) → f w < k)
    → IsRule (record { states = k; width = m; offset = o; table = table_by k m f })
IsRule-table_by k m o f shape below = record {
  shape = shape;
  entries = length-table_by k m f;
  letters = All-map (λ a. a < k) (λ v. f (word_of k m v)) (range_with_len 0 (k ^ m)) (λ i d l. below _);
}

-- the entry at a window's value is what the function gives on the window
pub table_by-at : (k m : ℕ) (f : List ℕ → ℕ) (w : List ℕ) → IsWord k w → length w ≡ m → slice_index (table_by k m f) (value k w) ≡ f w
table_by-at k m f w word long =
    let below : value k w < k ^ m = subst (λ n. value k w < k ^ n) long (value-below k w word) in
    get_or-map-range_with_len (λ v. f (word_of k m v)) 0 (k ^ m) (value k w) (value k w) 0 below (omega arith)
    ∙ ap (λ n. f (word_of k n (value k w))) (sym long)
    ∙ ap f (word_of-value k w word)
