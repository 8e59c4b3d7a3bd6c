-- How a block is cut into its words, which it has in one way.
use Rattle.std.proofs.Common.{◌≡◌, ◌≢◌, ℕ, ◌+◌, ◌-◌, List, [], ◌∷◌, ◌++◌, length, take, drop, All, refl, sym, ap, ap₂, subst, ◌∙◌, arith, append_assoc, append-nil, eqb-true, true, false, true≢false, ◌==◌, IsUtf8}
use Rattle.word_image.proofs.Common.{All-nil, All-cons, All-head, All-tail}
use Rattle.std.proofs.lemmas.List.{length-drop, take_all}
use Rattle.ca_commands.proofs.laws.FirstBytes.{IsFirstByte}
use Rattle.ca_c.specs.Blocks.{block_of, IsWordText, AreWords}

-- the words that are done and those of the rest are those of the block, and the block has no others
pub record HasDone (block rest : List ℕ) (done : List (List ℕ)) : Type 0 where
  pub built : (words : List (List ℕ)) → AreWords rest words → AreWords block (done ++ words)
  pub only : (words : List (List ℕ)) → AreWords block words → (more : List (List ℕ)) × (words ≡ done ++ more) × AreWords rest more

-- no bytes are no words
AreWords-nil : AreWords [] []
AreWords-nil = record { written = refl; texts = All-nil IsWordText }

-- a word before the words of a block
AreWords-cons : {block rest word : List ℕ} {words : List (List ℕ)} → block ≡ word ++ 0 ∷ rest → IsWordText word → AreWords rest words
    → AreWords block (word ∷ words)
AreWords-cons {word = word} {words = words} cut text h = record {
  written = cut ∙ ap (λ (x : List ℕ). word ++ 0 ∷ x) h.written;
  texts = All-cons IsWordText word words text h.texts;
}

-- bytes without a 0 before a 0 are the same if the texts are
same_words : (u w x y : List ℕ) → All (λ b. b ≢ 0) u → All (λ b. b ≢ 0) w → u ++ 0 ∷ x ≡ w ++ 0 ∷ y → (u ≡ w) × (x ≡ y)
same_words [] [] x y hu hw same = (refl, cc)
same_words [] (b ∷ w) x y hu hw same = let at : b ≡ 0 = cc in absurd (All-head (λ b. b ≢ 0) b w hw at)
same_words (a ∷ u) [] x y hu hw same = let at : a ≡ 0 = cc in absurd (All-head (λ b. b ≢ 0) a u hu at)
same_words (a ∷ u) (b ∷ w) x y hu hw same =
    let first : a ≡ b = cc in
    let rest = same_words u w x y (All-tail (λ b. b ≢ 0) a u hu) (All-tail (λ b. b ≢ 0) b w hw) cc in
    (ap₂ (λ (c : ℕ) (v : List ℕ). c ∷ v) first rest.0, rest.1)

-- bytes with a 0 among them aren't all others than 0
has_zero : (u x : List ℕ) → ¬ All (λ b. b ≢ 0) (u ++ 0 ∷ x)
has_zero [] x all = All-head (λ b. b ≢ 0) 0 x all refl
has_zero (a ∷ u) x all = has_zero u x (All-tail (λ b. b ≢ 0) a (u ++ 0 ∷ x) all)

-- bytes with a 0 among them are some
not_empty : (u x : List ℕ) → u ++ 0 ∷ x ≢ []
not_empty [] x none = cc
not_empty (a ∷ u) x none = cc

-- the words of a block with a 0 in it begin with what stands before its first 0
first_word : {block word rest : List ℕ} (words : List (List ℕ)) → block ≡ word ++ 0 ∷ rest → All (λ b. b ≢ 0) word → AreWords block words
    → (more : List (List ℕ)) × IsWordText word × (words ≡ word ∷ more) × AreWords rest more
first_word {word = word} {rest = rest} [] cut unended h = absurd (not_empty word rest (sym cut ∙ h.written))
first_word {word = word} {rest = rest} (u ∷ us) cut unended h =
    let text = All-head IsWordText u us h.texts in
    let same = same_words u word (block_of us) rest text.unended unended (sym h.written ∙ cut) in (
      us,
      subst IsWordText same.0 text,
      ap (λ (v : List ℕ). v ∷ us) same.0,
      record { written = sym same.1; texts = All-tail IsWordText u us h.texts },
    )

-- without a 0 there are no words, where there is a byte
no_words : {block : List ℕ} (words : List (List ℕ)) → All (λ b. b ≢ 0) block → block ≢ [] → ¬ AreWords block words
no_words [] unended other h = other h.written
no_words (u ∷ us) unended other h = has_zero u (block_of us) (subst (All (λ b. b ≢ 0)) h.written unended)

-- where the rest begins with the text of a word and a 0, this word is done too, and the rest is what stands after the 0
pub HasDone-step : {block rest word after : List ℕ} {done : List (List ℕ)} → HasDone block rest done → rest ≡ word ++ 0 ∷ after → IsWordText word
    → HasDone block after (done ++ word ∷ [])
HasDone-step {word = word} {done = done} walk cut text = record {
  built = λ words h. rw (append_assoc done (word ∷ []) words) (walk.built (word ∷ words) (AreWords-cons cut text h));
  only = λ words h.
      let left = walk.only words h in
      let first = first_word left.0 cut text.unended left.2 in
      (first.0, left.1 ∙ ap (λ (v : List (List ℕ)). done ++ v) first.2 ∙ sym (append_assoc done (word ∷ []) first.0), first.3);
}

-- where the code finds the end of the next word of a block, this word is done too
pub HasDone-next : {block rest word : List ℕ} {done more : List (List ℕ)} (end len : ℕ) → HasDone block rest done → IsFirstByte 0 rest end
    → word ≡ take end rest → IsUtf8 (take end rest)
    → len ≡ length rest → more ≡ done ++ word ∷ [] → HasDone block (take (len - (end + 1)) (drop (end + 1) rest)) more
HasDone-next {rest = rest} end len walk at same text long grown =
    rw (take_all (len - (end + 1)) (drop (end + 1) rest) (omega (arith, length-drop (end + 1) rest)), grown, same) (HasDone-step walk at.cut (record { text = text; unended = at.others }))

-- where nothing is left of a block, the words that are done are its words
pub HasDone-end : {block rest : List ℕ} {done : List (List ℕ)} → HasDone block rest done → rest ≡ [] → AreWords block done
HasDone-end {block = block} {done = done} walk empty = subst (AreWords block) (append-nil done) (walk.built [] (rw empty AreWords-nil))

-- where bytes but no 0 are left, the block has no words
pub HasDone-unended : {block rest : List ℕ} {done : List (List ℕ)} → HasDone block rest done → rest ≢ [] → All (λ b. b ≢ 0) rest
    → (words : List (List ℕ)) → ¬ AreWords block words
HasDone-unended walk other unended words h = let left = walk.only words h in no_words left.0 unended other left.2

-- where the next word of a block isn't UTF-8, the block has no words
pub HasDone-foreign : {block rest word : List ℕ} {done : List (List ℕ)} (after : List ℕ) → HasDone block rest done → rest ≡ word ++ 0 ∷ after
    → All (λ b. b ≢ 0) word → ¬ IsUtf8 word
    → (words : List (List ℕ)) → ¬ AreWords block words
HasDone-foreign after walk cut unended foreign words h =
    let left = walk.only words h in
    let first = first_word left.0 cut unended left.2 in
    foreign (first.1).text

-- a list whose length isn't 0 isn't empty
pub some_bytes : (xs : List ℕ) → (length xs == 0) ≡ false → xs ≢ []
some_bytes [] other none = absurd (true≢false other)
some_bytes (x ∷ xs) other none = cc

-- a list whose length is 0 is empty
pub no_bytes : (xs : List ℕ) → (length xs == 0) ≡ true → xs ≡ []
no_bytes [] same = refl
no_bytes (x ∷ xs) same = absurd (omega (arith, eqb-true (length (x ∷ xs)) 0 same))
