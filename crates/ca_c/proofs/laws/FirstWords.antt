-- The first words of a block decide what a call answers, since no command has more words than a call keeps.
use Rattle.std.proofs.Common.{◌≡◌, ℕ, zero, suc, ◌+◌, ◌-◌, ◌≤◌, List, [], ◌∷◌, ◌++◌, length, take, drop, refl, sym, ap, subst, ◌∙◌, arith, IsUtf8, Some, inl, inr}
use Rattle.std.proofs.lemmas.List.{length-take-le, take_all}
use Rattle.word_image.proofs.Common.{leb_tells}
use Rattle.ca_questions.proofs.Common.{Reply}
use Rattle.ca_commands.specs.Commands.{Command, IsCommand}
use Rattle.ca_commands.specs.Asking.{NeedMemory}
use Rattle.ca_commands.proofs.laws.FirstBytes.{IsFirstByte}
use Rattle.ca_commands.proofs.laws.Short.{IsCommand-short}
use Rattle.ca_cli.specs.declared.status.Status.{Status}
use Rattle.ca_cli.specs.RightAnswers.{IsReplyTo}
use Rattle.ca_c.specs.Blocks.{AreFirstWords, AreWords, kept_words}
use Rattle.ca_c.specs.Calls.{IsAnswerBy, IsAnswerIn, MayLackMemory}
use Rattle.ca_c.proofs.laws.Blocks.{HasDone, HasDone-end, HasDone-next}

-- `first` has the words of the block that are done, or the first of them if there are more than are kept
pub record HasBegun (block rest : List ℕ) (first : List (List ℕ)) : Type 0 where
  pub done : List (List ℕ)
  pub walk : HasDone block rest done
  pub begin : first ≡ take kept_words done

-- the first n items of a list and of one that goes on
take-take-append : (n : ℕ) (xs ys : List (List ℕ)) → take n (take n xs ++ ys) ≡ take n (xs ++ ys)
take-take-append zero xs ys = refl
take-take-append (suc n) [] ys = refl
take-take-append (suc n) (x ∷ xs) ys = ap (λ (v : List (List ℕ)). x ∷ v) (take-take-append n xs ys)

-- a further word of the block is kept if there is a place for it
pub HasBegun-next : {block rest word : List ℕ} {first next : List (List ℕ)} (end len : ℕ) → HasBegun block rest first → IsFirstByte 0 rest end
    → word ≡ take end rest → IsUtf8 (take end rest)
    → len ≡ length rest → next ≡ take kept_words (first ++ word ∷ []) → HasBegun block (take (len - (end + 1)) (drop (end + 1) rest)) next
HasBegun-next {word = word} {first = first} end len begun at same text long kept = record {
  done = begun.done ++ word ∷ [];
  walk = HasDone-next end len begun.walk at same text long refl;
  begin = kept ∙ ap (λ (v : List (List ℕ)). take kept_words (v ++ word ∷ [])) begun.begin ∙ take-take-append kept_words begun.done (word ∷ []);
}

-- where nothing is left of a block, the words that are kept are its first words
pub HasBegun-end : {block rest : List ℕ} {first : List (List ℕ)} → HasBegun block rest first → rest ≡ [] → AreFirstWords block first
HasBegun-end begun empty = record { words = begun.done; in_block = HasDone-end begun.walk empty; begin = begun.begin }

-- fewer words than are kept are all words of the block
all_words : {block : List ℕ} {first : List (List ℕ)} (h : AreFirstWords block first) → length first ≤ 5 → first ≡ h.words
all_words {first = first} h few = elim (leb_tells (length h.words) kept_words) [
  | inl fits ↦ h.begin ∙ take_all kept_words h.words (omega (arith, fits.1))
  | inr more ↦ absurd (omega (arith, few, ap length h.begin, length-take-le kept_words h.words (omega (arith, more.1))))
]

-- first words that are a command are all words of the block
command_words : {block : List ℕ} {first : List (List ℕ)} {c : Command} → AreFirstWords block first → IsCommand first c → AreWords block first
command_words {block = block} h is = subst (AreWords block) (sym (all_words h (IsCommand-short is))) h.in_block

-- all words are no command if the first words are none
no_command : {block : List ℕ} {first : List (List ℕ)} {c : Command} (h : AreFirstWords block first) → ((c : Command) → ¬ IsCommand first c)
    → ¬ IsCommand h.words c
no_command {c = c} h none is =
    let few = IsCommand-short is in
    none c (subst (λ words. IsCommand words c) (sym (h.begin ∙ take_all kept_words h.words (omega (arith, few)))) is)

-- the words of a block to which a reply is right, if it is right for the first words
replied : {block input : List ℕ} {first : List (List ℕ)} {reply : Reply} → AreFirstWords block first → IsReplyTo first (Some input) reply
    → (words : List (List ℕ)) × AreWords block words × IsReplyTo words (Some input) reply
replied h (IsReplyTo.Usage none) = (h.words, h.in_block, IsReplyTo.Usage (λ c is. no_command h none is))
replied {first = first} h (IsReplyTo.Right c reply is right) = (first, command_words h is, IsReplyTo.Right c reply is right)

-- a right answer to the first words of a block is one to the block
pub IsAnswerIn-first : {bytes_of : Reply → List ℕ} {block input output : List ℕ} {first : List (List ℕ)} {status : Status} → AreFirstWords block first
    → IsAnswerBy bytes_of first input status output → IsAnswerIn bytes_of block input status output
IsAnswerIn-first h answer =
    let (words, in_block, right) = replied h answer.right in
    record { words = words; in_block = in_block; answered = record { reply = answer.reply; right = right; status_is = answer.status_is; output_is = answer.output_is } }

-- what needs memory for the first words of a block needs it for the block
pub MayLackMemory-first : {block : List ℕ} {first : List (List ℕ)} → AreFirstWords block first → NeedMemory first → MayLackMemory block
MayLackMemory-first {first = first} h needs = elim needs [
  | inl check ↦ (first, command_words h check.1, inl check)
  | inr asked ↦ (first, command_words h asked.1.is, inr asked)
]
