-- Which right replies have a text that fits the room of an output.
use Rattle.std.proofs.Common.{ℕ, ◌≤◌, List, Option, ◌⊎◌, inl, inr}
use Rattle.word_image.specs.LocalRules.{LocalRule, IsRule, most_sets}
use Rattle.image_minimal.specs.ImageLanguages.{Automaton, IsLeastAutomaton}
use Rattle.tail_config.proofs.laws.TailFaults.{tail_fault-none}
use Rattle.tail_preimage.proofs.laws.Lengths.{length-placed, length-gap}
use Rattle.ca_commands.specs.Asking.{NeedMemory}
use Rattle.ca_questions.specs.Questions.{AnswerNeedsMemory, AreRules, Question}
use Rattle.ca_questions.specs.Findings.{Finding, IsFinding}
use Rattle.ca_questions.specs.Replies.{Reply}
use Rattle.ca_text.specs.Rooms.{FitsRoom}
use Rattle.ca_cli.specs.RightAnswers.{IsReply, IsReplyTo}
use Rattle.ca_cli.proofs.laws.Writable.{IsOfMany, AreRules-asked}

-- least automata of accepted rules have few classes
abbrev pub HaveFewClasses : Type 0
HaveFewClasses = (r : LocalRule) (m : Automaton) → IsRule r → IsLeastAutomaton r m → m.classes ≤ most_sets

-- a right finding has a text that fits the room, or the question may need memory
found_fits : {q : Question} {f : Finding} → HaveFewClasses → IsOfMany q ⊎ AreRules q → IsFinding q f → AnswerNeedsMemory q ⊎ FitsRoom (Reply.Found f)
found_fits few are (IsFinding.Written _ _ _ _ each _) = inl each
found_fits few (inl many) (IsFinding.Language r m least) = absurd many
found_fits few (inr rule) (IsFinding.Language r m least) = inr (few r m rule least)
found_fits few are (IsFinding.Classes _ _ _ _ _) = inl tt
found_fits few are (IsFinding.Preimage r t p short from) = inr (length-placed ((tail_fault-none r.states t).0 short) from)
found_fits few are (IsFinding.Gap r t before after w short gap) = inr (length-gap ((tail_fault-none r.states t).0 short) gap)
found_fits few are right = inr tt

-- a right reply to words has a text that fits the room, or the words may need memory
pub IsReplyTo-fits : {words : List (List ℕ)} {input : Option (List ℕ)} {reply : Reply} → HaveFewClasses → IsReplyTo words input reply
    → NeedMemory words ⊎ FitsRoom reply
IsReplyTo-fits few (IsReplyTo.Usage none) = inr tt
IsReplyTo-fits few (IsReplyTo.Right c reply is (IsReply.Found _ q f asked right)) = elim (found_fits few (AreRules-asked asked.texts asked.asks) right) [ inl needs ↦ inl (inr (q, record { command = c; is = is; asked = asked }, needs)) | inr fits ↦ inr fits ]
IsReplyTo-fits few (IsReplyTo.Right c reply is (IsReply.NotFit _ q u asked unfits)) = inr tt
IsReplyTo-fits few (IsReplyTo.Right c reply is (IsReply.RuleFault _ i f fault)) = inr tt
IsReplyTo-fits few (IsReplyTo.Right c reply is (IsReply.Accepted _ bytes v check whole accepted true)) = inl (inl (c, is, check))
IsReplyTo-fits few (IsReplyTo.Right c reply is (IsReply.Refused _ bytes f check whole refused)) = inl (inl (c, is, check))
IsReplyTo-fits few (IsReplyTo.Right c reply is (IsReply.TooLong _ check long)) = inr tt
