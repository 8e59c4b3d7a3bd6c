-- What the C library returns to a call that runs a command: a code, a length, and the output in the caller's buffer.
use Rattle.std.specs.Prelude.{◌≡◌, ℕ, ◌<◌, ◌≤◌, List, ◌++◌, length, drop, Some}
use Rattle.ca_commands.specs.Asking.{NeedMemory}
use Rattle.ca_questions.specs.Replies.{Reply}
use Rattle.ca_text.specs.Replies.{reply_text}
use Rattle.ca_json.specs.Replies.{json_text}
use Rattle.ca_cli.specs.declared.status.Status.{Status}
use Rattle.ca_cli.specs.Statuses.{code_of, reply_status}
use Rattle.ca_cli.specs.RightAnswers.{IsReplyTo}
use Rattle.ca_c.specs.Blocks.{AreWords}
use Rattle.ca_c.specs.declared.calls.Form.{Form}
use Rattle.ca_c.specs.declared.calls.Form.TheVariants as form

-- the bytes of a reply in the form that a call asks for: the text that the program prints, or JSON
abbrev pub bytes_in : Form → Reply → List ℕ
bytes_in form.Text = reply_text
bytes_in form.Json = json_text

-- some right reply to these words and this input has this status, and these bytes in the form of the call
pub record IsAnswerBy (bytes_of : Reply → List ℕ) (words : List (List ℕ)) (input : List ℕ) (status : Status) (output : List ℕ) : Type 0 where
  pub reply : Reply
  pub right : IsReplyTo words (Some input) reply
  pub status_is : status ≡ reply_status reply
  pub output_is : output ≡ bytes_of reply

-- the block has words, and some right reply to these words and this input has this status and this output
pub record IsAnswerIn (bytes_of : Reply → List ℕ) (block input : List ℕ) (status : Status) (output : List ℕ) : Type 0 where
  pub words : List (List ℕ)
  pub in_block : AreWords block words
  pub answered : IsAnswerBy bytes_of words input status output

-- the block has the words of `check`, or of a question whose answer may need memory besides a room
abbrev pub MayLackMemory : List ℕ → Type 0
MayLackMemory block = (words : List (List ℕ)) × AreWords block words × NeedMemory words

-- the code, the length and the buffer that a call returns; before the call, the buffer had the bytes `before`
pub data IsHandedBack (bytes_of : Reply → List ℕ) (block input before : List ℕ) : ℕ → ℕ → List ℕ → Type 0 where
  -- if the buffer has room for the output, the call returns the code of the status, the length of the output, and the output at the beginning of the buffer
  Whole : (status : Status) (output : List ℕ) → IsAnswerIn bytes_of block input status output → length output ≤ length before
      → IsHandedBack bytes_of block input before (code_of status) (length output) (output ++ drop (length output) before)
  -- if the buffer is too short for the output, the call returns the code 10 and the length of the output, and leaves the buffer as it was
  Short : (status : Status) (output : List ℕ) → IsAnswerIn bytes_of block input status output → length before < length output
      → IsHandedBack bytes_of block input before 10 (length output) before
  -- if the block isn't made of words, the call returns the code 9 and the length 0, and leaves the buffer as it was
  NoWords : ((words : List (List ℕ)) → ¬ AreWords block words) → IsHandedBack bytes_of block input before 9 0 before
  -- if there is no memory, the call returns the code 8 and the length 0, and leaves the buffer as it was
  Memory : IsHandedBack bytes_of block input before 8 0 before
