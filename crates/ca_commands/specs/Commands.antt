-- The commands of the program. A command has a name, the texts of rules, and other operands, whose form depends on the
-- name.
use Rattle.std.specs.Prelude.{◌≡◌, ℕ, List, [], ◌∷◌, ◌++◌, length, codes, ℤ, ⊤}
use Rattle.tail_config.specs.TailFaults.{HasForm}
use Rattle.rule_text.specs.RuleTexts.{IsDecimal, IsOffset}
use Rattle.ca_commands.specs.Operands.{AreColours, IsCount, IsSeed}
use Rattle.ca_commands.specs.WeightTexts.{AreWeightTexts}
use Rattle.ca_commands.specs.declared.names.Name.{Name}
use Rattle.ca_commands.specs.declared.names.Name.TheVariants as name

-- the word for the name of a command
abbrev pub word_of : Name → List ℕ
word_of name.Decide = codes "decide"
word_of name.Orphan = codes "orphan"
word_of name.Number = codes "number"
word_of name.Certify = codes "certify"
word_of name.Brief = codes "brief"
word_of name.Reflect = codes "reflect"
word_of name.Trim = codes "trim"
word_of name.Shift = codes "shift"
word_of name.Widen = codes "widen"
word_of name.Permute = codes "permute"
word_of name.Compose = codes "compose"
word_of name.Least = codes "least"
word_of name.Lift = codes "lift"
word_of name.Unlift = codes "unlift"
word_of name.Inverse = codes "inverse"
word_of name.Language = codes "language"
word_of name.Same = codes "same"
word_of name.Erase = codes "erase"
word_of name.Preimage = codes "preimage"
word_of name.Survey = codes "survey"
word_of name.Sample = codes "sample"
word_of name.Classes = codes "classes"
word_of name.Check = codes "check"

-- how many texts of rules follow the name of a command
abbrev pub rule_count : Name → ℕ
rule_count name.Compose = 2
rule_count name.Same = 2
rule_count name.Survey = 0
rule_count name.Sample = 0
rule_count name.Classes = 0
rule_count name.Check = 0
rule_count _ = 1

-- the forms of operands after the rules: none, optional weights, an offset, a width of one digit, new letters, a configuration, or the shape with numbers or a seed of many rules
pub data Form : Type 0 where
  Nothing : Form
  Weights : Form
  Offset : Form
  Width : Form
  Colours : Form
  Tail : Form
  Numbers : Form
  Seed : Form

-- the form of the operands that follow the rules of a command
abbrev pub form_of : Name → Form
form_of name.Decide = Form.Weights
form_of name.Certify = Form.Weights
form_of name.Brief = Form.Weights
form_of name.Shift = Form.Offset
form_of name.Widen = Form.Width
form_of name.Permute = Form.Colours
form_of name.Preimage = Form.Tail
form_of name.Survey = Form.Numbers
form_of name.Classes = Form.Numbers
form_of name.Sample = Form.Seed
form_of _ = Form.Nothing

-- operands of this form may be missing
abbrev pub MayBeNone : Form → Type 0
MayBeNone Form.Nothing = ⊤
MayBeNone Form.Weights = ⊤
MayBeNone _ = ⊥

-- a command with operands of this form can have this text as its only operand
abbrev pub IsOperand : Form → List ℕ → Type 0
IsOperand Form.Weights text = AreWeightTexts text
IsOperand Form.Offset text = (o : ℤ) × IsOffset text o
IsOperand Form.Width text = IsDecimal 1 1 text
IsOperand Form.Colours text = AreColours text
IsOperand Form.Tail text = HasForm text
IsOperand _ text = ⊥

-- the text says where many rules begin, as the form asks: it is their first number, of up to 39 digits, or their seed
abbrev pub IsBeginning : Form → List ℕ → Type 0
IsBeginning Form.Numbers text = IsDecimal 1 39 text
IsBeginning Form.Seed text = IsSeed text
IsBeginning _ text = ⊥

-- the operands have this form: there are none, or there is one, or there are four (the states, the width, the first number or the seed, and how many rules)
abbrev pub AreOperands : Form → List (List ℕ) → Type 0
AreOperands f [] = MayBeNone f
AreOperands f (text ∷ []) = IsOperand f text
AreOperands f (states ∷ width ∷ from ∷ count ∷ []) = IsDecimal 1 2 states × IsDecimal 1 2 width × IsBeginning f from × IsCount count
AreOperands f _ = ⊥

-- a command has a name, the texts of its rules and its other operands, as they are on the command line; the text of a rule may be any word
pub record Command : Type 0 where
  pub name : Name
  pub rules : List (List ℕ)
  pub operands : List (List ℕ)

-- the command `check`, which reads an input and has no operands
abbrev pub check_command : Command
check_command = record { name = name.Check; rules = []; operands = [] }

-- the words of a command: its name, the texts of its rules and its operands
abbrev pub words_of : Command → List (List ℕ)
words_of c = word_of c.name ∷ c.rules ++ c.operands

-- the words are those of the command c, which has as many rules as its name needs and operands of the right form
pub record IsCommand (words : List (List ℕ)) (c : Command) : Type 0 where
  pub words_are : words ≡ words_of c
  pub rules : length c.rules ≡ rule_count c.name
  pub operands : AreOperands (form_of c.name) c.operands
