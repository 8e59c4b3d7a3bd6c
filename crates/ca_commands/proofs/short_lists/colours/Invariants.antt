use Rattle.std.proofs.Common.{◌≡◌, ◌≤◌, length, take, map, All}
use Rattle.word_image.specs.Digits.{IsHexDigit, letter_at}
use Rattle.ca_commands.proofs.short_lists.colours.Given as goal

-- the letters so far are those of the digits so far
abbrev pub invariant-loop-digit : goal.invariant-loop-digit
invariant-loop-digit l = record {
  said : l.list ≡ map letter_at (take l.digit-index l.text);
  digits : All IsHexDigit (take l.digit-index l.text);
  some : 1 ≤ length l.text;
  most : length l.text ≤ 16;
}
