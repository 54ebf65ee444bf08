use Rattle.std.proofs.Common.{◌≡◌, ◌^◌, min, take, drop}
use Rattle.std.specs.Str.{all_ascii_digits}
use Rattle.std.specs.Str.Parse.{digits_value}
use Rattle.lexer.proofs.number.index.Given as goal

abbrev pub invariant-loop-digit : goal.invariant-loop-digit
invariant-loop-digit l = record {
  digits : all_ascii_digits (drop l.digit-index l.word) ≡ all_ascii_digits l.word;
  value : l.number ≡ min (digits_value 10 (take l.digit-index l.word)) (2 ^ 31);
}
