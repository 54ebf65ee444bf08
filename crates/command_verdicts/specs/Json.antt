-- An answer as a JSON object on one line (RFC 8259).
use Rattle.std.specs.Prelude.{ℕ, ◌+◌, ◌/◌, ◌%◌, ◌==◌, ◌||◌, ◌&&◌, not, nat_le, nat_lt}
use Rattle.std.specs.Prelude.{Bool, if◌then◌else◌, List, [], ◌∷◌, ◌++◌, codes}
use Rattle.std.specs.List.{flat_map}
use Rattle.std.specs.Str.{is_utf8}
use Rattle.std.specs.Str.Lines.{lines}
use Rattle.command_verdicts.specs.declared.json.Verdict.{Verdict}
use Rattle.command_verdicts.specs.declared.json.Verdict.TheVariants.{Yes, No, Undecided, Fault}

-- the word of a verdict
abbrev pub verdict_word : Verdict → List ℕ
verdict_word Yes = codes "yes"
verdict_word No = codes "no"
verdict_word Undecided = codes "undecided"
verdict_word Fault = codes "fault"

-- the verdict of an answer that the program ends with this status
abbrev pub verdict_of_status : ℕ → Verdict
verdict_of_status status = if status == 0 then Yes else if status == 5 then Undecided else No

-- a number below 16 as a digit to the base 16
abbrev pub hex_digit : ℕ → ℕ
hex_digit n = if nat_lt n 10 then 48 + n else 87 + n

-- a byte by the number of a character below 256
abbrev pub byte_by_number : ℕ → List ℕ
byte_by_number b = codes "\\u00" ++ hex_digit (b / 16) ∷ hex_digit (b % 16) ∷ []

-- a byte of a string (section 7): a backslash stands before a quote and a backslash, a control
-- character stands by its number, and every other byte as it is. In a line that isn't UTF-8 each
-- byte from 128 on stands by its number
abbrev pub json_byte : Bool → ℕ → List ℕ
json_byte utf8 b =
    if b == 34 || b == 92 then 92 ∷ b ∷ []
    else if nat_lt b 32 || (not utf8 && nat_le 128 b) then byte_by_number b
    else b ∷ []

-- a line as a string
abbrev pub json_string : List ℕ → List ℕ
json_string line = codes "\"" ++ flat_map (json_byte (is_utf8 line)) line ++ codes "\""

-- a string that isn't the first of an array
abbrev pub further_string : List ℕ → List ℕ
further_string line = codes ", " ++ json_string line

-- what stands in an array of strings (section 5)
abbrev pub json_strings : List (List ℕ) → List ℕ
json_strings [] = []
json_strings (line ∷ more) = json_string line ++ flat_map further_string more

-- the object of an answer (section 4): the word of the command, the verdict, and the lines of a
-- text
abbrev pub json_object : List ℕ → Verdict → List ℕ → List ℕ
json_object command verdict text =
    (codes "{\"command\": " ++ json_string command)
    ++ (codes ", \"verdict\": " ++ json_string (verdict_word verdict))
    ++ codes ", \"lines\": [" ++ json_strings (lines text) ++ codes "]}\n"
