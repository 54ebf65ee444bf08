-- The text of each answer of a dialogue (this project's own format).
use Rattle.std.specs.Prelude.{ℕ, List, [], ◌∷◌, ◌++◌, codes, decimal, Bool, true, false, Option, Some, None}
use Rattle.torus.specs.FaultCode.{fault_code}
use Rattle.report_lines.specs.Line.{reply_word}
use Rattle.command_live.specs.declared.told.Told.{Told}
use Rattle.command_live.specs.declared.told.Told.TheVariants as told

-- a word behind others
abbrev pub spaced : List ℕ → List ℕ
spaced word = 32 ∷ word

-- an index behind others, where there is one
abbrev spaced_index : Option ℕ → List ℕ
spaced_index None = []
spaced_index (Some index) = spaced (decimal index)

abbrev pub yes_or_no : Bool → List ℕ
yes_or_no true = codes "yes"
yes_or_no false = codes "no"

-- what the line of an answer says
abbrev told_words : Told → List ℕ
told_words told.Nothing = []
told_words (told.Asked p index) = codes "asked" ++ spaced (decimal p) ++ spaced_index index
told_words (told.Answered p index reply) =
    codes "answer" ++ spaced (decimal p) ++ spaced (decimal index) ++ spaced (reply_word reply)
told_words told.Idle = codes "idle"
told_words (told.Moved is) = codes "moved" ++ spaced (yes_or_no is)
told_words (told.Rounds count) = codes "rounds" ++ spaced (decimal count)
told_words (told.Finished is) = codes "finished" ++ spaced (yes_or_no is)
told_words (told.Word address word) =
    codes "word" ++ spaced (decimal address) ++ spaced (decimal word)
told_words (told.Rows count) = codes "rows" ++ spaced (decimal count)
told_words told.Loaded = codes "loaded"
told_words told.NoRecord = codes "no record"
told_words (told.BadByte place) = codes "bad byte" ++ spaced (decimal place)
told_words (told.BadAction number) = codes "bad action" ++ spaced (decimal number)
told_words (told.BadText fault) =
    codes "bad text" ++ spaced (fault_code fault.fault) ++ spaced (decimal fault.line)
told_words (told.Refused fault) = codes "fault" ++ spaced (fault_code fault)
told_words told.BadLine = codes "bad line"

-- the text of an answer: its line, and none where nothing is answered
abbrev pub told_text : Told → List ℕ
told_text told.Nothing = []
told_text answer = told_words answer ++ 10 ∷ []
