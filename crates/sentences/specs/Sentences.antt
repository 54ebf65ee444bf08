-- The sentences on how a run ended (this project's own format).
use Rattle.std.specs.Prelude.{ℕ, ◌==◌, ◌++◌, Bool, true, false, List, [], codes, decimal}
use Rattle.std.specs.Prelude.{if◌then◌else◌}
use Rattle.sentences.specs.declared.end_sentence.SpinSentence.{SpinSentence}
use Rattle.sentences.specs.declared.end_sentence.EndSentence.{EndSentence}
use Rattle.sentences.specs.declared.end_sentence.Course.{Course}
use Rattle.sentences.specs.declared.end_sentence.Course.TheVariants.{Steps, Rounds, Turns}

-- what a name takes for so many things: an s but for one
abbrev pub plural_text : ℕ → List ℕ
plural_text count = if count == 1 then [] else codes "s"

-- a number of things of this name, and what stands behind
abbrev pub so_many : ℕ → List ℕ → List ℕ → List ℕ
so_many count name behind = decimal count ++ codes " " ++ name ++ plural_text count ++ behind

-- the sentence on a spin that ran out of loads
abbrev pub spin_text : SpinSentence → List ℕ
spin_text s = codes "processor " ++ decimal s.spin.processor ++ codes ": the spin of "
    ++ s.name.now ++ codes ":" ++ decimal s.spin.line ++ codes " made its "
    ++ so_many s.spin.loads (codes "load") (codes " and didn't find ") ++ decimal s.spin.wanted

-- what a run was made of; of workers that finished every script nothing is told
abbrev pub course_text : Bool → Course → List ℕ
course_text finished (Steps moves) = so_many moves (codes "move") (codes ", ")
course_text finished (Rounds rounds moves) =
    so_many rounds (codes "round") (codes ", ") ++ so_many moves (codes "move") (codes ", ")
course_text true (Turns turns) = []
course_text false (Turns turns) =
    codes "the workers made their " ++ so_many turns (codes "turn") (codes ", ")

-- how many scripts aren't finished
abbrev pub unfinished_text : ℕ → List ℕ
unfinished_text count = if count == 0 then codes ", not every processor has reported it"
    else if count == 1 then codes ", 1 script isn't finished"
    else codes ", " ++ decimal count ++ codes " scripts aren't finished"

-- what stands behind the number of operations that are answered
abbrev pub answered_text : ℕ → List ℕ
answered_text count = if count == 1 then codes " is answered" else codes " are answered"

-- how the sentence on a run begins
abbrev pub begin_text : Bool → List ℕ
begin_text finished = if finished then codes "finished: " else codes "stopped: "

-- how many scripts aren't finished, where one isn't
abbrev pub rest_text : Bool → ℕ → List ℕ
rest_text finished count = if finished then [] else unfinished_text count

-- the sentence on how a run ended
abbrev pub end_text : EndSentence → List ℕ
end_text s = begin_text s.finished ++ course_text s.finished s.course
    ++ so_many s.answered (codes "operation") (answered_text s.answered)
    ++ rest_text s.finished s.unfinished
