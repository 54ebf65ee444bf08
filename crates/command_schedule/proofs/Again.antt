-- The text of a schedule is read as its moves.
use Rattle.std.proofs.Common.{◌≡◌, ◌<◌, ◌≤◌, ◌+◌, ◌*◌, ◌%◌, ◌^◌, ℕ, Bool, true, false, List, [], ◌∷◌, ◌++◌, length, decimal, codes, refl, sym, ap, ◌∙◌, arith}
use Rattle.std.proofs.Common.{Ok, append_assoc, append-nil, map, flat_map}
use Rattle.std.specs.List.{All, join_with_byte}
use Rattle.std.specs.Str.Lines.{lines}
use Rattle.std.proofs.lemmas.List.Elements.{All-nil, All-cons, All-head, All-tail, All-append}
use Rattle.torus.specs.declared.step.Step.{Step}
use Rattle.torus.specs.Shape.{Shape, IsAccepted, tiles_of, dims_of}
use Rattle.lexer.specs.Words.{words_of as cut}
use Rattle.script_lines.specs.Machine.{MachineSpec}
use Rattle.lexer.specs.Faults.{by_fault}
use Rattle.script.specs.Reasons.{fault_of}
use Rattle.script.specs.Steps.{after_words, steps_from, steps_of}
use Rattle.command_schedule.specs.declared.line.ScheduleLine.{ScheduleLine}
use Rattle.command_schedule.specs.declared.line.ScheduleLine.TheVariants.{Round, Move, End}
use Rattle.command_schedule.specs.Line.{schedule_words, text_of}
use Rattle.command_schedule.specs.Schedule.{IsStepOf, IsOfTorus, with_move, moves_among, round_lines, lines_of_rounds, schedule_of, moves_schedule}
use Rattle.command_schedule.proofs.Cuts.{IsWord, word-from, words_of-join, printed, lines-ended}
use Rattle.command_schedule.proofs.Numerals.{decimal_is_word, decimal_begins_no_comment}
use Rattle.command_schedule.proofs.StepWords.{IsSmall, step_is_words, choice_is_small, take_step-again}

-- the agents and the ports of a torus are few
agent_is_small : (s : Shape) (step : Step) → IsAccepted s → IsStepOf s step → step.agent < 2 ^ 31
agent_is_small s step is of = omega (arith, is.tiles, of.agent)

small_of_torus : (s : Shape) (step : Step) → IsAccepted s → IsStepOf s step → IsSmall step.choice
small_of_torus s step is of = choice_is_small (8 * dims_of s + 2) (step.agent % 3) step.choice (omega (arith, is.dims_high)) of.choice

-- the words of a line are words
line_is_words : (s : Shape) (line : ScheduleLine) → IsAccepted s → IsOfTorus s line → All IsWord (schedule_words line)
line_is_words s (Round number) is of =
    All-cons IsWord (codes "#") (codes "round" ∷ decimal number ∷ []) (word-from (codes "#") (omega arith) refl)
    (All-cons IsWord (codes "round") (decimal number ∷ []) (word-from (codes "round") (omega arith) refl)
    (All-cons IsWord (decimal number) [] (decimal_is_word number of) (All-nil IsWord)))
line_is_words s (Move step) is of = step_is_words step.agent step.choice (agent_is_small s step is of) (small_of_torus s step is of)
line_is_words s (End true) is of =
    All-cons IsWord (codes "#") (codes "finished" ∷ []) (word-from (codes "#") (omega arith) refl)
    (All-cons IsWord (codes "finished") [] (word-from (codes "finished") (omega arith) refl) (All-nil IsWord))
line_is_words s (End false) is of =
    All-cons IsWord (codes "#") (codes "stopped" ∷ []) (word-from (codes "#") (omega arith) refl)
    (All-cons IsWord (codes "stopped") [] (word-from (codes "stopped") (omega arith) refl) (All-nil IsWord))

-- what the words of a line make of the steps before it
line-again : (s : Shape) (line : ScheduleLine) (steps : List Step) → IsAccepted s → IsOfTorus s line
    → after_words (tiles_of s) (dims_of s) steps (schedule_words line) ≡ Ok (steps ++ with_move line [])
line-again s (Round number) steps is of = ap Ok (sym (append-nil steps))
line-again s (Move step) steps is of =
    let low : step.agent < 2 ^ 31 = agent_is_small s step is of in
    rw (decimal_begins_no_comment step.agent (omega (arith, low)))
    (take_step-again (tiles_of s) (dims_of s) step.agent steps step.choice low of.agent (small_of_torus s step is of) of.choice)
line-again s (End true) steps is of = ap Ok (sym (append-nil steps))
line-again s (End false) steps is of = ap Ok (sym (append-nil steps))

-- the move of a line stands ahead of those of the other lines
with_move-append : (line : ScheduleLine) (steps : List Step) → with_move line [] ++ steps ≡ with_move line steps
with_move-append (Round number) steps = refl
with_move-append (Move step) steps = refl
with_move-append (End finished) steps = refl

-- a text begins with the words of its first line
lines-first : (s : Shape) (line : ScheduleLine) (rest : List ScheduleLine) → IsAccepted s → IsOfTorus s line
    → lines (text_of (line ∷ rest)) ≡ join_with_byte 32 (schedule_words line) ∷ lines (text_of rest)
lines-first s line rest is of =
    ap lines (append_assoc (join_with_byte 32 (schedule_words line)) (10 ∷ []) (text_of rest))
    ∙ lines-ended (join_with_byte 32 (schedule_words line)) (text_of rest) (printed (schedule_words line) (line_is_words s line is of))

text-again : (s : Shape) (ls : List ScheduleLine) (steps : List Step) (number : ℕ) → IsAccepted s → All (IsOfTorus s) ls
    → steps_from (tiles_of s) (dims_of s) steps number (lines (text_of ls)) ≡ Ok (steps ++ moves_among ls)
text-again s [] steps number is all = ap Ok (sym (append-nil steps))
text-again s (line ∷ rest) steps number is all =
    let of : IsOfTorus s line = All-head (IsOfTorus s) line rest all in
    let words : cut (join_with_byte 32 (schedule_words line)) ≡ schedule_words line = words_of-join (schedule_words line) (line_is_words s line is of) in
    let next : List Step = steps ++ with_move line [] in
    ap (steps_from (tiles_of s) (dims_of s) steps number) (lines-first s line rest is of)
    ∙ rw (words, line-again s line steps is of)
    (text-again s rest next (number + 1) is (All-tail (IsOfTorus s) line rest all)
    ∙ ap Ok (append_assoc steps (with_move line []) (moves_among rest) ∙ ap (λ (more : List Step). steps ++ more) (with_move-append line (moves_among rest))))

-- the text of lines is read as their moves
pub lines_read_back : (machine : MachineSpec) (ls : List ScheduleLine) → IsAccepted machine.shape → All (IsOfTorus machine.shape) ls
    → steps_of machine (lines (text_of ls)) ≡ Ok (moves_among ls)
lines_read_back machine ls is all = ap (by_fault fault_of) (text-again machine.shape ls [] 1 is all)

-- the moves among lines one after the other
pub moves_among-append : (ls more : List ScheduleLine) → moves_among (ls ++ more) ≡ moves_among ls ++ moves_among more
moves_among-append [] more = refl
moves_among-append (line ∷ rest) more =
    ap (with_move line) (moves_among-append rest more)
    ∙ sym (with_move-append line (moves_among rest ++ moves_among more))
    ∙ sym (append_assoc (with_move line []) (moves_among rest) (moves_among more))
    ∙ ap (λ (steps : List Step). steps ++ moves_among more) (with_move-append line (moves_among rest))

moves_among-map : (steps : List Step) → moves_among (map Move steps) ≡ steps
moves_among-map [] = refl
moves_among-map (step ∷ steps) = ap (λ (more : List Step). step ∷ more) (moves_among-map steps)

of_torus-map : (s : Shape) (steps : List Step) → All (IsStepOf s) steps → All (IsOfTorus s) (map Move steps)
of_torus-map s [] all = All-nil (IsOfTorus s)
of_torus-map s (step ∷ steps) all =
    All-cons (IsOfTorus s) (Move step) (map Move steps) (All-head (IsStepOf s) step steps all) (of_torus-map s steps (All-tail (IsStepOf s) step steps all))

end_of_torus : (s : Shape) (finished : Bool) → All (IsOfTorus s) (End finished ∷ [])
end_of_torus s finished = All-cons (IsOfTorus s) (End finished) [] tt (All-nil (IsOfTorus s))

-- the moves of a round
round_moves : (number : ℕ) (steps : List Step) → moves_among (round_lines number steps) ≡ steps
round_moves number [] = refl
round_moves number (step ∷ steps) = ap (λ (more : List Step). step ∷ more) (moves_among-map steps)

round_of_torus : (s : Shape) (number : ℕ) (steps : List Step) → number < 2 ^ 64 → All (IsStepOf s) steps → All (IsOfTorus s) (round_lines number steps)
round_of_torus s number [] low all = All-nil (IsOfTorus s)
round_of_torus s number (step ∷ steps) low all = All-cons (IsOfTorus s) (Round number) (Move step ∷ map Move steps) low (of_torus-map s (step ∷ steps) all)

-- the moves of rounds
rounds_moves : (number : ℕ) (rounds : List (List Step)) → moves_among (lines_of_rounds number rounds) ≡ flat_map (λ steps. steps) rounds
rounds_moves number [] = refl
rounds_moves number (steps ∷ rounds) =
    moves_among-append (round_lines number steps) (lines_of_rounds (number + 1) rounds)
    ∙ ap (λ (moves : List Step). moves ++ moves_among (lines_of_rounds (number + 1) rounds)) (round_moves number steps)
    ∙ ap (λ (more : List Step). steps ++ more) (rounds_moves (number + 1) rounds)

rounds_of_torus : (s : Shape) (number : ℕ) (rounds : List (List Step)) → number + length rounds ≤ 2 ^ 64 → All (All (IsStepOf s)) rounds
    → All (IsOfTorus s) (lines_of_rounds number rounds)
rounds_of_torus s number [] low all = All-nil (IsOfTorus s)
rounds_of_torus s number (steps ∷ rounds) low all =
    All-append (IsOfTorus s) (round_lines number steps) (lines_of_rounds (number + 1) rounds)
    (round_of_torus s number steps (omega (arith, low)) (All-head (All (IsStepOf s)) steps rounds all))
    (rounds_of_torus s (number + 1) rounds (omega (arith, low)) (All-tail (All (IsStepOf s)) steps rounds all))

-- the schedule of rounds is read as their moves, one after the other
pub rounds_read_back : (machine : MachineSpec) (rounds : List (List Step)) (finished : Bool) → IsAccepted machine.shape
    → All (All (IsStepOf machine.shape)) rounds → length rounds < 2 ^ 64
    → steps_of machine (lines (text_of (schedule_of rounds finished))) ≡ Ok (flat_map (λ steps. steps) rounds)
rounds_read_back machine rounds finished is all few =
    lines_read_back machine (schedule_of rounds finished) is
    (All-append (IsOfTorus machine.shape) (lines_of_rounds 1 rounds) (End finished ∷ []) (rounds_of_torus machine.shape 1 rounds (omega (arith, few)) all)
    (end_of_torus machine.shape finished))
    ∙ ap Ok (moves_among-append (lines_of_rounds 1 rounds) (End finished ∷ []) ∙ append-nil (moves_among (lines_of_rounds 1 rounds)) ∙ rounds_moves 1 rounds)

-- the schedule of moves is read as these
pub moves_read_back : (machine : MachineSpec) (steps : List Step) (finished : Bool) → IsAccepted machine.shape
    → All (IsStepOf machine.shape) steps → steps_of machine (lines (text_of (moves_schedule steps finished))) ≡ Ok steps
moves_read_back machine steps finished is all =
    lines_read_back machine (moves_schedule steps finished) is
    (All-append (IsOfTorus machine.shape) (map Move steps) (End finished ∷ []) (of_torus-map machine.shape steps all) (end_of_torus machine.shape finished))
    ∙ ap Ok (moves_among-append (map Move steps) (End finished ∷ []) ∙ append-nil (moves_among (map Move steps)) ∙ moves_among-map steps)
