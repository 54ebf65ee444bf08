-- The lines of rounds and of one more.
use Rattle.std.proofs.Common.{◌≡◌, ◌+◌, ℕ, List, [], ◌∷◌, ◌++◌, length, sym, ap, ◌∙◌, arith, append_assoc, append-nil}
use Rattle.torus.specs.declared.step.Step.{Step}
use Rattle.command_schedule.specs.declared.line.ScheduleLine.{ScheduleLine}
use Rattle.command_schedule.specs.Schedule.{round_lines, lines_of_rounds}

pub one_more_round : (number : ℕ) (rounds : List (List Step)) (steps : List Step)
    → lines_of_rounds number (rounds ++ steps ∷ []) ≡ lines_of_rounds number rounds ++ round_lines (number + length rounds) steps
one_more_round number [] steps =
    let same : number + 0 ≡ number = omega arith in
    append-nil (round_lines number steps) ∙ ap (λ (n : ℕ). round_lines n steps) (sym same)
one_more_round number (first ∷ rounds) steps =
    let same : (number + 1) + length rounds ≡ number + length (first ∷ rounds) = omega arith in
    let last : List ScheduleLine = round_lines (number + 1 + length rounds) steps in
    ap (λ (more : List ScheduleLine). round_lines number first ++ more) (one_more_round (number + 1) rounds steps)
    ∙ sym (append_assoc (round_lines number first) (lines_of_rounds (number + 1) rounds) last)
    ∙ ap (λ (n : ℕ). (round_lines number first ++ lines_of_rounds (number + 1) rounds) ++ round_lines n steps) same
