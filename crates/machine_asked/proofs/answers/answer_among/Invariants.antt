use Rattle.std.proofs.Common.{◌≡◌, ◌==◌, drop}
use Rattle.std.specs.List.{find}
use Rattle.machine_asked.proofs.answers.answer_among.Given as goal

-- what is left of the answers has the first that is to the operation
abbrev pub invariant-loop-answer : goal.invariant-loop-answer
invariant-loop-answer l = find (λ a. a.index == l.index) (drop l.answer-index l.answers) ≡ find (λ a. a.index == l.index) l.answers
