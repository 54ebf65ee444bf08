use Rattle.std.proofs.Common.{◌≡◌, map, take}
use Rattle.core_laws.specs.Machine.{shown}
use Rattle.machine_report.proofs.answers.answers_of.Given as goal

-- the answers of the processors so far are there
abbrev pub invariant-loop-processor : goal.invariant-loop-processor
invariant-loop-processor g l = map (λ own. own.now) l.rows.items ≡ take l.processor (shown (g.S.Reached.core l.reached)).answers
