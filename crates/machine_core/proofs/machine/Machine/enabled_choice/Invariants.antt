use Rattle.std.proofs.Common.{◌≡◌, drop}
use Rattle.machine_parts.specs.Core.{attempts_of}
use Rattle.machine_core.specs.Rounds.{first_in}
use Rattle.machine_core.proofs.machine.Machine.enabled_choice.Given as goal

-- the choices that are left have the first that all of them have
abbrev pub invariant-loop-choice : goal.invariant-loop-choice
invariant-loop-choice g l = first_in l.self (attempts_of l.agent (drop l.choice-index l.choices)) ≡ first_in l.self (attempts_of l.agent l.choices)
