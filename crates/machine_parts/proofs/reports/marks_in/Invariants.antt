use Rattle.std.proofs.Common.{◌≡◌, ◌≤◌, ◌*◌, take}
use Rattle.machine_parts.specs.Grown.{marks_in}
use Rattle.machine_parts.proofs.reports.marks_in.Given as goal

abbrev pub invariant-loop-agents : goal.invariant-loop-agents
invariant-loop-agents g l = (l.all ≡ marks_in (take l.agents-index l.tiles)) × (l.all ≤ 2 * l.agents-index)
