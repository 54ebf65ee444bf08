use Rattle.std.proofs.Common.{◌≡◌, map}
use Rattle.std.specs.List.{range_with_len}
use Rattle.machine_core.specs.Clocked.{turned_round}
use Rattle.command_schedule.proofs.turned_list.each_turn.Given as goal

-- the lists of the turns so far
abbrev pub invariant-loop-first : goal.invariant-loop-first
invariant-loop-first g l = map (λ list. list.items) l.turned.items ≡ map (turned_round l.torus) (range_with_len 0 l.first)
