use Rattle.std.proofs.Common.{◌≡◌, ◌≤◌, ◌+◌, length, take}
use Rattle.std.specs.List.{sum_by}
use Rattle.network_rounds.specs.Attempts.{AddsEnabled}
use Rattle.network_rounds.specs.Flags.{choices_of}
use Rattle.network_rounds.specs.Rounds.{turned_groups}
use Rattle.network_rounds.proofs.picking.pick_groups.Given as goal

-- those of the groups so far
abbrev pub invariant-loop-k : goal.invariant-loop-k
invariant-loop-k g l = record {
  size : length l.enabled ≡ length l.initial.enabled;
  from : l.from ≡ length (choices_of (take l.k l.groups));
  few : l.picked ≤ l.fn.count + sum_by (λ group. length group.items) (take l.k l.groups);
  adds : AddsEnabled l.machine (turned_groups l.turn (take l.k l.groups)) (take l.fn.count l.initial.enabled) (take l.picked l.enabled);
}
