use Rattle.std.proofs.Common.{◌≡◌, ◌≤◌, ◌+◌, length, take}
use Rattle.network_rounds.specs.Attempts.{AddsEnabled}
use Rattle.network_rounds.proofs.picking.pick_choices.Given as goal

-- those of the choices so far
abbrev pub invariant-loop-k : goal.invariant-loop-k
invariant-loop-k g l = record {
  size : length l.enabled ≡ length l.initial.enabled;
  few : l.picked ≤ l.fn.count + l.k;
  adds : AddsEnabled l.machine (take l.k l.moves) (take l.fn.count l.initial.enabled) (take l.picked l.enabled);
}
