use Rattle.network_machine.specs.Inside.{AreEmpty}
use Rattle.network_machine.proofs.opening.empty_channels.Given as goal

-- those so far
abbrev pub invariant-loop-done : goal.invariant-loop-done
invariant-loop-done g l = record {
  so_far : AreEmpty l._done l.depth l.channels.items;
}
