use Rattle.std.proofs.Common.{◌≡◌, take}
use Rattle.trace_watch.specs.States.{configs_of}
use Rattle.trace_watch.proofs.copying.states_copied.Given as goal

-- the states so far are copied
abbrev pub invariant-loop-i : goal.invariant-loop-i
invariant-loop-i g l = configs_of l.copies.items ≡ configs_of (take l.i l.states)
