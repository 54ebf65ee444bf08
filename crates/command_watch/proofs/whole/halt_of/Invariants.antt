use Rattle.std.proofs.Common.{take}
use Rattle.trace_laws.specs.Orders.{IsLinearizable}
use Rattle.trace_watch.specs.Follows.{Tracks}
use Rattle.command_watch.proofs.whole.halt_of.Given as goal

-- the events so far are tracked, and some order explains them
abbrev pub invariant-loop-place : goal.invariant-loop-place
invariant-loop-place g l = record {
  tracked : Tracks l.opening (take l.place l.events) l.watch;
  good : IsLinearizable l.opening (take l.place l.events);
}
