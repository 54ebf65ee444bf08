use Rattle.std.proofs.Common.{◌≡◌}
use Rattle.network_judge.specs.Ways.{place}
use Rattle.network_run.specs.Filling.{channels_before}
use Rattle.network_run.proofs.filling.way_of.Given as goal

-- the channels so far
abbrev pub invariant-loop-step : goal.invariant-loop-step
invariant-loop-step g l = record {
  before : l.before.items ≡ channels_before l.network.table l.fill.to l.fill.from l._step;
  last : l.last ≡ place l.network.table l.fill.to l.fill.from l._step;
}
