use Rattle.std.proofs.Common.{ℕ, ◌<◌}
use Rattle.network_adaptive.specs.Longest.{IsMostPassed}
use Rattle.network_adaptive.specs.Travel.{HasNumbersTo, step_to}
use Rattle.network_adaptive.proofs.travel.travel_of.Given as goal

-- numbers rise over the choices for each destination so far, and over how many channels packets go
abbrev pub invariant-loop-to : goal.invariant-loop-to
invariant-loop-to g l = record {
  numbers : (j : ℕ) → j < l.to → HasNumbersTo l.kinds l.joins l.choices l.ways l.none j;
  passed : IsMostPassed l.joins (step_to l.kinds l.choices l.ways l.none) l.to l.most;
}
