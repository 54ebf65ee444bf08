use Rattle.std.proofs.Common.{length}
use Rattle.torus.specs.Shape.{tiles_of}
use Rattle.core_laws.specs.Core.{run_of}
use Rattle.core_laws.specs.Runs.{event_of}
use Rattle.core_laws.proofs.EveryRun.{run_is_history}
use Rattle.core_laws.proofs.MachineHistories.{history_is_trace, history_is_linearizable}
use Rattle.core_laws.proofs.history_laws.runs_are_linearizable_traces.Goals as goal

pub returns : goal.returns
returns c = record {
  trace = λ l steps ok. history_is_trace (tiles_of l.shape) l.tags l.opening (run_of l steps)
      (event_of l steps) (length steps) (run_is_history l ok steps (length steps));
  linearizable = λ l steps ok. history_is_linearizable (tiles_of l.shape) l.tags l.opening (run_of l steps)
      (event_of l steps) (length steps) (run_is_history l ok steps (length steps));
}
