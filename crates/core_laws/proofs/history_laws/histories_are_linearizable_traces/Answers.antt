use Rattle.core_laws.proofs.MachineHistories.{history_is_trace, history_is_linearizable}
use Rattle.core_laws.proofs.history_laws.histories_are_linearizable_traces.Goals as goal

pub returns : goal.returns
returns c = record { trace = history_is_trace; linearizable = history_is_linearizable }
