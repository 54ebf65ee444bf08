use Rattle.std.proofs.Common.{◌≡◌, ◌++◌, take}
use Rattle.std.specs.List.{flat_map}
use Rattle.trace_watch.specs.States.{configs_of}
use Rattle.c_handles.specs.WatchRows.{config_rows}
use Rattle.c_handles.proofs.watch_rows.put_states.Given as goal

-- the rows so far are put
abbrev pub invariant-loop-i : goal.invariant-loop-i
invariant-loop-i g l = l.rows.items ≡ l.fn.rows.items ++ flat_map config_rows (configs_of (take l.i l.states))
