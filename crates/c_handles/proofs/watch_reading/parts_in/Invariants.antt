use Rattle.std.proofs.Common.{◌≡◌, drop}
use Rattle.c_handles.specs.Views.{parts_of}
use Rattle.c_handles.specs.WatchReading.{after_rows, no_parts}
use Rattle.c_handles.proofs.watch_reading.parts_in.Given as goal

-- what is left of the rows leads where all of them lead
abbrev pub invariant-loop-place : goal.invariant-loop-place
invariant-loop-place g l = after_rows (parts_of l.parts) (drop l.place l.rows) ≡ after_rows no_parts l.rows
