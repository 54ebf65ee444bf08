use Rattle.std.proofs.Common.{◌≡◌, ◌++◌, take, map}
use Rattle.c_handles.specs.WatchRows.{glimpse_row}
use Rattle.c_handles.proofs.watch_rows.put_glimpses.Given as goal

-- the rows so far are put
abbrev pub invariant-loop-i : goal.invariant-loop-i
invariant-loop-i g l = l.rows.items ≡ l.fn.rows.items ++ map glimpse_row (take l.i l.seen)
