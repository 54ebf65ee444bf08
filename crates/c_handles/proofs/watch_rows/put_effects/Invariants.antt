use Rattle.std.proofs.Common.{◌≡◌, ◌++◌, take}
use Rattle.std.specs.List.{flat_map}
use Rattle.c_handles.specs.WatchRows.{effect_rows}
use Rattle.c_handles.proofs.watch_rows.put_effects.Given as goal

-- the rows so far are put
abbrev pub invariant-loop-i : goal.invariant-loop-i
invariant-loop-i g l = l.rows.items ≡ l.fn.rows.items ++ flat_map effect_rows (take l.i l.effects)
