use Rattle.std.proofs.Common.{◌≡◌, ◌++◌, take, All}
use Rattle.std.specs.List.{flat_map}
use Rattle.machine_record.specs.Widths.{IsHalf}
use Rattle.machine_record.specs.Bytes.{half_bytes}
use Rattle.machine_record.proofs.bytes.put_actions.Given as goal

-- the actions so far are put
abbrev pub invariant-loop-action : goal.invariant-loop-action
invariant-loop-action g l = record {
  put : l.bytes.items ≡ l.fn.bytes.items ++ flat_map half_bytes (take l.action-index l.actions);
  fit : All IsHalf (take l.action-index l.actions);
}
