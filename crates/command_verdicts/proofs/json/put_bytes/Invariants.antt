use Rattle.std.proofs.Common.{◌≡◌, ◌++◌, take}
use Rattle.std.specs.List.{flat_map}
use Rattle.command_verdicts.specs.Json.{json_byte}
use Rattle.command_verdicts.proofs.json.put_bytes.Given as goal

-- the bytes so far are put
abbrev pub invariant-loop-byte : goal.invariant-loop-byte
invariant-loop-byte g l = l.json.items ≡ l.fn.json.items ++ flat_map (json_byte l.utf8) (take l.byte-index l.line)
