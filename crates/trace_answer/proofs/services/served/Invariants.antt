use Rattle.std.proofs.Common.{◌≡◌, take}
use Rattle.packet.specs.Memory.{replies}
use Rattle.trace_laws.specs.Orders.{memory_of, operations_of}
use Rattle.trace_answer.proofs.services.served.Given as goal

-- the operations so far are served
abbrev pub invariant-loop-i : goal.invariant-loop-i
invariant-loop-i g l = record {
  told : l.told.items ≡ replies (operations_of (take l.i l.order)) l.fn.words.items;
  words : l.words.items ≡ memory_of l.fn.words.items (take l.i l.order);
}
