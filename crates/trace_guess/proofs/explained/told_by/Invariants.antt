use Rattle.std.proofs.Common.{◌≡◌, take}
use Rattle.packet.specs.Memory.{replies}
use Rattle.trace_laws.specs.Orders.{memory_of, operations_of}
use Rattle.trace_guess.proofs.explained.told_by.Given as goal

abbrev pub invariant-loop-x : goal.invariant-loop-x
invariant-loop-x g l = record {
  told : l.told.items ≡ replies (operations_of (take l.x l.order)) l.fn.words;
  words : l.words ≡ memory_of l.fn.words (take l.x l.order);
}
