use Rattle.std.proofs.Common.{sym, ap, length, arith, refl}
use Rattle.flit_buffer.specs.Channel.{first_of}
use Rattle.flit_buffer.specs.Wants.{PortEnds}
use Rattle.one_order.specs.ProcessorRecord.{ready}
use Rattle.net_interface.proofs.processor.Processor.new.Goals as goal

pub invariant_of-result : goal.invariant_of-result
invariant_of-result g c = record {
  tile = omega (arith, c.requires.tile, c.tiles-tiles.ensures.value);
  few = omega (arith, c.tiles-tiles.ensures.accepted.tiles, c.tiles-tiles.ensures.value);
  inputs = ap (λ (p : PortEnds). length p.inputs) c.in_ok-ports.ensures;
  outputs = ap (λ (p : PortEnds). length p.outputs) c.in_ok-ports.ensures;
  next = λ _. c.ready-next.ensures.value;
  flits = λ _. c.request_flits-flits.ensures c.args.words (ready c.in_ok-operations.operations) c.ready-next.ensures.value;
  begun = sym (ap first_of c.new-2.ensures);
  left = λ no. absurd (no refl);
}
