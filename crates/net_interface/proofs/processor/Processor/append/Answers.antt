use Rattle.one_order.specs.ProcessorRecord.{ready}
use Rattle.net_interface.proofs.processor.Processor.append.Goals as goal

pub invariant_of-self-then-self-eq0 : goal.invariant_of-self-then-self-eq0
invariant_of-self-then-self-eq0 g c =
    let s = c.self.inside in
    let is = c.self.invariant in
    record {
      tile = is.tile;
      few = is.few;
      inputs = is.inputs;
      outputs = is.outputs;
      next = λ _. c.ready-self-inside.ensures.value;
      flits = λ _. c.request_flits-self-inside.ensures s.words (ready c.append.new.self) c.ready-self-inside.ensures.value;
      begun = is.begun;
      left = λ no. absurd (no c.if-self-eq0.true);
    }
