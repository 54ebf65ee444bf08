use Rattle.std.proofs.Common.{◌+◌, [], arith, refl}
use Rattle.one_order.specs.ProcessorRecord.{ready}
use Rattle.net_interface.specs.Inside.{processor_place_of, flits_in_course}
use Rattle.net_interface.proofs.Course.{some_due, put_within, left_more, left_none, sent_place}
use Rattle.net_interface.proofs.processor.Processor.sent.Goals as goal

pub overflow_add-self-inside : goal.overflow_add-self-inside
overflow_add-self-inside g c =
    let s = c.self.inside in
    let is = c.self.invariant in
    let low = put_within s.tiles s.words s.tile s.put s.flits.items s.operations is.flits is.left
    (some_due (processor_place_of s) c.args.self.now c.self.view_is c.requires) in
    omega (arith, low, c.len-count.ensures)

pub invariant_of-self-else-self-count : goal.invariant_of-self-else-self-count
invariant_of-self-else-self-count g c =
    let s = c.self.inside in
    let is = c.self.invariant in
    record {
      tile = is.tile;
      few = is.few;
      inputs = is.inputs;
      outputs = is.outputs;
      next = λ _. c.ready-self-inside.ensures.value;
      flits = λ _. c.request_flits-self-inside.ensures s.words (ready c.begin.new.operations) c.ready-self-inside.ensures.value;
      begun = is.begun;
      left = λ no. absurd (no refl);
    }

pub returns-then-self-count : goal.returns-then-self-count
returns-then-self-count g c =
    let s = c.self.inside in
    let is = c.self.invariant in
    rw (← c.self.view_is) (sent_place (processor_place_of s) c.begin.new.operations (flits_in_course (s.put + 1) s.flits.items) s.put s.flits.items refl is.left
    (c.begin.ensures s.tiles s.words s.tile)
    (left_more s.tiles s.words s.tile s.put s.flits.items s.operations is.flits is.left (some_due (processor_place_of s) c.args.self.now c.self.view_is c.requires)))

pub returns-else-self-count : goal.returns-else-self-count
returns-else-self-count g c =
    let s = c.self.inside in
    let is = c.self.invariant in
    rw (← c.self.view_is) (sent_place (processor_place_of s) c.begin.new.operations [] s.put s.flits.items refl is.left
    (c.begin.ensures s.tiles s.words s.tile)
    (left_none s.tiles s.words s.tile s.put s.flits.items s.operations is.flits is.left (some_due (processor_place_of s) c.args.self.now c.self.view_is c.requires)
    (omega (arith, c.len-count.ensures, c.if-self-count.false))))
