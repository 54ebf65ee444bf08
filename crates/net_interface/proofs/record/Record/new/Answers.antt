use Rattle.std.proofs.Common.{◌≡◌, [], List, length, ap, ◌∙◌, sym, subst, arith}
use Rattle.packet.specs.declared.kinds.Operation.{Operation}
use Rattle.script_lines.specs.declared.line.Line.{Line}
use Rattle.script_lines.specs.Lines.{operation_count}
use Rattle.one_order.specs.ProcessorRecord.{ProcessorRecord}
use Rattle.net_interface.specs.Inside.{AreOperationsOf}
use Rattle.net_interface.proofs.Recorded.{at_start, new_record}
use Rattle.net_interface.proofs.Reserved.{left_first}
use Rattle.net_interface.proofs.record.Record.new.Goals as goal

pub invariant_of-result : goal.invariant_of-result
invariant_of-result g c =
    let room : c.operation_count-room.result ≡ operation_count c.args.lines.items =
    c.operation_count-room.ensures ∙ ap (λ (lines : List Line). operation_count lines) c.as_slice.ensures.value in
    let left = left_first c.args.lines.items c.new.result c.new.ensures in
    let none = ap (λ (xs : List Operation). length xs) c.in_ok-issued.ensures.items in
    record {
      lines = c.args.lines.items;
      past = [];
      now = 0;
      operations = subst (λ (b : ProcessorRecord). AreOperationsOf c.args.lines.items [] 0 b)
          (sym (new_record c.args.tags c.args.lines.items c.new.result c.new-2.result c.in_ok-issued.issued.items c.in_ok-answers.answers.items c.new.ensures
          c.new-2.ensures c.in_ok-issued.ensures.items c.in_ok-answers.ensures.items))
          (at_start c.args.tags c.args.lines.items c.requires.followable);
      issued_room = omega (arith, c.in_ok-issued.ensures.capacity, room, left, none);
      answers_room = omega (arith, c.in_ok-answers.ensures.capacity, room, left, none);
    }
