use Rattle.std.proofs.Common.{◌≡◌, ◌<◌, ◌≤◌, ◌+◌, refl, ◌∙◌, sym, ap, arith, length, get_or-set_other, length-set}
use Rattle.std.proofs.lemmas.List.Sums.{sum_by-take-le}
use Rattle.script_lines.specs.Views.{lists_of}
use Rattle.script_lines.specs.Lines.{operation_count, total_count}
use Rattle.order_book.proofs.Counts.{lists_more, lines_at, zeros_at, counts_more}
use Rattle.order_book.proofs.rooms.processor_rooms.Goals as goal

pub loop-processor-init : goal.loop-processor-init
loop-processor-init g c = record {
  size = refl;
  counted = λ p below. absurd (omega (arith, below));
  left = λ p above. zeros_at 64 p;
}

pub operation_count-requires : goal.operation_count-requires
operation_count-requires g c =
    let m = lists_more operation_count c.args.scripts.now c.loop-processor.processor c.index-scripts-processor.result c.loop-processor-test.true
    c.index-scripts-processor.is in
    let w = sum_by-take-le operation_count (lists_of c.args.scripts.now) (c.loop-processor.processor + 1) in
    let v = ap operation_count c.as_slice.ensures.value in
    let few : total_count (lists_of c.args.scripts.now) ≤ 65536 = c.requires.few in
    omega arith

pub loop-processor-preserved : goal.loop-processor-preserved
loop-processor-preserved g c =
    let size : length c.loop-processor.rooms ≡ 64 = c.loop-processor.invariant.size in
    let here : c.loop-processor.processor < length c.args.scripts.now = c.loop-processor-test.true in
    let few : length c.args.scripts.now ≤ 64 = c.requires.scripts in
    record {
      size = length-set c.loop-processor.rooms c.loop-processor.processor c.operation_count.result ∙ size;
      counted = counts_more c.loop-processor.rooms (lists_of c.args.scripts.now) c.loop-processor.processor c.operation_count.result (omega arith)
          (c.operation_count.ensures
          ∙ ap operation_count (c.as_slice.ensures.value
          ∙ sym (lines_at c.args.scripts.now c.loop-processor.processor c.index-scripts-processor.result here c.index-scripts-processor.is)))
          c.loop-processor.invariant.counted;
      left = λ p above. get_or-set_other c.loop-processor.rooms c.loop-processor.processor p c.operation_count.result 0 (λ same. absurd (omega arith))
          ∙ c.loop-processor.invariant.left p (omega arith);
    }
