-- The operations of a script are no more than those of all.
use Rattle.std.proofs.Common.{◌≤◌, ◌+◌, ◌++◌, arith, ap, sym, ◌∙◌}
use Rattle.std.proofs.lemmas.List.Sums.{sum_by-take-le}
use Rattle.script_lines.specs.Views.{lists_of}
use Rattle.script_lines.specs.Lines.{operation_count, total_count}
use Rattle.order_book.proofs.Counts.{lists_more}
use Rattle.command_schedule.specs.Answers.{bound_of}
use Rattle.command_schedule.proofs.Bounded.{bounds_more}
use Rattle.command_schedule.proofs.answer_count.bounds_of.Goals as goal

pub push_bound-requires : goal.push_bound-requires
push_bound-requires g c =
    let m = lists_more operation_count c.args.scripts.now c.loop-script.script-index c.script-item.result c.loop-script-test.true c.script-item.is in
    let w = sum_by-take-le operation_count (lists_of c.args.scripts.now) (c.loop-script.script-index + 1) in
    let v = ap operation_count c.as_slice.ensures.value in
    let few : total_count (lists_of c.args.scripts.now) ≤ 65536 = c.requires in
    omega arith

pub loop-script-preserved : goal.loop-script-preserved
loop-script-preserved g c =
    c.in_ok-push_bound.ensures
    ∙ ap (λ lines. c.loop-script.bounds.items ++ bound_of lines) c.as_slice.ensures.value
    ∙ ap (λ bounds. bounds ++ bound_of c.script-item.result.lines.items) c.loop-script.invariant
    ∙ sym (bounds_more c.args.scripts.now c.loop-script.script-index c.script-item.result c.loop-script-test.true c.script-item.is)
