use Rattle.std.proofs.Common.{◌≡◌, length, sym, ◌∙◌, ap, arith}
use Rattle.std.specs.Option.{option_copied}
use Rattle.script_lines.specs.Lines.{operation_count}
use Rattle.machine_asked.proofs.OneMore.{told_more, none_past}
use Rattle.machine_asked.proofs.flags.counts_of.Goals.{in-Some+in_ok-push, in_default}
use Rattle.machine_asked.proofs.flags.counts_of.Goals as goal

pub loop-processor-preserved : goal.loop-processor-preserved
loop-processor-preserved g c =
    let test = c.loop-processor-test.true in
    let count = c.requires in
    elim c.match-lines.branch [
      | in-Some+in_ok-push w ↦ told_more operation_count c.args.scripts.now.lists c.loop-processor.counts.items _ c.loop-processor.processor w.in-Some.lines.now
          w.operation_count.result (ap option_copied (sym w.in-Some.is) ∙ c.lines.ensures.value) w.operation_count.ensures
          (ap (λ v. v.items) w.counts-is ∙ w.in_ok-push.ensures.items) c.loop-processor.invariant
      | in_default w ↦ absurd (none_past c.args.scripts.now.lists c.loop-processor.processor (omega (arith, test, count))
          (ap option_copied (sym w.in_default.is) ∙ c.lines.ensures.value))
    ]
