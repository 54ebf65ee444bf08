-- Each processor has its answers, which are counted too.
use Rattle.std.proofs.Common.{◌≡◌, ◌<◌, sym, ◌∙◌, ap, arith, length}
use Rattle.std.proofs.lemmas.Grind.{common_steps}
use Rattle.std.specs.Option.{option_copied}
use Rattle.torus.specs.Shape.{tiles_of}
use Rattle.core_laws.specs.Machine.{shown}
use Rattle.core_laws.specs.Reported.{ReportsWell}
use Rattle.machine_report.proofs.RowMore.{none_past}
use Rattle.command_texts.proofs.Counted.{count_more}
use Rattle.command_texts.proofs.in_rounds.answered.Goals.{in-Some, in_default}
use Rattle.command_texts.proofs.in_rounds.answered.Goals as goal

pub loop-processor-preserved : goal.loop-processor-preserved
loop-processor-preserved g c =
    let well : ReportsWell c.args.machine.now =
    c.reached_machines_report_well.ensures c.reached.ensures.after.0 c.args.machine.now c.reached.ensures.after.1 c.reached.ensures.after.2 in
    let test = c.loop-processor-test.true in
    let tiles = c.tiles-processor-end.ensures.value in
    let count : length (shown c.args.machine.now).answers ≡ tiles_of c.torus.result.now = well.shows.sizes.answerers ∙ sym (ap tiles_of c.torus.ensures) in
    let inside : c.loop-processor.processor < length (shown c.args.machine.now).answers = omega (arith, test, tiles, count) in
    elim c.match-answers.branch [
      | in-Some w ↦ w.count-is ∙ (w.saturating_add-count.ensures
          ∙ count_more (shown c.args.machine.now).answers c.loop-processor.processor c.loop-processor.count w.in-Some.answers.now
          (sym (ap option_copied (sym w.in-Some.is) ∙ c.answers.ensures)) c.loop-processor.invariant)
      | in_default w ↦ absurd (none_past (shown c.args.machine.now).answers c.loop-processor.processor inside
          (ap option_copied (sym w.in_default.is) ∙ c.answers.ensures))
    ]

pub returns : goal.returns
returns g c = grind (arith, common_steps)
