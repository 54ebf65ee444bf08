-- Each processor has its answers.
use Rattle.std.proofs.Common.{◌≡◌, ◌<◌, ◌≤◌, sym, ◌∙◌, ap, arith, length}
use Rattle.std.specs.Option.{option_copied}
use Rattle.std.proofs.lemmas.List.{take_all}
use Rattle.torus.specs.Shape.{tiles_of}
use Rattle.core_laws.specs.Machine.{Core, shown}
use Rattle.core_laws.specs.Reported.{ReportsWell}
use Rattle.machine_report.proofs.RowMore.{lent_more, none_past}
use Rattle.machine_report.proofs.answers.answers_of.Goals.{in-Some+in_ok-push, in_default}
use Rattle.machine_report.proofs.answers.answers_of.Goals as goal

pub loop-processor-preserved : goal.loop-processor-preserved
loop-processor-preserved g c =
    let core : Core = g.S.Reached.core c.args.reached.now in
    let well : ReportsWell core = c.reports_well.ensures in
    let test = c.loop-processor-test.true in
    let tiles = c.tiles-processor-end.ensures.value in
    let count : length (shown core).answers ≡ tiles_of c.torus.result.now = well.shows.sizes.answerers ∙ sym (ap tiles_of c.torus.ensures) in
    let inside : c.loop-processor.processor < length (shown core).answers = omega (arith, test, tiles, count) in
    elim c.match-answers.branch [
      | in-Some+in_ok-push w ↦ lent_more (shown core).answers c.loop-processor.rows.items _ c.loop-processor.processor w.in-Some.answers
          (ap option_copied (sym w.in-Some.is) ∙ c.answers.ensures) (ap (λ v. v.items) w.rows-is ∙ w.in_ok-push.ensures.items) c.loop-processor.invariant
      | in_default w ↦ absurd (none_past (shown core).answers c.loop-processor.processor inside (ap option_copied (sym w.in_default.is) ∙ c.answers.ensures))
    ]

pub returns : goal.returns
returns g c =
    let core : Core = g.S.Reached.core c.args.reached.now in
    let well : ReportsWell core = c.reports_well.ensures in
    let tiles = c.tiles-processor-end.ensures.value in
    let count : length (shown core).answers ≡ tiles_of c.torus.result.now = well.shows.sizes.answerers ∙ sym (ap tiles_of c.torus.ensures) in
    let past : length (shown core).answers ≤ c.loop-processor.processor = omega (arith, tiles, count) in
    c.loop-processor.invariant ∙ take_all c.loop-processor.processor (shown core).answers past
