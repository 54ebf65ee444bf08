use Rattle.std.proofs.Common.{◌≡◌, List, length, subst, sym}
use Rattle.torus.specs.Shape.{IsAccepted}
use Rattle.report_lines.specs.Parts.{lines_of_parts}
use Rattle.trace_laws.specs.declared.event.Event.{Event}
use Rattle.trace_text.specs.declared.issued.Issued.{Issued}
use Rattle.trace_answer.specs.declared.times.Times.{Times}
use Rattle.trace_answer.specs.Report.{IsReportOfOrder}
use Rattle.trace_answer.specs.Times.{AreTimes}
use Rattle.trace_answer.proofs.Parts.{if_ok, parts_fit, reported}
use Rattle.trace_answer.proofs.report.report_within.Goals as goal

pub of_shown-requires : goal.of_shown-requires
of_shown-requires g c =
    parts_fit c.args.trace.now c.deref.result.now c.args.order.now c.in_ok-parts.parts c.requires.fit
    (subst IsAccepted c.requires.torus c.tiles-tiles.ensures.accepted) c.in_ok-parts.ensures

pub returns : goal.returns
returns g c =
    let times : List Times = c.in_ok-times.times.items in
    let told : AreTimes c.args.trace.now.events (length c.args.trace.now.issued) c.deref.result.now =
    subst (AreTimes c.args.trace.now.events (length c.args.trace.now.issued)) (sym c.deref.ensures.value)
    (subst (λ (es : List Event). AreTimes es (length c.args.trace.now.issued) times) c.events.ensures.value
    (subst (λ (is : List Issued). AreTimes c.events.result.now (length is) times) c.issued.ensures c.in_ok-times.ensures)) in
    record {
      report = if_ok (λ lines. lines ≡ lines_of_parts c.in_ok-parts.parts) (IsReportOfOrder c.args.trace.now c.args.order.now) c.of_shown.result
          (λ lines is. reported c.args.trace.now c.deref.result.now c.args.order.now c.in_ok-parts.parts told c.in_ok-parts.ensures lines is)
          c.of_shown.ensures;
    }
