use Rattle.std.proofs.Common.{◌≡◌, ◌∙◌, List, map, ap, sym, slice_get}
use Rattle.torus.specs.Shape.{tiles_of}
use Rattle.trace_answer.specs.declared.service.Service.{Service}
use Rattle.trace_answer.specs.Contents.{entries_of, answers_of_services, service_line}
use Rattle.trace_answer.specs.Report.{banks_of}
use Rattle.trace_answer.specs.Services.{services_told}
use Rattle.trace_answer.proofs.Given.{index_of}
use Rattle.trace_answer.proofs.report.parts_of.Goals as goal

pub answers_of_services-requires : goal.answers_of_services-requires
answers_of_services-requires g c =
    let e : c.deref-2.result.now ≡ services_told c.args.trace.now c.tiles-tiles.result c.args.times.now c.args.order.now =
    c.deref-2.ensures.value ∙ c.in_ok-services.ensures.services in
    λ k s h. index_of c.args.trace.now c.tiles-tiles.result c.args.times.now c.args.order.now c.requires.whole c.requires.explains c.requires.fit k s
    (ap (λ (xs : List Service). slice_get xs k) (sym e) ∙ h)

pub returns : goal.returns
returns g c =
    let n : c.tiles-tiles.result ≡ banks_of c.args.trace.now = c.tiles-tiles.ensures.value ∙ ap tiles_of c.requires.torus in
    let are : c.in_ok-services.services.items ≡ services_told c.args.trace.now (banks_of c.args.trace.now) c.args.times.now c.args.order.now =
    c.in_ok-services.ensures.services ∙ ap (λ m. services_told c.args.trace.now m c.args.times.now c.args.order.now) n in
    record {
      torus = c.requires.torus;
      opening = c.in_ok-opening.ensures;
      entries = c.in_ok-entries.ensures
          ∙ (ap (entries_of c.tiles-tiles.result) (c.deref.ensures.value ∙ are)
          ∙ ap (λ m. entries_of m (services_told c.args.trace.now (banks_of c.args.trace.now) c.args.times.now c.args.order.now)) n);
      answers = c.in_ok-answers.ensures
          ∙ (ap (answers_of_services c.tiles-tiles.result) (c.deref-2.ensures.value ∙ are)
          ∙ ap (λ m. answers_of_services m (services_told c.args.trace.now (banks_of c.args.trace.now) c.args.times.now c.args.order.now)) n);
      last = c.in_ok-services.ensures.words;
      ordered = c.in_ok-order.ensures ∙ ap (map service_line) (c.deref-3.ensures.value ∙ are);
      finished = c.all_answered-finished.ensures;
    }
