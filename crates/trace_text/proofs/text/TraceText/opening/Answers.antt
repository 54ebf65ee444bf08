use Rattle.std.proofs.Common.{◌∙◌, ap}
use Rattle.std.specs.Prelude.{slice_index}
use Rattle.trace_text.specs.Traced.{TraceSpec, opening_of}
use Rattle.trace_text.specs.Views.{trace_so_far}
use Rattle.trace_text.proofs.Opening.{opening_is}
use Rattle.trace_text.proofs.text.TraceText.opening.Goals as goal

pub returns : goal.returns
returns g c =
    c.opening.ensures
    ∙ (opening_is (trace_so_far c.self.inside.reading) c.self.invariant c.args.address
    ∙ ap (λ (t : TraceSpec). slice_index (opening_of t) c.args.address) c.self.view_is)
