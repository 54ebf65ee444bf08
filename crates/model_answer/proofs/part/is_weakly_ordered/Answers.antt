use Rattle.std.proofs.Common.{List, subst, sym}
use Rattle.weak_models.specs.declared.notes.Dependency.{Dependency}
use Rattle.weak_models.specs.declared.notes.Note.{Note}
use Rattle.weak_models.specs.Verdict.{IsRvwmoVerdict}
use Rattle.model_text.specs.Noted.{dependencies_of_log, notes_of_log}
use Rattle.model_text.specs.Views.{log_so_far}
use Rattle.model_answer.proofs.Weakly.{rvwmo_told}
use Rattle.model_answer.proofs.part.is_weakly_ordered.Goals as goal

pub returns : goal.returns
returns g c =
    let log = log_so_far c.args.log.now in
    let ops = c.args.trace.now.operations.items in
    let writes = c.args.trace.now.writes.items in
    let v = c.in_ok-verdict.verdict in
    rvwmo_told (notes_of_log log) (dependencies_of_log log) ops writes v c.is_explained.result
    (subst (λ (n : List Note). IsRvwmoVerdict n (dependencies_of_log log) ops writes v) c.in_ok-said.ensures.notes
    (subst (λ (d : List Dependency). IsRvwmoVerdict c.in_ok-said.said.notes.items d ops writes v) c.in_ok-said.ensures.dependencies c.in_ok-verdict.ensures))
    (sym c.is_explained.ensures)
