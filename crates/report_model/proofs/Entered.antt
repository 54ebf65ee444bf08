-- The entries of the log that a report is, part by part.
use Rattle.std.proofs.Common.{◌≡◌, ◌∙◌, ◌++◌, List, Vec, map, ap}
use Rattle.std.specs.Prelude.{IfOk, Result, Ok, Err}
use Rattle.std.specs.List.{flat_map}
use Rattle.report_model.specs.declared.entry.LineEntry.{LineEntry}
use Rattle.report_model.specs.declared.row.ProgramStep.{ProgramStep}
use Rattle.report_model.specs.declared.row.ReportRow.{ReportRow}
use Rattle.report_model.specs.Entries.{entries_of, entries_with, made_entry, services}
use Rattle.report_model.specs.Indexes.{operation_step}
use Rattle.report_model.specs.Rows.{made_of, rows_of}
use Rattle.report_model.specs.Run.{ModelledRun}

pub all_entered : (r : ModelledRun) (rows : List ReportRow) (steps : List ProgramStep) (inits first last : List LineEntry) → rows ≡ rows_of r → inits ≡ r.inits
    → first ≡ inits ++ map made_entry steps → last ≡ first ++ flat_map (services steps) rows → last ≡ entries_with r steps
all_entered r rows steps inits first last rows_are opening issued served =
    served
    ∙ (ap (λ (t : List LineEntry). t ++ flat_map (services steps) rows) (issued ∙ ap (λ (t : List LineEntry). t ++ map made_entry steps) opening)
    ∙ ap (λ (x : List ReportRow). (r.inits ++ map made_entry steps) ++ flat_map (services steps) x) rows_are)

-- those without fences
pub of_entries : {A E : Type 0} (r : ModelledRun) (steps : List ProgramStep) (result : Result (Vec LineEntry A) E)
    → steps ≡ map operation_step (made_of (rows_of r)) → IfOk result (λ entries. entries.items ≡ entries_with r steps)
    → IfOk result (λ entries. entries.items ≡ entries_of r)
of_entries r steps (Ok entries) is made = made ∙ ap (entries_with r) is
of_entries r steps (Err e) is none = tt
