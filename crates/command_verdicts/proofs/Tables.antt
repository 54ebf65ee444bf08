-- What is answered of the trace text of a table is what is answered of the table, with its lines.
use Rattle.std.specs.Prelude.{◌≡◌, ◌⊎◌, ℕ, List, Result, Ok, Err}
use Rattle.std.specs.Str.Lines.{lines}
use Rattle.std.proofs.Common.{inl, inr, refl, subst, sym}
use Rattle.torus.specs.declared.fault.Fault.TheVariants as fault
use Rattle.lexer.specs.declared.fault.LineFault.{LineFault}
use Rattle.program_fault.specs.declared.fault.ProgramFault.{ProgramFault}
use Rattle.program_fault.specs.declared.fault.ProgramFault.TheVariants as program
use Rattle.program_fault.specs.Done.{Output, Does, Refused}
use Rattle.program_fault.specs.Outcome.{of_found, of_line}
use Rattle.command_verdicts.specs.declared.command.Judged.{Judged}
use Rattle.command_verdicts.specs.Judging.{IsTraceFault}
use Rattle.command_verdicts.specs.Tables.{IsRefusedTable, IsTableFault, IsTableJudgement, IsTraceOfTable}
use Rattle.command_verdicts.specs.Tables.{answer_in_table, verdict_in_table}
use Rattle.command_verdicts.proofs.Refusals.{refused_by}

pub in_table : (judges : List (List ℕ) → Judged → List ℕ → Type 0) (table : List (List ℕ)) (text events : List ℕ)
    → IsTraceOfTable table text events → (old new : Output) (answer : Result Judged ProgramFault)
    → Does (judges (lines text)) (IsTraceFault (lines text)) old new answer
    → Does (IsTableJudgement judges table) (IsTableFault table) old new (answer_in_table events answer)
in_table judges table text events trace old new (Ok verdict) does = (
  does.0,
  record { text = text; events = events; trace = trace; found = verdict; judged = does.1; is = refl },
  does.2,
)
in_table judges table text events trace old new (Err program.Output) does = (
  verdict_in_table events does.0,
  (
    does.1.0,
    record { text = text; events = events; trace = trace; found = does.0; judged = does.1.1; is = refl },
    does.1.2,
  ),
)
in_table judges table text events trace old new (Err (program.Fault which)) does = does
in_table judges table text events trace old new (Err (program.Line found)) does = (
  inr (record { text = text; events = events; trace = trace; found = program.Line found; refused = does.0; is = refl }),
  does.1,
)
in_table judges table text events trace old new (Err program.Tile) does = absurd does.0
in_table judges table text events trace old new (Err (program.Bad line)) does = absurd does.0

pub table_refused : (judges : List (List ℕ) → Judged → List ℕ → Type 0) (table : List (List ℕ)) (o : Output)
    (found : LineFault) (why : ProgramFault) → why ≡ of_line found → (found.fault ≡ fault.Memory) ⊎ IsRefusedTable table found
    → Refused (IsTableJudgement judges table) (IsTableFault table) o o why
table_refused judges table o found why is (inl memory) =
    subst (Refused (IsTableJudgement judges table) (IsTableFault table) o o) (sym is)
    (subst (λ f. Refused (IsTableJudgement judges table) (IsTableFault table) o o (of_found f found)) (sym memory) (refl, refl))
table_refused judges table o found why is (inr refused) =
    refused_by (IsTableJudgement judges table) (IsTableFault table) o found why is (inl refused)
