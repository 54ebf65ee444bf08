-- What a fault of a text is to the program, where a command refuses the text.
use Rattle.std.proofs.Common.{◌≡◌, List, [], ℕ, Option, Some, None, refl, subst, sym}
use Rattle.std.proofs.lemmas.List.{append-nil}
use Rattle.torus.specs.declared.fault.Fault.{Fault}
use Rattle.torus.specs.declared.fault.Fault.TheVariants as fault
use Rattle.lexer.specs.declared.fault.LineFault.{LineFault}
use Rattle.std.specs.Io.KnownBytes.{Appends}
use Rattle.program_fault.specs.declared.fault.ProgramFault.{ProgramFault}
use Rattle.program_fault.specs.declared.fault.ProgramFault.TheVariants as program
use Rattle.program_fault.specs.Done.{Output, Refused}
use Rattle.program_fault.specs.Outcome.{of_found, of_line}

by_kind : {A : Type 0} (gives : A → List ℕ → Type 0) (refuses : ProgramFault → Type 0) (o : Output) (f : Fault) (found : LineFault)
    → refuses (program.Line found) → Refused gives refuses o o (of_found f found)
by_kind gives refuses o fault.Radix found is = (is, refl)
by_kind gives refuses o fault.Dimensions found is = (is, refl)
by_kind gives refuses o fault.Tiles found is = (is, refl)
by_kind gives refuses o fault.Line found is = (is, refl)
by_kind gives refuses o fault.Setting found is = (is, refl)
by_kind gives refuses o fault.Range found is = (is, refl)
by_kind gives refuses o fault.Address found is = (is, refl)
by_kind gives refuses o fault.Processor found is = (is, refl)
by_kind gives refuses o fault.Length found is = (is, refl)
by_kind gives refuses o fault.Last found is = (is, refl)
by_kind gives refuses o fault.Step found is = (is, refl)
by_kind gives refuses o fault.Memory found is = (refl, refl)
by_kind gives refuses o fault.Count found is = (is, refl)
by_kind gives refuses o fault.Dateline found is = (is, refl)

-- the text is refused, but for out of memory
pub refused_by : {A : Type 0} (gives : A → List ℕ → Type 0) (refuses : ProgramFault → Type 0) (o : Output) (found : LineFault) (why : ProgramFault)
    → why ≡ of_line found → refuses (program.Line found) → Refused gives refuses o o why
refused_by gives refuses o found why kind is = subst (Refused gives refuses o o) (sym kind) (by_kind gives refuses o found.fault found is)

-- nothing was written
pub none_taken : (taken : Option (List ℕ)) → Appends taken taken []
none_taken None = tt
none_taken (Some bytes) = sym (append-nil bytes)
