-- What a log says of the operations of its trace beside their kinds: annotations, pairs, what fences
-- keep in order, and dependencies.
use Rattle.std.specs.Prelude.{◌≡◌, ℕ, ◌==◌, ◌||◌, Bool, not, List, ◌++◌, length, map, replicate}
use Rattle.std.specs.Prelude.{option_map}
use Rattle.weak_models.specs.declared.notes.Dependency.{Dependency}
use Rattle.weak_models.specs.declared.notes.Note.{Note}
use Rattle.weak_models.specs.Notes.{bare_note}
use Rattle.model_text.specs.declared.notes.LogNotes.{LogNotes}
use Rattle.model_text.specs.Depends.{note_by}
use Rattle.model_text.specs.Made.{LogLines}
use Rattle.model_text.specs.Traces.{numbers_of_log, trace_spot}

-- whether a line says something of an operation beside its kind, or of a dependency
abbrev pub is_annotated : LogLines → Bool
is_annotated log = not (length log.notes == 0) || not (length log.dependencies == 0)

-- a note whose pair is a place in the trace
abbrev pub note_in_trace : LogLines → Note → Note
note_in_trace log note = record {
  acquire = note.acquire;
  release = note.release;
  rcpc = note.rcpc;
  pair = option_map (trace_spot log) note.pair;
  fence = note.fence;
}

-- the note of the operation of a number
abbrev pub note_of_log : LogLines → ℕ → Note
note_of_log log n = note_in_trace log (note_by log n)

-- the notes of the trace: none of opening stores
abbrev pub notes_of_log : LogLines → List Note
notes_of_log log =
    replicate (length log.addresses) bare_note ++ map (note_of_log log) (numbers_of_log log)

-- the dependencies of the trace
abbrev pub dependency_of_log : LogLines → Dependency → Dependency
dependency_of_log log d = record {
  on = trace_spot log d.on;
  operation = trace_spot log d.operation;
  kind = d.kind;
}

abbrev pub dependencies_of_log : LogLines → List Dependency
dependencies_of_log log = map (dependency_of_log log) log.dependencies

-- exactly what the lines of a log say
pub record TellsNotes {A : Type 0} (log : LogLines) (n : LogNotes A) : Type 0 where
  pub notes : n.notes.items ≡ notes_of_log log
  pub dependencies : n.dependencies.items ≡ dependencies_of_log log
