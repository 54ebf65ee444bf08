-- What `depends` lines of a log make of what the lines before them gave (this project's own format).
-- What a dependency is the RISC-V Instruction Set Manual, volume I, says, section Syntactic
-- Dependencies.
use Rattle.std.specs.Prelude.{ℕ, Bool, true, false, ◌||◌, ◌&&◌, not, nat_lt, List, [], ◌∷◌, ◌++◌}
use Rattle.std.specs.Prelude.{slice_get, unwrap_or, Option, Some, None, ok_or, Result, Ok, Err}
use Rattle.std.specs.Prelude.{if◌then◌else◌, codes}
use Rattle.std.specs.Str.{bytes_eq}
use Rattle.lexer.specs.Outcome.{◌>>=◌}
use Rattle.memory_models.specs.declared.kinds.Kind.{Kind}
use Rattle.memory_models.specs.declared.kinds.Kind.TheVariants as kind
use Rattle.memory_models.specs.Trace.{is_load}
use Rattle.trace_lines.specs.Form.{number_at}
use Rattle.trace_lines.specs.Head.{processor_read, value_in}
use Rattle.trace_lines.specs.Reasons.{map_err, unless_refused}
use Rattle.weak_models.specs.declared.notes.Dependency.{Dependency}
use Rattle.weak_models.specs.declared.notes.DependencyKind.{DependencyKind}
use Rattle.weak_models.specs.declared.notes.DependencyKind.TheVariants.{Address, Data, Control}
use Rattle.weak_models.specs.declared.notes.Note.{Note}
use Rattle.weak_models.specs.Notes.{bare_note, is_conditional}
use Rattle.model_text.specs.declared.reason.LogKeyword.TheVariants as key
use Rattle.model_text.specs.declared.reason.LogReason.{LogReason}
use Rattle.model_text.specs.declared.reason.LogReason.TheVariants as reason
use Rattle.model_text.specs.Form.{two_numbers}
use Rattle.model_text.specs.Made.{LogLines}
use Rattle.model_text.specs.Rows.{numbers_of_row}
use Rattle.model_text.specs.Sources.{if_made}
use Rattle.model_text.specs.Traces.{kind_of_step, logged_at}

-- the kind of dependency that a word names
abbrev pub dependency_named : List ℕ → Option DependencyKind
dependency_named word =
    if bytes_eq word (codes "address") then Some Address
    else (if bytes_eq word (codes "data") then Some Data
    else (if bytes_eq word (codes "control") then Some Control
    else None))

-- the number of the operation of a processor at an index, from 0
abbrev pub number_made : LogLines → ℕ → ℕ → Result ℕ LogReason
number_made r p index = if_made r p (slice_get (numbers_of_row r.rows p) index)

-- the note of the operation of a number, with its pair by number
abbrev pub note_by : LogLines → ℕ → Note
note_by r number = unwrap_or (value_in r.notes number) bare_note

abbrev pub is_fence : Kind → Bool
is_fence kind.Fence = true
is_fence kind.Load = false
is_fence kind.Store = false
is_fence kind.Atomic = false

abbrev pub is_data : DependencyKind → Bool
is_data Data = true
is_data Address = false
is_data Control = false

-- a store gives its processor nothing; but a store conditional does, whether it succeeded
abbrev pub gives_nothing : Kind → Note → Bool
gives_nothing kind.Store note = not (is_conditional note.pair)
gives_nothing kind.Load note = false
gives_nothing kind.Atomic note = false
gives_nothing kind.Fence note = false

-- why an operation of a kind may not depend in some way on one of a kind, with a note
abbrev pub depends_wrong : Kind → Kind → Note → DependencyKind → Option LogReason
depends_wrong operation on note how =
    if is_fence operation || is_fence on then Some reason.FenceNamed
    else (if gives_nothing on note then Some reason.GivesNothing
    else (if is_data how && is_load operation then Some reason.DataOfLoad
    else None))

-- the kind of the operation of a number
abbrev pub kind_made : LogLines → ℕ → Kind
kind_made r number = kind_of_step (logged_at r.made number).operation

abbrev pub dependency_wrong : LogLines → Dependency → Option LogReason
dependency_wrong r d =
    depends_wrong (kind_made r d.operation) (kind_made r d.on) (note_by r d.on) d.kind

-- one dependency more
abbrev pub with_dependency : LogLines → Dependency → Result LogLines LogReason
with_dependency r d = unless_refused (dependency_wrong r d)
    (Ok (record r { dependencies = r.dependencies ++ d ∷ [] }))

-- an operation of a processor depends on another one before it
abbrev pub add_dependency : LogLines → ℕ → ℕ → ℕ → DependencyKind → Result LogLines LogReason
add_dependency r p index other how =
    map_err reason.Line (processor_read r.head p) >>= λ p. number_made r p index >>= λ operation.
    number_made r p other >>= λ on.
    if nat_lt other index
    then with_dependency r (record { on = on; operation = operation; kind = how })
    else Err reason.NotBehind

-- `on` stands behind the operation, and how it depends behind the other one
abbrev pub depends_read : LogLines → List ℕ → List ℕ → List ℕ → DependencyKind
    → Result LogLines LogReason
depends_read r processor index other how =
    map_err reason.Line (two_numbers 1 processor index) >>= λ n.
    map_err reason.Line (number_at 4 other) >>= λ m. add_dependency r n.0 n.1 m how

abbrev pub after_depends_line : LogLines → List (List ℕ) → Result LogLines LogReason
after_depends_line r (processor ∷ index ∷ word ∷ other ∷ kind ∷ []) =
    if not (bytes_eq word (codes "on")) then Err reason.NotOn
    else (ok_or (dependency_named kind) reason.NotDependency >>= depends_read r processor index other)
after_depends_line r [] = Err (reason.WordCount key.Depends)
after_depends_line r (processor ∷ []) = Err (reason.WordCount key.Depends)
after_depends_line r (processor ∷ index ∷ []) = Err (reason.WordCount key.Depends)
after_depends_line r (processor ∷ index ∷ word ∷ []) = Err (reason.WordCount key.Depends)
after_depends_line r (processor ∷ index ∷ word ∷ other ∷ []) = Err (reason.WordCount key.Depends)
after_depends_line r (processor ∷ index ∷ word ∷ other ∷ kind ∷ next ∷ more) =
    Err (reason.WordCount key.Depends)
