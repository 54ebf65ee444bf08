-- The log text of a part of a log (this project's own format).
use Rattle.std.specs.Prelude.{ℕ, ◌==◌, Bool, true, false, List, [], ◌++◌, Option, Some, None, codes}
use Rattle.std.specs.Prelude.{decimal, if◌then◌else◌}
use Rattle.std.specs.List.{concat, flat_map, list_any}
use Rattle.packet.specs.declared.kinds.Operation.{Operation as Asked}
use Rattle.trace_lines.specs.Head.{value_in}
use Rattle.weak_models.specs.declared.notes.Accesses.{Accesses}
use Rattle.weak_models.specs.declared.notes.Dependency.{Dependency}
use Rattle.weak_models.specs.declared.notes.DependencyKind.{DependencyKind}
use Rattle.weak_models.specs.declared.notes.DependencyKind.TheVariants.{Address, Data, Control}
use Rattle.weak_models.specs.declared.notes.FenceOrder.{FenceOrder}
use Rattle.weak_models.specs.declared.notes.FenceOrder.TheVariants.{Sets, Tso}
use Rattle.weak_models.specs.declared.notes.Note.{Note}
use Rattle.weak_models.specs.Notes.{is_conditional}
use Rattle.model_text.specs.declared.logged.Source.{Source}
use Rattle.model_text.specs.declared.logged.Source.TheVariants.{Untold, Own, Opening, Write, Last}
use Rattle.model_text.specs.Depends.{note_by}
use Rattle.model_text.specs.Made.{LogLines}
use Rattle.model_text.specs.Rows.{numbers_of_row}
use Rattle.model_text.specs.Traces.{logged_at, place_in}
use Rattle.model_answer.specs.Texts.{fence_or_operation}

-- the operations of the processor of one, in program order
abbrev pub program_of : LogLines → ℕ → List ℕ
program_of log n = numbers_of_row log.rows (logged_at log.made n).processor

-- which of them it is, from 0
abbrev pub index_of : LogLines → ℕ → ℕ
index_of log n = place_in (program_of log n) n

-- an operation by its processor and its index
abbrev pub named_text : LogLines → ℕ → List ℕ
named_text log n =
    decimal (logged_at log.made n).processor ++ (codes " " ++ decimal (index_of log n))

-- a word where it is wanted
abbrev pub word_if : Bool → List ℕ → List ℕ
word_if wanted word = if wanted then word else []

-- what a fence keeps in order
abbrev pub accesses_text : Accesses → List ℕ
accesses_text a = if a.reads then (if a.writes then codes " rw" else codes " r") else codes " w"

abbrev pub fence_text : FenceOrder → List ℕ
fence_text Tso = codes " tso"
fence_text (Sets before behind) = accesses_text before ++ accesses_text behind

-- whether a store conditional with this pair is paired with a load; whether one of some operations is,
-- and whether one of its processor
abbrev pub is_paired_with : ℕ → Option ℕ → Bool
is_paired_with n None = false
is_paired_with n (Some load) = load == n

abbrev pub is_paired_in : LogLines → ℕ → ℕ → Bool
is_paired_in log n m = is_paired_with n (note_by log m).pair

abbrev pub has_pair : LogLines → ℕ → List ℕ → Bool
has_pair log n program = list_any (is_paired_in log n) program

abbrev pub is_reserved : LogLines → ℕ → Bool
is_reserved log n = has_pair log n (program_of log n)

-- what the line of an operation on a word says of it beside its kind; `reserved` only where its store
-- conditional is there
abbrev pub annotation_text : Bool → Note → List ℕ
annotation_text reserved note = word_if reserved (codes " reserved")
    ++ (word_if (is_conditional note.pair) (codes " conditional")
    ++ (word_if note.acquire (codes " acquire")
    ++ (word_if note.release (codes " release") ++ word_if note.rcpc (codes " rcpc"))))

abbrev pub behind_text : LogLines → ℕ → Option Note → Option Asked → List ℕ
behind_text log n None step = []
behind_text log n (Some note) None = fence_text note.fence
behind_text log n (Some note) (Some o) = annotation_text (is_reserved log n) note

-- the line of an operation, by its number
abbrev pub made_line : LogLines → ℕ → List ℕ
made_line log n = codes "made " ++ (decimal (logged_at log.made n).processor ++ (codes " "
    ++ (fence_or_operation (logged_at log.made n).operation
    ++ (behind_text log n (value_in log.notes n) (logged_at log.made n).operation ++ codes "\n"))))

-- that of the next write of its word
abbrev pub wrote_line : LogLines → ℕ → List ℕ
wrote_line log n = codes "wrote " ++ (named_text log n ++ codes "\n")

-- what a load read; nothing of other operations
abbrev pub source_line : LogLines → ℕ → Source → List ℕ
source_line log n Untold = []
source_line log n Own = []
source_line log n Last = []
source_line log n Opening = codes "read " ++ (named_text log n ++ codes " opening\n")
source_line log n (Write m) =
    codes "read " ++ (named_text log n ++ (codes " from " ++ (named_text log m ++ codes "\n")))

abbrev pub read_line : LogLines → ℕ → List ℕ
read_line log n = source_line log n (logged_at log.made n).source

-- how an operation depends on another one of its processor
abbrev pub kind_text : DependencyKind → List ℕ
kind_text Address = codes " address\n"
kind_text Data = codes " data\n"
kind_text Control = codes " control\n"

abbrev pub depends_line : LogLines → Dependency → List ℕ
depends_line log d = codes "depends " ++ (named_text log d.operation ++ (codes " on "
    ++ (decimal (index_of log d.on) ++ kind_text d.kind)))

-- the lines of a head with so many words
abbrev pub head_text : ℕ → List ℕ
head_text words = codes "log 1\nwords " ++ (decimal words ++ codes "\n")

-- the text of a log over so many words: its operations, the order of each word's writes, what loads
-- read, and dependencies; neither replies nor opening words, of which models say nothing
abbrev pub log_text : ℕ → LogLines → List ℕ
log_text words log = head_text words ++ (flat_map (made_line log) (concat log.rows)
    ++ (flat_map (wrote_line log) (concat log.orders)
    ++ (flat_map (read_line log) (concat log.rows)
    ++ flat_map (depends_line log) log.dependencies)))
