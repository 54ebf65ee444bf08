-- What lines of a log make of it that say what an operation read, where it stands among the writes,
-- or what was replied (this project's own format).
use Rattle.std.specs.Prelude.{ℕ, ◌-◌, ◌==◌, Bool, true, false, not, List, [], ◌∷◌, length}
use Rattle.std.specs.Prelude.{slice_get, slice_set, Option, Some, None, is_some, option_map, ok_or}
use Rattle.std.specs.Prelude.{Result, Ok, Err, if◌then◌else◌, codes}
use Rattle.std.specs.Str.{bytes_eq}
use Rattle.packet.specs.Kinds.{code_of}
use Rattle.lexer.specs.Outcome.{◌>>=◌}
use Rattle.memory_models.specs.Trace.{is_load}
use Rattle.trace_lines.specs.Form.{told_of, reply_read, unwanted_reply}
use Rattle.trace_lines.specs.Head.{processor_read}
use Rattle.trace_lines.specs.Reasons.{map_err, unless_refused}
use Rattle.model_text.specs.declared.logged.Logged.{Logged}
use Rattle.model_text.specs.declared.logged.Source.{Source}
use Rattle.model_text.specs.declared.logged.Source.TheVariants.{Untold, Own, Opening, Write, Last}
use Rattle.model_text.specs.declared.sources.Found.{Found}
use Rattle.model_text.specs.declared.reason.LogKeyword.TheVariants as key
use Rattle.model_text.specs.declared.reason.LogReason.{LogReason}
use Rattle.model_text.specs.declared.reason.LogReason.TheVariants as reason
use Rattle.model_text.specs.Form.{two_numbers}
use Rattle.model_text.specs.Kinds.{kind_of_op}
use Rattle.model_text.specs.Made.{LogLines}
use Rattle.model_text.specs.Rows.{numbers_of_row, with_row_number}

-- something of an operation that a processor made, or how many it made
abbrev pub if_made : {X : Type 0} → LogLines → ℕ → Option X → Result X LogReason
if_made r p some = ok_or some (reason.NotMade (length (numbers_of_row r.rows p)))

-- the operation that a line names, by its processor and its index, from 0; it is no fence
abbrev pub found_of : LogLines → ℕ → ℕ → Result Found LogReason
found_of r p index =
    if_made r p (slice_get (numbers_of_row r.rows p) index) >>= λ n.
    if_made r p (slice_get r.made n) >>= λ logged.
    ok_or logged.operation reason.FenceNamed >>= λ o.
    Ok (record { number = n; logged = logged; operation = o })

abbrev pub found : LogLines → ℕ → ℕ → Result Found LogReason
found r p index = map_err reason.Line (processor_read r.head p) >>= λ p. found_of r p index

-- whether a line says what an operation read, or where it stands among the writes
abbrev pub is_told : Source → Bool
is_told Untold = false
is_told Own = true
is_told Opening = true
is_told (Write n) = true
is_told Last = true

-- the operation of a number is another one
abbrev pub with_logged : LogLines → ℕ → Logged → LogLines
with_logged r n logged = record r { made = slice_set r.made n logged }

-- why a line may not say what an operation read: the operation writes, or a line before says it
abbrev pub load_wrong : Found → Option LogReason
load_wrong f =
    if not (is_load (kind_of_op f.operation.op)) then Some reason.NotLoad
    else (if is_told f.logged.source then Some reason.SourceTwice
    else None)

-- why an operation may not be the next write: it writes nothing, or it has its place already
abbrev pub write_wrong : Found → Option LogReason
write_wrong f =
    if is_load (kind_of_op f.operation.op) then Some reason.NotWrite
    else (if is_told f.logged.source then Some reason.SourceTwice
    else None)

-- why a load may not have read what an operation wrote: that one writes nothing, or another word
abbrev pub source_wrong : Found → Found → Option LogReason
source_wrong f w =
    if is_load (kind_of_op w.operation.op) then Some reason.NotWrite
    else (if not (w.logged.word == f.logged.word) then Some reason.OtherWord
    else load_wrong f)

-- a write is the next one of its word
abbrev pub add_write : LogLines → Found → Result LogLines LogReason
add_write r f = unless_refused (write_wrong f) (Ok (record r {
  orders = with_row_number r.orders f.logged.word f.number;
  made = slice_set r.made f.number (record (f.logged) { source = Own });
}))

abbrev pub after_wrote_line : LogLines → List (List ℕ) → Result LogLines LogReason
after_wrote_line r (processor ∷ index ∷ []) =
    map_err reason.Line (two_numbers 1 processor index) >>= λ n. found r n.0 n.1 >>= add_write r
after_wrote_line r [] = Err (reason.WordCount key.Wrote)
after_wrote_line r (processor ∷ []) = Err (reason.WordCount key.Wrote)
after_wrote_line r (processor ∷ index ∷ other ∷ more) = Err (reason.WordCount key.Wrote)

-- a load read from a source
abbrev pub add_source : LogLines → Found → Source → Result LogLines LogReason
add_source r f source = unless_refused (load_wrong f)
    (Ok (with_logged r f.number (record (f.logged) { source = source })))

-- what a load read that comes behind these writes of its word: the last one
abbrev pub source_from : Option ℕ → Source
source_from None = Opening
source_from (Some n) = Write n

abbrev pub last_source : List ℕ → Source
last_source writes = source_from (slice_get writes (length writes - 1))

-- a load stands behind the writes of its word so far
abbrev pub add_served : LogLines → Found → Result LogLines LogReason
add_served r f = add_source r f (last_source (numbers_of_row r.orders f.logged.word))

abbrev pub after_served_line : LogLines → List (List ℕ) → Result LogLines LogReason
after_served_line r (processor ∷ index ∷ []) =
    map_err reason.Line (two_numbers 1 processor index) >>= λ n. found r n.0 n.1 >>= add_served r
after_served_line r [] = Err (reason.WordCount key.Served)
after_served_line r (processor ∷ []) = Err (reason.WordCount key.Served)
after_served_line r (processor ∷ index ∷ other ∷ more) = Err (reason.WordCount key.Served)

-- a load read the opening word
abbrev pub read_opening : LogLines → List ℕ → List ℕ → List ℕ → Result LogLines LogReason
read_opening r processor index word =
    if not (bytes_eq word (codes "opening")) then Err reason.NotSource
    else (map_err reason.Line (two_numbers 1 processor index) >>= λ n. found r n.0 n.1
    >>= λ f. add_source r f Opening)

-- a load read what an operation on its word wrote
abbrev pub read_write : LogLines → Found → Found → Result LogLines LogReason
read_write r f w = unless_refused (source_wrong f w)
    (Ok (with_logged r f.number (record (f.logged) { source = Write w.number })))

abbrev pub after_read_line : LogLines → List (List ℕ) → Result LogLines LogReason
after_read_line r (processor ∷ index ∷ word ∷ []) = read_opening r processor index word
after_read_line r (processor ∷ index ∷ word ∷ writer ∷ place ∷ []) =
    if not (bytes_eq word (codes "from")) then Err reason.NotSource
    else (map_err reason.Line (two_numbers 1 processor index) >>= λ n.
    map_err reason.Line (two_numbers 4 writer place) >>= λ m.
    found r n.0 n.1 >>= λ f. found r m.0 m.1 >>= λ w. read_write r f w)
after_read_line r [] = Err (reason.WordCount key.Read)
after_read_line r (processor ∷ []) = Err (reason.WordCount key.Read)
after_read_line r (processor ∷ index ∷ []) = Err (reason.WordCount key.Read)
after_read_line r (processor ∷ index ∷ word ∷ writer ∷ []) = Err (reason.WordCount key.Read)
after_read_line r (processor ∷ index ∷ word ∷ writer ∷ place ∷ other ∷ more) =
    Err (reason.WordCount key.Read)

-- an operation has a reply, at a line: the reply goes with it, and is not given yet
abbrev pub add_reply : LogLines → ℕ → Found → Option ℕ → Result LogLines LogReason
add_reply r line f told =
    unless_refused (option_map reason.Line (unwanted_reply (code_of f.operation.op) told))
    (if is_some f.logged.told then Err reason.RepliedTwice
    else (map_err reason.Line (reply_read told) >>= λ reply. Ok (with_logged r f.number
    (record (f.logged) { told = Some (record { line = line; reply = reply }) }))))

abbrev pub after_replied_line : LogLines → ℕ → List (List ℕ) → Result LogLines LogReason
after_replied_line r line (processor ∷ index ∷ reply ∷ []) =
    map_err reason.Line (two_numbers 1 processor index) >>= λ n.
    map_err reason.Line (told_of reply) >>= λ told.
    found r n.0 n.1 >>= λ f. add_reply r line f told
after_replied_line r line [] = Err (reason.WordCount key.Replied)
after_replied_line r line (processor ∷ []) = Err (reason.WordCount key.Replied)
after_replied_line r line (processor ∷ index ∷ []) = Err (reason.WordCount key.Replied)
after_replied_line r line (processor ∷ index ∷ reply ∷ other ∷ more) =
    Err (reason.WordCount key.Replied)
