-- The trace of a log: of each word that occurs an opening store, by a processor of its own; behind
-- these the operations of each processor, in program order; and each word's writes in its order.
use Rattle.std.specs.Prelude.{◌≡◌, ℕ, ◌+◌, ◌<◌, ◌≤◌, ◌==◌, nat_lt, if◌then◌else◌, List, ◌∷◌, ◌++◌}
use Rattle.std.specs.Prelude.{length, map, unwrap_or, slice_index, slice_index_or, Some, None, Option}
use Rattle.std.specs.List.{concat, flat_map, position_or_len, range_with_len}
use Rattle.packet.specs.declared.kinds.Operation.{Operation as Asked}
use Rattle.packet.specs.declared.kinds.Op.TheVariants as op
use Rattle.memory_models.specs.declared.kinds.Kind.{Kind}
use Rattle.memory_models.specs.declared.kinds.Kind.TheVariants.{Store, Fence}
use Rattle.memory_models.specs.declared.kinds.Operation.{Operation}
use Rattle.memory_models.specs.Trace.{IsMemoryTrace, operation_at}
use Rattle.trace_lines.specs.Head.{value_in}
use Rattle.model_text.specs.declared.logged.Logged.{Logged}
use Rattle.model_text.specs.declared.logged.Source.{Source}
use Rattle.model_text.specs.declared.logged.Source.TheVariants.{Untold, Own, Opening, Write, Last}
use Rattle.model_text.specs.declared.trace.LogTrace.{LogTrace}
use Rattle.model_text.specs.Kinds.{kind_of_op}
use Rattle.model_text.specs.Made.{LogLines}
use Rattle.model_text.specs.Rows.{numbers_of_row}

-- the first place of a number in a list, and the list's length where it has none
abbrev pub place_in : List ℕ → ℕ → ℕ
place_in list x = position_or_len (λ y. y == x) list

-- that of a number below a limit, and the list's length from there on
abbrev pub place_below : List ℕ → ℕ → ℕ → ℕ
place_below list count x = if nat_lt x count then place_in list x else length list

-- the places of the numbers below a limit
pub record ArePlaces (list : List ℕ) (count : ℕ) (places : List ℕ) : Type 0 where
  pub sized : length places ≡ count
  pub each : (x : ℕ) → x < count → slice_index places x ≡ place_in list x

-- the operation of a number; a fence where there is none
abbrev pub logged_at : List Logged → ℕ → Logged
logged_at made n = slice_index_or made n (record {
  line = 0;
  processor = 0;
  operation = None;
  word = 0;
  source = Own;
  told = None;
})

-- what an operation is to a model
abbrev pub kind_of_step : Option Asked → Kind
kind_of_step None = Fence
kind_of_step (Some o) = kind_of_op o.op

-- the opening store of a word
abbrev pub opening_step : LogLines → ℕ → Logged
opening_step log w = record {
  line = 0;
  processor = 0;
  operation = Some (record {
    address = slice_index log.addresses w;
    op = op.Store (unwrap_or (value_in log.head.inits (slice_index log.addresses w)) 0);
  });
  word = w;
  source = Own;
  told = None;
}

-- the numbers of the operations, processors rising, each one's in program order
abbrev pub numbers_of_log : LogLines → List ℕ
numbers_of_log log = concat log.rows

-- what stands at each place of the trace
abbrev pub steps_of_log : LogLines → List Logged
steps_of_log log =
    map (opening_step log) (range_with_len 0 (length log.addresses))
    ++ map (logged_at log.made) (numbers_of_log log)

-- the place in the trace of the operation of a number, behind the opening stores
abbrev pub trace_spot : LogLines → ℕ → ℕ
trace_spot log n =
    length log.addresses + place_below (numbers_of_log log) (length log.made) n

-- the writes of a word in its order: the opening store, then those of the `wrote` lines
abbrev pub writes_of_word : LogLines → ℕ → List ℕ
writes_of_word log w = w ∷ map (trace_spot log) (numbers_of_row log.orders w)

-- the writes of all words
abbrev pub writes_of_log : LogLines → List ℕ
writes_of_log log =
    flat_map (writes_of_word log) (range_with_len 0 (length log.addresses))

-- the place of a write of the trace in its word's order
abbrev pub write_place : LogLines → ℕ → ℕ
write_place log x = place_below (writes_of_log log)
    (length log.addresses + length (numbers_of_log log)) x

-- the place in the trace of the last write of a word
abbrev pub last_spot : LogLines → ℕ → ℕ
last_spot log w = slice_index (writes_of_word log w) (length (numbers_of_row log.orders w))

-- the place in the trace of what the operation of a number read; of its own where it is a write
abbrev pub source_spot : LogLines → ℕ → Logged → Source → ℕ
source_spot log n logged Untold = trace_spot log n
source_spot log n logged Own = trace_spot log n
source_spot log n logged Opening = logged.word
source_spot log n logged (Write m) = trace_spot log m
source_spot log n logged Last = last_spot log logged.word

-- the opening store of a word, to a model
abbrev pub opening_operation : LogLines → ℕ → Operation
opening_operation log w =
    record { processor = w; kind = Store; word = w; place = write_place log w }

-- the operation of a number, to a model: the processors of the log have the numbers behind those of
-- the opening stores
abbrev pub operation_of_log : LogLines → ℕ → Operation
operation_of_log log n = record {
  processor = length log.addresses + (logged_at log.made n).processor;
  kind = kind_of_step (logged_at log.made n).operation;
  word = (logged_at log.made n).word;
  place = write_place log
      (source_spot log n (logged_at log.made n) (logged_at log.made n).source);
}

-- the operations of the trace
abbrev pub operations_of_log : LogLines → List Operation
operations_of_log log =
    map (opening_operation log) (range_with_len 0 (length log.addresses))
    ++ map (operation_of_log log) (numbers_of_log log)

-- exactly the trace that the lines of a log say
pub record TellsLog {A : Type 0} (log : LogLines) (t : LogTrace A) : Type 0 where
  pub openings : t.openings ≡ length log.addresses
  pub steps : t.steps.items ≡ steps_of_log log
  pub operations : t.operations.items ≡ operations_of_log log
  pub writes : t.writes.items ≡ writes_of_log log

-- a write is an opening store, or stands behind a write of its word
pub record IsOpenedAt (openings : ℕ) (ops : List Operation) (writes : List ℕ) (p : ℕ) : Type 0 where
  pub behind : openings ≤ slice_index writes p → 0 < p
  pub word : openings ≤ slice_index writes p → (b : ℕ) → b + 1 ≡ p
      → (operation_at ops (slice_index writes b)).word
      ≡ (operation_at ops (slice_index writes p)).word

-- each word's writes begin with its opening store
abbrev pub AreOpened : ℕ → List Operation → List ℕ → Type 0
AreOpened openings ops writes = (p : ℕ) → p < length writes → IsOpenedAt openings ops writes p

-- and it is a trace, each of whose words opens
pub record IsTraceOfLog {A : Type 0} (log : LogLines) (t : LogTrace A) : Type 0 where
  pub tells : TellsLog log t
  pub trace : IsMemoryTrace (t.openings + 1) t.operations.items t.writes.items
  pub opened : AreOpened t.openings t.operations.items t.writes.items
