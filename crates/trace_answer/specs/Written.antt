-- The text of a part of a trace (this project's own format).
use Rattle.std.specs.Prelude.{◌≡◌, ◌+◌, ◌==◌, ◌&&◌, ℕ, Bool, not, false, List, [], ◌∷◌, ◌++◌}
use Rattle.std.specs.Prelude.{Option, Some, None, codes, count_by, decimal, if◌then◌else◌, length}
use Rattle.std.specs.Prelude.{option_map}
use Rattle.std.specs.Prelude.{slice_get, slice_index, unwrap_or}
use Rattle.std.specs.List.{flat_map, range_with_len}
use Rattle.packet.specs.declared.kinds.Operation.{Operation}
use Rattle.packet.specs.declared.kinds.Reply.{Reply}
use Rattle.lexer.specs.Joined.{line_of_words}
use Rattle.report_lines.specs.Line.{op_words, reply_word}
use Rattle.trace_laws.specs.declared.event.Event.{Event}
use Rattle.trace_laws.specs.declared.event.Event.TheVariants.{Issue, Answer}
use Rattle.trace_text.specs.declared.issued.Issued.{Issued}
use Rattle.trace_text.specs.Traced.{TraceSpec, opening_of}
use Rattle.trace_answer.specs.declared.counts.Key.{Key}
use Rattle.trace_answer.specs.declared.counts.Key.TheVariants.{Processor, Address}
use Rattle.trace_answer.specs.Kept.{kept_events}

-- the processor of an operation, or the address of its word
abbrev pub key_of : Key → Issued → ℕ
key_of Processor i = i.processor
key_of Address i = i.operation.address

-- whether operation k is kept and has this processor or address
abbrev pub is_counted : List Issued → List Bool → Key → ℕ → ℕ → Bool
is_counted issued kept key v k = unwrap_or (slice_get kept k) false
    && unwrap_or (option_map (λ i. key_of key i == v) (slice_get issued k)) false

-- how many of the operations before operation n are kept and have this processor or address
abbrev pub count_before : List Issued → List Bool → Key → ℕ → ℕ → ℕ
count_before issued kept key v n = count_by (is_counted issued kept key v) (range_with_len 0 n)

-- of each operation how many before it are kept and have its processor or address
abbrev pub AreCounts : List Issued → List Bool → Key → List ℕ → Type 0
AreCounts issued kept key counts = (n : ℕ) (i : Issued) → slice_get issued n ≡ Some i
    → slice_get counts n ≡ Some (count_before issued kept key (key_of key i) n)

-- whether operation k is the first one on its word that is kept, and that word opens with another
-- value than 0
abbrev pub is_opener : TraceSpec → List Bool → ℕ → Issued → Bool
is_opener t kept k i = unwrap_or (slice_get kept k) false
    && (count_before t.issued kept Address i.operation.address k == 0)
    && not (slice_index (opening_of t) i.operation.address == 0)

-- the address of operation k and the word that it holds at first, where the text has to name it
abbrev pub opening_at : TraceSpec → List Bool → ℕ → Option Issued → List (ℕ × ℕ)
opening_at t kept k None = []
opening_at t kept k (Some i) = if is_opener t kept k i
    then (i.operation.address, slice_index (opening_of t) i.operation.address) ∷ [] else []

-- the opening words that the text of a part names, in the order in which its operations do
abbrev pub openings : TraceSpec → List Bool → List (ℕ × ℕ)
openings t kept = flat_map (λ k. opening_at t kept k (slice_get t.issued k))
    (range_with_len 0 (length t.issued))

-- the words of the line of an opening word, of an issue and of an answer
abbrev pub init_words : ℕ → ℕ → List (List ℕ)
init_words address word = codes "init" ∷ decimal address ∷ decimal word ∷ []

abbrev pub issue_words : ℕ → Operation → List (List ℕ)
issue_words processor operation =
    codes "issue" ∷ decimal processor ∷ op_words operation.op operation.address []

abbrev pub answer_words : ℕ → ℕ → Reply → List (List ℕ)
answer_words processor index reply =
    codes "answer" ∷ decimal processor ∷ decimal index ∷ reply_word reply ∷ []

-- the line of an event of a part: operations are counted anew
abbrev pub event_text : TraceSpec → List Bool → Event → List ℕ
event_text t kept (Issue c) = unwrap_or (option_map
    (λ i. line_of_words (issue_words i.processor i.operation)) (slice_get t.issued c.id)) []
event_text t kept (Answer id reply) = unwrap_or (option_map
    (λ i. line_of_words (answer_words i.processor
    (count_before t.issued kept Processor i.processor id) reply))
    (slice_get t.issued id)) []

-- the trace text of a part
abbrev pub part_text : TraceSpec → List Bool → List ℕ
part_text t kept = codes "trace 1\n" ++ line_of_words (codes "words" ∷ decimal t.words ∷ [])
    ++ flat_map (λ o. line_of_words (init_words o.0 o.1)) (openings t kept)
    ++ flat_map (event_text t kept) (kept_events kept t.events)

-- the line of this event of a part in that text
abbrev pub line_of_event : TraceSpec → List Bool → ℕ → ℕ
line_of_event t kept e = 3 + length (openings t kept) + e
