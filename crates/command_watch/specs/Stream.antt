-- What each line makes of what the lines before it gave, where a trace is read while it comes: of
-- the operations those are kept that aren't answered (this project's own format).
use Rattle.std.specs.Prelude.{ℕ, ◌+◌, ◌^◌, ◌&&◌, ◌==◌, Bool, not, nat_lt, List, [], ◌∷◌, ◌++◌}
use Rattle.std.specs.Prelude.{Option, Some, None, Result, Ok, Err, if◌then◌else◌, ok_or}
use Rattle.std.specs.Prelude.{option_map, replicate, slice_get, slice_set}
use Rattle.std.specs.List.{position, remove, slice_index_or}
use Rattle.packet.specs.declared.kinds.Operation.{Operation}
use Rattle.packet.specs.Kinds.{code_of}
use Rattle.lexer.specs.Outcome.{◌>>=◌}
use Rattle.trace_laws.specs.declared.event.Event.{Event}
use Rattle.trace_laws.specs.declared.event.Event.TheVariants as event
use Rattle.trace_lines.specs.Form.{reply_read, unwanted_reply}
use Rattle.trace_lines.specs.Head.{HeadSpec, no_head}
use Rattle.trace_lines.specs.Reasons.{map_err, unless_refused}
use Rattle.trace_text.specs.declared.line.TraceLine.{TraceLine}
use Rattle.trace_text.specs.declared.line.TraceLine.TheVariants as line
use Rattle.trace_text.specs.Lines.{line_given}
use Rattle.trace_text.specs.declared.reason.TraceReason.{TraceReason}
use Rattle.trace_text.specs.declared.reason.TraceReason.TheVariants as reason
use Rattle.command_watch.specs.declared.open_issue.OpenIssue.{OpenIssue}
use Rattle.command_watch.specs.declared.open_issue.Given.{Given}
use Rattle.command_watch.specs.declared.open_issue.Given.TheVariants.{Nothing, Issue, Answer}

-- what the lines so far gave: the head; how many operations each processor has issued, and how many
-- all have; the operations that aren't answered; and what the last line gave to be judged
pub record StreamSpec : Type 0 where
  pub head : HeadSpec
  pub counts : List ℕ
  pub issued : ℕ
  pub pending : List OpenIssue
  pub given : Given

-- the event that a line gives, if it gives one
abbrev pub event_of : Given → Option Event
event_of Nothing = None
event_of (Issue issue) = Some (event.Issue issue.call)
event_of (Answer issue reply) = Some (event.Answer issue.call.id reply)

-- nothing is given
abbrev pub nothing_streamed : StreamSpec
nothing_streamed = record {
  head = no_head;
  counts = replicate 4096 0;
  issued = 0;
  pending = [];
  given = Nothing;
}

-- the next operation of a processor, whose number is how many were issued before
abbrev pub next_issue : StreamSpec → ℕ → ℕ → Operation → OpenIssue
next_issue r number p o = record {
  processor = p;
  index = slice_index_or r.counts p 0;
  call = record { id = r.issued; operation = o };
  line = number;
}

-- an operation is issued
abbrev pub with_open_issue : StreamSpec → OpenIssue → StreamSpec
with_open_issue r issue = record r {
  counts = slice_set r.counts issue.processor (issue.index + 1);
  issued = r.issued + 1;
  pending = r.pending ++ issue ∷ [];
  given = Issue issue;
}

-- no operation is numbered from 2^62 on
abbrev pub with_pending_issue : StreamSpec → ℕ → ℕ → Operation → Result StreamSpec TraceReason
with_pending_issue r number p o =
    if not (nat_lt r.issued (2 ^ 62)) then Err reason.OperationsLimits
    else (if not (nat_lt (slice_index_or r.counts p 0) (2 ^ 62)) then Err reason.OperationsLimits
    else Ok (with_open_issue r (next_issue r number p o)))

-- an operation is that of a processor and an index
abbrev pub is_issue_of : ℕ → ℕ → OpenIssue → Bool
is_issue_of p index issue = (issue.processor == p) && (issue.index == index)

-- why an operation of a processor isn't open: it is answered, or the processor hasn't issued as
-- many
abbrev pub why_not_pending : StreamSpec → ℕ → ℕ → TraceReason
why_not_pending r p index =
    if nat_lt index (slice_index_or r.counts p 0) then reason.AnsweredTwice
    else reason.NotIssued (slice_index_or r.counts p 0)

-- the open operation at a place is answered: the reply goes with it
abbrev pub closed_issue : StreamSpec → ℕ → OpenIssue → Option ℕ → Result StreamSpec TraceReason
closed_issue r place issue told =
    unless_refused
    (option_map reason.Line (unwanted_reply (code_of issue.call.operation.op) told))
    (map_err reason.Line (reply_read told) >>= λ reply. Ok (record r {
      pending = remove r.pending place;
      given = Answer issue reply;
    }))

-- an answer of a processor, one of whose open operations has this index
abbrev pub answer_of_pending : StreamSpec → ℕ → ℕ → Option ℕ → Result StreamSpec TraceReason
answer_of_pending r p index told =
    ok_or (position (is_issue_of p index) r.pending) (why_not_pending r p index) >>= λ place.
    ok_or (slice_get r.pending place) (why_not_pending r p index) >>= λ issue.
    closed_issue r place issue told

-- what a line that gives this makes of it
abbrev pub given_in_stream : StreamSpec → ℕ → TraceLine → Result StreamSpec TraceReason
given_in_stream r number line.Nothing = Ok (record r { given = Nothing })
given_in_stream r number (line.Issue p o) = with_pending_issue r number p o
given_in_stream r number (line.Answer p index told) = answer_of_pending r p index told

-- what the words of a line make of it: a line of a trace is read whose memory has at most 2^20
-- words
abbrev pub after_stream_line : StreamSpec → ℕ → List (List ℕ) → Result StreamSpec TraceReason
after_stream_line r number words =
    line_given (2 ^ 20) (not (r.issued == 0)) r.head words >>= λ read.
    given_in_stream (record r { head = read.0 }) number read.1
