-- The contents of the report of some services (this project's own format).
use Rattle.std.specs.Prelude.{◌==◌, ◌&&◌, ℕ, Bool, List, map, filter, is_some}
use Rattle.std.specs.List.{list_all, range_with_len}
use Rattle.report_lines.specs.declared.line.OrderLine.{OrderLine}
use Rattle.report_lines.specs.declared.parts.EntryRow.{EntryRow}
use Rattle.report_lines.specs.declared.parts.AnswerRow.{AnswerRow}
use Rattle.trace_answer.specs.declared.times.Times.{Times}
use Rattle.trace_answer.specs.declared.service.Service.{Service}

-- the entry of a service, with tag 0
abbrev pub entry_of_service : Service → EntryRow
entry_of_service s = record {
  source = s.processor;
  tag = 0;
  address = s.operation.address;
  op = s.operation.op;
  reply = s.reply;
}

-- the answer to a service
abbrev pub answer_of_service : Service → AnswerRow
answer_of_service s = record { index = s.index; bank = s.bank; place = s.place; reply = s.reply }

-- the events of a service
abbrev pub service_line : Service → OrderLine
service_line s = record {
  bank = s.bank;
  place = s.place;
  issued = s.issued;
  served = s.served;
  answered = s.answered;
}

-- whether a service is one of a bank
abbrev pub is_at_bank : ℕ → Service → Bool
is_at_bank bank s = s.bank == bank

-- whether a service is one of a processor, and answered
abbrev pub is_answered_to : ℕ → Service → Bool
is_answered_to p s = (s.processor == p) && is_some s.answered

-- the entries of a bank, in the order
abbrev pub entries_of_bank : List Service → ℕ → List EntryRow
entries_of_bank services bank = map entry_of_service (filter (is_at_bank bank) services)

-- the answers of a processor, in the order
abbrev pub answers_at : List Service → ℕ → List AnswerRow
answers_at services p = map answer_of_service (filter (is_answered_to p) services)

-- the entries of each of some banks
abbrev pub entries_of : ℕ → List Service → List (List EntryRow)
entries_of tiles services = map (entries_of_bank services) (range_with_len 0 tiles)

-- the answers of each of some processors
abbrev pub answers_of_services : ℕ → List Service → List (List AnswerRow)
answers_of_services tiles services = map (answers_at services) (range_with_len 0 tiles)

-- whether each operation of a trace has an answer
abbrev pub all_answered : List Times → Bool
all_answered times = list_all (λ u. is_some u.answered) times
