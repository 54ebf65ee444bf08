-- The services of the operations of an order, as a report says them.
use Rattle.std.specs.Prelude.{◌%◌, ◌==◌, ℕ, Bool, List, None, length, map, take, count_by}
use Rattle.std.specs.Prelude.{option_map}
use Rattle.std.specs.List.{slice_index_or, range_with_len}
use Rattle.packet.specs.declared.kinds.Op.TheVariants.{Load}
use Rattle.packet.specs.declared.kinds.Reply.{Reply}
use Rattle.packet.specs.Memory.{reply_of_one}
use Rattle.trace_laws.specs.declared.event.Call.{Call}
use Rattle.trace_laws.specs.Orders.{memory_of}
use Rattle.trace_text.specs.declared.issued.Issued.{Issued}
use Rattle.trace_text.specs.Traced.{TraceSpec, opening_of}
use Rattle.trace_answer.specs.declared.times.Times.{Times}
use Rattle.trace_answer.specs.declared.service.Service.{Service}
use Rattle.trace_answer.specs.Times.{time_of}
use Rattle.trace_answer.specs.Numbers.{waits_of, number_behind, service_number}

-- an operation of an order; a load of word 0 past the last
abbrev pub call_at : List Call → ℕ → Call
call_at order x =
    slice_index_or order x (record { id = 0; operation = record { address = 0; op = Load } })

-- the operation of a number, as its trace issues it; one of processor 0 where there is none
abbrev pub issued_call : List Issued → ℕ → Issued
issued_call issued id = slice_index_or issued id (record {
  processor = 0;
  index = 0;
  operation = record { address = 0; op = Load };
  reply = None;
})

-- whether an operation is on a word of a bank: the address modulo the number of banks
abbrev pub is_on_bank : ℕ → ℕ → Call → Bool
is_on_bank tiles bank c = c.operation.address % tiles == bank

-- how many operations on words of the same bank stand before one of an order
abbrev pub service_place : ℕ → List Call → ℕ → ℕ
service_place tiles order x =
    count_by (is_on_bank tiles ((call_at order x).operation.address % tiles)) (take x order)

-- the service of an operation, in its place of a bank, with its reply and the number of its service
abbrev pub service_with : List Issued → List Times → List ℕ → Call → ℕ → Reply → ℕ → ℕ → Service
service_with issued times waits c bank reply place served = record {
  processor = (issued_call issued c.id).processor;
  index = (issued_call issued c.id).index;
  operation = c.operation;
  reply = reply;
  bank = bank;
  place = place;
  issued = number_behind waits (time_of times c.id).issued;
  served = served;
  answered = option_map (number_behind waits) (time_of times c.id).answered;
}

-- the service of an operation of an order: by the home bank of its address, in the order's turn,
-- with the reply of the one memory
abbrev pub service_of : TraceSpec → ℕ → List Times → List Call → ℕ → Service
service_of t tiles times order x =
    service_with t.issued times (waits_of times order) (call_at order x)
    ((call_at order x).operation.address % tiles)
    (reply_of_one (call_at order x).operation (memory_of (opening_of t) (take x order)))
    (service_place tiles order x) (service_number (waits_of times order) x)

-- the services of an order
abbrev pub services_told : TraceSpec → ℕ → List Times → List Call → List Service
services_told t tiles times order =
    map (service_of t tiles times order) (range_with_len 0 (length order))
