-- A want that is tried at an agent's ports over a row, at once.
use Rattle.std.specs.Prelude.{ℕ, ◌+◌, ◌%◌, ◌==◌, ◌&&◌, nat_lt, if◌then◌else◌, Bool, List, slice_index, Option, Some}
use Rattle.std.specs.Prelude.{None, option_and_then}
use Rattle.flit_buffer.specs.Ends.{SendingEnd, ReceivingEnd}
use Rattle.flit_buffer.specs.Words.{word_of, performed}
use Rattle.flit_buffer.specs.Wants.{PortEnds, want_op, outcome}
use Rattle.flit_buffer.specs.declared.word_op.WordOp.{WordOp}
use Rattle.flit_buffer.specs.declared.want.Want.{Want}

-- what the agent learns, by the word that the operation of its want finds; None where the want has
-- no operation or isn't granted (this project's own format)
abbrev pub tried : PortEnds → List ℕ → Want → Option ℕ
tried p row want = option_and_then (λ o. outcome want (slice_index row (word_of o)))
    (want_op p want)

-- the row after an operation, if there is one (this project's own format)
abbrev pub performed_by : List ℕ → Option WordOp → List ℕ
performed_by row None = row
performed_by row (Some o) = performed o row

-- the position of the place that is emptied next (this project's own format)
abbrev pub take_place : ReceivingEnd → ℕ
take_place r = r.base + r.next

-- the position of the place that is filled next (this project's own format)
abbrev pub put_place : SendingEnd → ℕ
put_place s = s.base + s.next

-- the position of the oldest place not yet credited (this project's own format)
abbrev pub credit_place : SendingEnd → ℕ
credit_place s = s.base + (s.next + s.credits) % s.depth

-- the flit that a place holds; None where it is empty (this project's own format)
abbrev pub flit_in : ℕ → Option ℕ
flit_in word = if word == 0 then None else Some word

-- whether a credit is missing and has come back: the oldest place not yet credited is cleared (this
-- project's own format)
abbrev pub is_credited : SendingEnd → List ℕ → Bool
is_credited s row = nat_lt s.credits s.depth && (slice_index row (credit_place s) == 0)
