-- What an assembler refuses, and as what.
use Rattle.std.specs.Prelude.{ℕ, ◌+◌, ◌==◌, nat_lt, if◌then◌else◌, List, [], ◌∷◌, length, Option, Some, None}
use Rattle.packet.specs.declared.assembler.Kind.{Kind}
use Rattle.packet.specs.declared.assembler.Kind.TheVariants.{NoFlit, NotBegun, Operation, Zeros, Tail, Inside}
use Rattle.packet.specs.Flit.{field, operation_told}

-- how many flits a request for the operation of this number has (this project's own format)
abbrev pub flits_of_request : ℕ → ℕ
flits_of_request operation = if operation == 0 then 1 else if operation == 3 then 5 else 3

-- how many flits a reply to the operation of this number has (this project's own format)
abbrev pub flits_of_reply : ℕ → ℕ
flits_of_reply operation = if operation == 1 then 1 else 3

-- how many flits the packet has that a head flit begins (this project's own format)
abbrev pub flits_told : ℕ → ℕ
flits_told head =
    if field head 57 1 == 0 then flits_of_request (operation_told head)
    else flits_of_reply (operation_told head)

-- the tail bit that a flit has after so many flits of the packet that a head flit begins: 1 on the
-- last, 0
-- before (this project's own format)
abbrev pub tail_wanted : ℕ → ℕ → ℕ
tail_wanted head before = if before + 1 == flits_told head then 1 else 0

-- the first thing wrong with a flit at the start of a packet (this project's own format)
abbrev pub refusal_at_start : ℕ → Option Kind
refusal_at_start flit =
    if field flit 61 1 == 0 then Some NoFlit
    else if field flit 63 1 == 0 then Some NotBegun
    else if nat_lt 9 (operation_told flit) then Some Operation
    else if nat_lt 0 (field flit 32 8) then Some Zeros
    else if field flit 62 1 == tail_wanted flit 0 then None
    else Some Tail

-- the first thing wrong with a flit inside a packet, after a head flit and so many flits in all
-- (this
-- project's own format)
abbrev pub refusal_inside : ℕ → ℕ → ℕ → Option Kind
refusal_inside head before flit =
    if field flit 61 1 == 0 then Some NoFlit
    else if field flit 63 1 == 1 then Some Inside
    else if nat_lt 0 (field flit 32 29) then Some Zeros
    else if field flit 62 1 == tail_wanted head before then None
    else Some Tail

-- the first thing wrong with a flit after these flits of a packet (this project's own format)
abbrev pub refusal : List ℕ → ℕ → Option Kind
refusal [] flit = refusal_at_start flit
refusal (head ∷ rest) flit = refusal_inside head (length (head ∷ rest)) flit
