-- A machine that is handed a line at any time, and which lines it refuses.
use Rattle.std.specs.Prelude.{◌≡◌, ℕ, ◌+◌, ◌<◌, ◌^◌, ◌==◌, ◌&&◌, Bool, true, false, not, nat_le, nat_lt, if◌then◌else◌}
use Rattle.std.specs.Prelude.{List, length, slice_get, slice_index, sum, Option, Some, None}
use Rattle.torus.specs.declared.fault.Fault.{Fault}
use Rattle.torus.specs.declared.fault.Fault.TheVariants as fault
use Rattle.torus.specs.declared.step.Step.{Step}
use Rattle.script_lines.specs.declared.line.Line.{Line}
use Rattle.script_lines.specs.declared.line.Line.TheVariants as line
use Rattle.script_lines.specs.Lines.{operations_of, mentions_last, IsWord}
use Rattle.one_order.specs.Scripts.{address_of}
use Rattle.core_laws.specs.Tile.{TileState}
use Rattle.core_laws.specs.Core.{Load, State}
use Rattle.core_laws.specs.Machine.{Core}
use Rattle.core_laws.specs.MachineMoves.{moves_of}
use Rattle.core_laws.specs.Appended.{appended}
use Rattle.core_laws.specs.Reopened.{reopened, without_reports}

-- whether the processor of a tile has reported that its script is finished; where there is no tile,
-- none has
abbrev pub reported_in : Option TileState → Bool
reported_in None = false
reported_in (Some tile) = tile.processor.reported

-- whether processor p has
abbrev pub has_reported : State → ℕ → Bool
has_reported s p = reported_in (slice_get s.tiles p)

-- the machine once it is handed a line for processor p: where p has reported, all reports are taken
-- back first
abbrev pub handed : Core → ℕ → Line → Core
handed c p line = appended (if has_reported c.state p then reopened c else c) p line

-- the moves of these steps after which it stands then
abbrev pub moves_kept : Load → Core → ℕ → List Step → List Step
moves_kept l c p steps =
    if has_reported c.state p then without_reports (moves_of l steps) else moves_of l steps

-- an address is below the number of words, where there is one
abbrev pub is_word : ℕ → Option ℕ → Bool
is_word words None = true
is_word words (Some a) = nat_lt a words

-- a spin has 1 to 4096 loads
abbrev pub has_loads : Line → Bool
has_loads (line.Spin a v m) = nat_le 1 m && nat_le m 4096
has_loads first = true

-- the values of a line are words of 64 bits
abbrev pub BringsWords : Line → Type 0
BringsWords (line.Load a) = Unit {0}
BringsWords (line.Store a v) = IsWord v
BringsWords (line.Swap a v) = IsWord v
BringsWords (line.Cas a e n) = IsWord e × IsWord n
BringsWords (line.Add a v) = IsWord v
BringsWords (line.And a v) = IsWord v
BringsWords (line.Or a v) = IsWord v
BringsWords (line.Xor a v) = IsWord v
BringsWords (line.Max a v) = IsWord v
BringsWords (line.Min a v) = IsWord v
BringsWords line.Fence = Unit {0}
BringsWords (line.Spin a v m) = v < 2 ^ 64

-- there is no room for the operations of a line: no more than 4096 of a processor, and 65536 in all
abbrev pub is_too_long : List ℕ → ℕ → Line → Bool
is_too_long allowed p line = not (nat_le (slice_index allowed p + operations_of line) 4096
    && nat_le (sum allowed + operations_of line) 65536)

-- why a machine refuses a line for processor p: the first reason in the order in which the reader of
-- scripts finds them (no such processor, an address out of range, a number out of range, a `last`
-- with no operation before it, too many operations); None where it takes the line
abbrev pub refused : Core → ℕ → Line → Option Fault
refused c p line =
    if not (nat_lt p (length c.allowed)) then Some fault.Processor
    else (if not (is_word (length c.opening) (address_of line)) then Some fault.Address
    else (if not (has_loads line) then Some fault.Range
    else (if mentions_last line && (slice_index c.allowed p == 0) then Some fault.Last
    else (if is_too_long c.allowed p line then Some fault.Length else None))))
