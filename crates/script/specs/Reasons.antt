-- Which fault has which reason, the keywords of a machine text, and the kinds of agents (this
-- project's own format).
use Rattle.std.specs.Prelude.{ℕ, ◌%◌, ◌==◌, List, Option, Some, None, if◌then◌else◌, codes}
use Rattle.std.specs.Str.{bytes_eq}
use Rattle.torus.specs.declared.fault.Fault.{Fault}
use Rattle.torus.specs.declared.fault.Fault.TheVariants as fault
use Rattle.script.specs.declared.reason.Keyword.{Keyword}
use Rattle.script.specs.declared.reason.Keyword.TheVariants.{Radix, Dims, Dateline, Depth, Tags}
use Rattle.script.specs.declared.reason.Keyword.TheVariants.{Words, Init}
use Rattle.script.specs.declared.reason.Agent.{Agent}
use Rattle.script.specs.declared.reason.Agent.TheVariants.{Processor, Router, Bank}
use Rattle.script.specs.declared.reason.TextReason.{TextReason}
use Rattle.script.specs.declared.reason.TextReason.TheVariants as reason

-- the fault that has a reason
abbrev pub fault_of : TextReason → Fault
fault_of reason.UnknownKeyword = fault.Line
fault_of (reason.NumberCount keyword) = fault.Line
fault_of (reason.NotNumber place) = fault.Line
fault_of (reason.GivenTwice keyword) = fault.Setting
fault_of (reason.DatelineBefore keyword) = fault.Setting
fault_of (reason.InitBefore keyword) = fault.Setting
fault_of (reason.InitTwice address) = fault.Setting
fault_of (reason.Missing keyword) = fault.Setting
fault_of (reason.RadixLimits place) = fault.Radix
fault_of reason.DimsLimits = fault.Dimensions
fault_of (reason.TooManyTiles tiles) = fault.Tiles
fault_of (reason.RadixCount radices dims) = fault.Count
fault_of (reason.DatelineCount datelines dims) = fault.Count
fault_of (reason.DatelineLimits place radix) = fault.Dateline
fault_of reason.DepthLimits = fault.Range
fault_of reason.TagsLimits = fault.Range
fault_of reason.WordsLimits = fault.Range
fault_of (reason.AddressLimits place words) = fault.Address
fault_of (reason.ValueLimits place) = fault.Range
fault_of reason.ProcessorAlone = fault.Line
fault_of reason.UnknownOperation = fault.Line
fault_of reason.OperandCount = fault.Line
fault_of (reason.NotValue place) = fault.Line
fault_of (reason.ProcessorLimits tiles) = fault.Processor
fault_of reason.SpinLimits = fault.Range
fault_of reason.LastFirst = fault.Last
fault_of (reason.ScriptLength operations) = fault.Length
fault_of (reason.ScriptsLength operations) = fault.Length
fault_of reason.StepCount = fault.Line
fault_of reason.UnknownChoice = fault.Line
fault_of (reason.AgentLimits agents) = fault.Step
fault_of (reason.NoChoice agent) = fault.Step
fault_of reason.PortWanted = fault.Step
fault_of (reason.PortUnwanted agent) = fault.Step
fault_of (reason.PortLimits ports) = fault.Step
fault_of reason.Memory = fault.Memory

-- the word of a keyword
abbrev pub keyword_word : Keyword → List ℕ
keyword_word Radix = codes "radix"
keyword_word Dims = codes "dims"
keyword_word Dateline = codes "dateline"
keyword_word Depth = codes "depth"
keyword_word Tags = codes "tags"
keyword_word Words = codes "words"
keyword_word Init = codes "init"

-- the keyword that a word spells
abbrev pub setting_named : List ℕ → Option Keyword
setting_named word =
    if bytes_eq word (codes "init") then Some Init
    else (if bytes_eq word (codes "radix") then Some Radix
    else (if bytes_eq word (codes "dims") then Some Dims
    else (if bytes_eq word (codes "dateline") then Some Dateline
    else (if bytes_eq word (codes "depth") then Some Depth
    else (if bytes_eq word (codes "tags") then Some Tags
    else (if bytes_eq word (codes "words") then Some Words
    else None))))))

-- the kind of an agent: each tile has a processor, a router and a bank
abbrev pub kind_of_agent : ℕ → Agent
kind_of_agent n = if n % 3 == 0 then Processor else (if n % 3 == 1 then Router else Bank)
