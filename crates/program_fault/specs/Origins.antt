-- Where the word of an address is from (this project's own format).
use Rattle.std.specs.Prelude.{◌≡◌, ℕ, ◌+◌, ◌-◌, ◌==◌, if◌then◌else◌, List, Option, Some, None, zero, suc}
use Rattle.packet.specs.declared.kinds.Reply.{Reply}
use Rattle.report_lines.specs.declared.line.ReportLine.{ReportLine}
use Rattle.report_lines.specs.declared.line.ReportLine.TheVariants as line
use Rattle.report_lines.specs.Reading.{report_line_at}
use Rattle.report_check.specs.declared.rule.Rule.{Rule}
use Rattle.report_check.specs.declared.rule.Rule.TheVariants.{Reply as Replied}
use Rattle.program_fault.specs.declared.origin.Origin.{Origin}
use Rattle.program_fault.specs.declared.origin.Origin.TheVariants.{Nothing, Init, Entry}

-- the origin behind one more line, which stands at a number: an `init` line or an entry of the
-- address
abbrev pub origin_at : ℕ → ℕ → ReportLine → Origin → Origin
origin_at address number (line.Header version) found = found
origin_at address number (line.Shape radices words) found = found
origin_at address number (line.Init at value) found = if at == address then Init number else found
origin_at address number (line.Entry e) found =
    if e.address == address then Entry number else found
origin_at address number (line.Answer a) found = found
origin_at address number (line.Word at value) found = found
origin_at address number (line.Order o) found = found
origin_at address number (line.End complete) found = found

-- the origin behind a line that was read, and so on; where none was, the one that was found
abbrev pub origin_behind : ℕ → ℕ → Origin → Option (ReportLine × List ℕ)
    → (Origin → List ℕ → Origin) → Origin
origin_behind address number found None later = found
origin_behind address number found (Some read) later =
    later (origin_at address number read.0 found) read.1

-- the origin behind so many lines of a text; the first of them stands at a number
abbrev pub origin_before : ℕ → ℕ → Origin → List ℕ → ℕ → Origin
origin_before address number found text zero = found
origin_before address number found text (suc left) =
    origin_behind address number found (report_line_at text)
    (λ now rest. origin_before address (number + 1) now rest left)

-- where a rule names a reply, the origin is that of the word before the line of a text
abbrev pub HasOrigin : Rule → List ℕ → ℕ → Origin → Type 0
HasOrigin rule text line origin = (found expected : Reply) (address : ℕ)
    → rule ≡ Replied found expected address
    → origin ≡ origin_before address 1 Nothing text (line - 1)
