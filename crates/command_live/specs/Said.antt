-- The text of what is answered to a line of a dialogue (this project's own format).
use Rattle.std.specs.Prelude.{ℕ, List}
use Rattle.std.specs.String.{string_bytes}
use Rattle.report_lines.specs.Line.{text_of}
use Rattle.command_live.specs.Text.{told_text}
use Rattle.command_live.specs.declared.said.Said.{Said as WhatIsSaid}
use Rattle.command_live.specs.declared.said.Said.TheVariants.{Told, Report, Lines}

abbrev pub said_text : {A : Type 0} → WhatIsSaid A → List ℕ
said_text (Told told) = told_text told
said_text (Report report) = text_of report
said_text (Lines lines) = string_bytes lines
