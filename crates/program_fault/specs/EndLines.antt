-- What is printed of how a run ended (this project's own format).
use Rattle.std.specs.Prelude.{ℕ, List, ◌++◌, codes}
use Rattle.std.specs.List.{flat_map}
use Rattle.sentences.specs.declared.scripts.EndedSpin.{EndedSpin}
use Rattle.sentences.specs.Sentences.{end_text, spin_text}
use Rattle.program_fault.specs.declared.end_lines.EndLines.{EndLines}

-- the line on a spin that ran out of loads
abbrev pub spin_line : EndLines → EndedSpin → List ℕ
spin_line lines spin = spin_text (record { name = lines.name; spin = spin }) ++ codes "\n"

-- a line for each spin that ran out of loads, in their order, and the sentence on the end
abbrev pub end_lines_text : EndLines → List ℕ
end_lines_text lines = flat_map (spin_line lines) lines.spins.now ++ end_text lines.end
