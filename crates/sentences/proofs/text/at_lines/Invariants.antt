use Rattle.std.proofs.Common.{◌≡◌, map, take}
use Rattle.sentences.specs.Texts.{placed_at_line}
use Rattle.sentences.proofs.text.at_lines.Given as goal

-- the spins so far, at their lines
abbrev pub invariant-loop-spin : goal.invariant-loop-spin
invariant-loop-spin g l = l.lines.items ≡ map (placed_at_line l.numbers) (take l.spin-index l.spins)
