use Rattle.std.proofs.Common.{take}
use Rattle.std.specs.Fmt.{HasWritten, IsPlainFormatter}
use Rattle.std.specs.List.{flat_map}
use Rattle.command_line.specs.Printed.{common_text}
use Rattle.command_line.specs.TableRows.{taken_word}
use Rattle.command_line.proofs.words.put_common.Given as goal

abbrev pub invariant-loop-word : goal.invariant-loop-word
invariant-loop-word g l = IsPlainFormatter l.fn.f
    → HasWritten g.W.Write.write_str_gives l.fn.f (flat_map (λ word. common_text (taken_word word)) (take l.word-index l.words)) l.f
