use Rattle.std.proofs.Common.{◌≡◌, ◌==◌, length, map, take}
use Rattle.std.specs.Prelude.{filter, not}
use Rattle.command_schedule.proofs.answer_word.words_in.Given as goal

-- those of the parts so far that aren't empty
abbrev pub invariant-loop-part : goal.invariant-loop-part
invariant-loop-part g l = map (λ word. word.now) l.words.items
    ≡ filter (λ word. not (length word == 0)) (map (λ part. part.now) (take l.part-index l.part-items))
