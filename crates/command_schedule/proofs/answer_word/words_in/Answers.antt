-- All parts are gone through.
use Rattle.std.proofs.Common.{ap, length, map, ◌==◌, ◌∙◌}
use Rattle.std.specs.Prelude.{filter, not}
use Rattle.std.proofs.lemmas.List.{take_all}
use Rattle.command_schedule.proofs.answer_word.words_in.Goals as goal

pub returns : goal.returns
returns g c =
    c.loop-part.invariant
    ∙ ap (λ parts. filter (λ word. not (length word == 0)) (map (λ part. part.now) parts))
    (take_all c.loop-part.part-index c.as_slice-part-items.result.now c.loop-part-test.false)
    ∙ ap (λ parts. filter (λ word. not (length word == 0)) (map (λ part. part.now) parts)) c.as_slice-part-items.ensures.value
    ∙ ap (filter (λ word. not (length word == 0))) c.in_ok-parts.ensures
