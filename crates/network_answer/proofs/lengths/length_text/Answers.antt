use Rattle.std.proofs.Common.{◌∙◌, ap, ◌++◌}
use Rattle.network_answer.specs.Answer.{length_line}
use Rattle.network_answer.proofs.Sized.{length_told, length_untold}
use Rattle.network_answer.proofs.lengths.length_text.Goals as goal
use Rattle.network_answer.proofs.lengths.length_text.Goals.{in-Some+in_ok-put_length, in_default}

pub returns : goal.returns
returns g c =
    let n = c.args.network.now in
    let v = c.args.verdict.now in
    elim c.match-told_length.branch [
      | in-Some+in_ok-put_length w ↦ rw w.text-is
          (length_told n v c.told_length.result w.in-Some.size w.put_length.new.out.items c.requires c.told_length.ensures w.in-Some.is
          (w.in_ok-put_length.ensures ∙ ap (λ s. s ++ length_line w.in-Some.size) c.new-text.ensures.items))
      | in_default w ↦ rw w.text-is
          (length_untold n v c.told_length.result c.new-text.result.items c.told_length.ensures w.in_default.is c.new-text.ensures.items)
    ]
