use Rattle.network_answer.specs.Answer.{verdict_text}
use Rattle.network_answer.proofs.Jams.{jam_put, judged_with_jam, judged_alone}
use Rattle.network_answer.proofs.jam.jammed_text.Goals as goal
use Rattle.network_answer.proofs.jam.jammed_text.Goals.{in-Some+in_ok-put_jam, in_default}

pub returns : goal.returns
returns g c =
    let n = c.args.network.now in
    let v = c.args.verdict.now in
    elim c.match-branch-3.branch [
      | in-Some+in_ok-put_jam w ↦ rw w.text-is (judged_with_jam n v c.in_ok-fills.field-0 w.in-Some.fills w.put_jam.new.out.items
          w.in-Some.is c.in_ok-fills.ensures
          (jam_put (verdict_text v) c.in_ok-text.text.items w.put_jam.new.out.items w.deref.result.now w.in-Some.fills.items
          w.in_ok-put_jam.ensures c.in_ok-text.ensures w.deref.ensures.value))
      | in_default w ↦ rw w.text-is
          (judged_alone n v c.in_ok-fills.field-0 c.in_ok-text.text.items w.in_default.is c.in_ok-fills.ensures c.in_ok-text.ensures)
    ]
