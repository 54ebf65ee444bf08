use Rattle.network_answer.specs.Answer.{number_line}
use Rattle.network_text.proofs.Pieces.{line_put}
use Rattle.network_answer.proofs.verdict.put_numbers.Goals as goal

pub loop-x-preserved : goal.loop-x-preserved
loop-x-preserved g c =
    line_put c.args.out.now.items c.loop-x.out.items c.put_pair.new.out.items (number_line c.args.numbers.now) c.loop-x.x
    c.loop-x.invariant c.in_ok-put_pair.ensures
