use Rattle.network_answer.specs.Answer.{fill_line_at}
use Rattle.network_text.proofs.Pieces.{line_put}
use Rattle.network_answer.proofs.jam.put_fills.Goals as goal

pub loop-k-preserved : goal.loop-k-preserved
loop-k-preserved g c =
    line_put c.args.out.now.items c.loop-k.out.items c.put_fill.new.out.items (fill_line_at c.args.fills.now) c.loop-k.k
    c.loop-k.invariant c.in_ok-put_fill.ensures
