use Rattle.network_text.proofs.Pieces.{line_put}
use Rattle.network_answer.specs.OneFlit.{dead_line}
use Rattle.network_answer.proofs.one_flit.put_dead_channels.Goals as goal

pub loop-x-preserved : goal.loop-x-preserved
loop-x-preserved g c =
    line_put c.args.out.now.items c.loop-x.out.items c.put_dead.new.out.items (dead_line c.args.flags.now) c.loop-x.x
    c.loop-x.invariant c.in_ok-put_dead.ensures
