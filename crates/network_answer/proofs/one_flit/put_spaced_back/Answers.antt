use Rattle.network_text.proofs.Pieces.{line_put}
use Rattle.network_answer.specs.OneFlit.{spaced_back}
use Rattle.network_answer.proofs.one_flit.put_spaced_back.Goals as goal

pub loop-k-preserved : goal.loop-k-preserved
loop-k-preserved g c =
    line_put c.args.out.now.items c.loop-k.out.items c.put_number.new.out.items (spaced_back c.args.before.now) c.loop-k.k
    c.loop-k.invariant c.in_ok-put_number.ensures
