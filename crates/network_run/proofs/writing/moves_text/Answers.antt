use Rattle.std.proofs.Common.{[]}
use Rattle.network_run.specs.Written.{move_line_at}
use Rattle.network_text.proofs.Pieces.{line_put}
use Rattle.network_run.proofs.writing.moves_text.Goals as goal

pub loop-k-preserved : goal.loop-k-preserved
loop-k-preserved g c =
    line_put [] c.loop-k.text.items c.put_move_at.new.out.items (move_line_at c.args.moves.now) c.loop-k.k
    c.loop-k.invariant c.in_ok-put_move_at.ensures
