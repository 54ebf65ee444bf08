use Rattle.network_answer.specs.Answer.{link_line}
use Rattle.network_text.proofs.Pieces.{line_put}
use Rattle.network_answer.proofs.verdict.put_links.Goals as goal

pub loop-k-preserved : goal.loop-k-preserved
loop-k-preserved g c =
    line_put c.args.out.now.items c.loop-k.out.items c.put_link.new.out.items (link_line c.args.links.now) c.loop-k.k
    c.loop-k.invariant c.in_ok-put_link.ensures
