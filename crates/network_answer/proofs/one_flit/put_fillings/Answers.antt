use Rattle.std.proofs.Common.{map, sym, ◌∙◌, ap, ◌++◌, arith}
use Rattle.dead_sets.specs.FillingFlags.{filling_of}
use Rattle.network_text.proofs.Pieces.{line_put}
use Rattle.network_answer.specs.OneFlit.{filling_line_at}
use Rattle.network_answer.proofs.OneFlit.{line_is}
use Rattle.network_answer.proofs.one_flit.put_fillings.Goals as goal

pub loop-k-preserved : goal.loop-k-preserved
loop-k-preserved g c =
    let item = c.index-items-items.result in
    line_put c.args.out.now.items c.loop-k.out.items c.put_filling.new.out.items (filling_line_at (map filling_of c.args.items.now)) c.loop-k.k
    c.loop-k.invariant
    (c.in_ok-put_filling.ensures
    ∙ ap (λ t. c.loop-k.out.items ++ t) (sym (line_is c.args.items.now c.loop-k.k item (omega arith) c.index-items-items.is)))
