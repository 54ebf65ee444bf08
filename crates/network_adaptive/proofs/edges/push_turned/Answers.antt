use Rattle.std.proofs.Common.{◌<◌, length, arith, subst}
use Rattle.std.proofs.lemmas.Bool.{eqb-true}
use Rattle.rising.specs.Graph.{edge_at}
use Rattle.network_adaptive.specs.Flags.{HasPut}
use Rattle.network_adaptive.proofs.Puts.{IsThis}
use Rattle.network_adaptive.proofs.Turned.{turned_more, turned_end}
use Rattle.network_adaptive.proofs.edges.push_turned.Goals as goal

pub edges-preserved : goal.edges-preserved
edges-preserved g c =
    let t = c.args.chains.now in
    let l = c.edges in
    let n = c.next-k.ensures in
    let low : l.k < length t.edges.now = omega arith in
    record {
      put = turned_more t.nodes t.edges.now c.args.x l.k c.next-k.result c.args.out.now.items l.out.items c.push_new.new.edges.items low (l.invariant.from low) n l.invariant.put
          (subst (λ z. HasPut (IsThis z c.args.x) l.out.items c.push_new.new.edges.items) c.end.ensures.value c.in_ok-push_new.ensures);
      low = n.low;
      from = λ less. eqb-true (edge_at t.edges.now c.next-k.result).from c.args.x (n.leads less);
    }

pub returns : goal.returns
returns g c = turned_end c.args.chains.now.nodes c.args.chains.now.edges.now c.args.x c.edges.k c.args.out.now.items c.edges.out.items (omega arith) c.edges.invariant.put
