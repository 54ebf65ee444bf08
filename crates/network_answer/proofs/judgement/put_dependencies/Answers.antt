use Rattle.std.proofs.Common.{◌≡◌, ◌++◌, subst, arith}
use Rattle.std.proofs.lemmas.List.{get_or_read}
use Rattle.network_text.proofs.Pieces.{line_put}
use Rattle.network_adaptive.specs.declared.verdict.Dependency as dependency
use Rattle.network_adaptive.specs.declared.verdict.How.TheVariants.{Replied}
use Rattle.network_adaptive.specs.Between.{dependency_at}
use Rattle.network_answer.specs.Routing.{how_line, dependency_line}
use Rattle.network_answer.proofs.judgement.put_dependencies.Goals as goal

pub loop-k-preserved : goal.loop-k-preserved
loop-k-preserved g c =
    let read : c.index-edges-k.result ≡ dependency_at c.args.edges.now c.loop-k.k =
    get_or_read c.args.edges.now c.loop-k.k c.index-edges-k.result (omega arith) c.index-edges-k.is (record { channel = 0; how = Replied 0 }) in
    line_put c.args.out.now.items c.loop-k.out.items c.put_dependency.new.out.items (dependency_line c.args.edges.now) c.loop-k.k
    c.loop-k.invariant
    (subst (λ (d : dependency.Dependency g.row.A.Denot). c.put_dependency.new.out.items ≡ c.loop-k.out.items ++ how_line d.channel d.how) read
    c.in_ok-put_dependency.ensures)
