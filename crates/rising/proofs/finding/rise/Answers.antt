use Rattle.std.proofs.Common.{subst}
use Rattle.std.specs.Prelude.{slice_index}
use Rattle.rising.specs.declared.finding.Searched.TheVariants.{Rising, Circuit}
use Rattle.rising.specs.Graph.{digraph_of}
use Rattle.rising.specs.Found.{IsOrderOrCircuit}
use Rattle.rising.specs.Search.{AreLookedColumns}
use Rattle.rising.proofs.Ranks.{rise_on_list, is_cycle}
use Rattle.rising.proofs.finding.rise.Goals as goal

pub returns-in-Circuit : goal.returns-in-Circuit
returns-in-Circuit g c =
    let e = c.in_ok-chains.ensures in
    let circuit : IsOrderOrCircuit {A = g.row.A.Denot} (digraph_of c.args.nodes c.args.edges.now) (Circuit c.in-Circuit.looks) =
    subst (λ z. IsOrderOrCircuit {A = g.row.A.Denot} (digraph_of z c.args.edges.now) (Circuit c.in-Circuit.looks)) e.0
    (subst (λ z. IsOrderOrCircuit {A = g.row.A.Denot} (digraph_of c.in_ok-chains.chains.nodes z) (Circuit c.in-Circuit.looks)) e.1
    (subst (λ z. IsOrderOrCircuit {A = g.row.A.Denot} (digraph_of c.in_ok-chains.chains.nodes c.in_ok-chains.chains.edges.now) z)
    c.in-Circuit.is c.in_ok-looks.ensures)) in
    is_cycle c.args.nodes c.args.edges.now c.in-Circuit.looks.items c.in_ok-columns_of-in-Circuit.field-0.items circuit
    (subst (λ z. AreLookedColumns z c.in_ok-columns_of-in-Circuit.field-0.items) c.deref.ensures.value c.in_ok-columns_of-in-Circuit.ensures)

pub returns : goal.returns
returns g c =
    let e = c.in_ok-chains.ensures in
    let order : IsOrderOrCircuit {A = g.row.A.Denot} (digraph_of c.args.nodes c.args.edges.now) (Rising c.in-Rising.numbers) =
    subst (λ z. IsOrderOrCircuit {A = g.row.A.Denot} (digraph_of z c.args.edges.now) (Rising c.in-Rising.numbers)) e.0
    (subst (λ z. IsOrderOrCircuit {A = g.row.A.Denot} (digraph_of c.in_ok-chains.chains.nodes z) (Rising c.in-Rising.numbers)) e.1
    (subst (λ z. IsOrderOrCircuit {A = g.row.A.Denot} (digraph_of c.in_ok-chains.chains.nodes c.in_ok-chains.chains.edges.now) z)
    c.in-Rising.is c.in_ok-looks.ensures)) in
    (order.0, rise_on_list c.args.nodes c.args.edges.now (slice_index c.in-Rising.numbers.items) c.requires order.1)
