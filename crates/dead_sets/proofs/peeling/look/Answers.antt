use Rattle.std.proofs.Common.{◌≡◌, ◌+◌, ◌<◌, suc, length, sym, subst, arith}
use Rattle.std.proofs.lemmas.List.{get_or_read}
use Rattle.dead_sets.specs.Peeling.{IsPeeling, AreClosedBy}
use Rattle.dead_sets.proofs.Looking.{look_begin, look_more, look_end, case_low, channel_low, some_case}
use Rattle.dead_sets.proofs.peeling.look.Goals as goal

pub edges-init : goal.edges-init
edges-init g c =
    let a = c.args in
    let t = a.chains.now in
    look_begin a.count a.at.now t.edges.now c.requires.cases t.nodes a.place c.index-y.result.now c.first-k.result a.opened.now a.left.now a.order.now.items
    c.requires.place (sym (get_or_read a.order.now.items a.place c.index-y.result.now c.requires.place c.index-y.ensures 0)) c.first-k.ensures
    c.requires.so_far c.requires.closed

pub close-requires-clause-case : goal.close-requires-clause-case
close-requires-clause-case g c =
    let a = c.args in
    let t = a.chains.now in
    let l = c.edges in
    let low : l.k < length t.edges.now = omega arith in
    case_low a.count a.at.now t.edges.now c.requires.cases a.place c.index-y.result.now l.k c.end.result a.left.now a.order.now.items l.opened l.left l.order.items
    low c.end.ensures.value l.invariant

pub close-requires-clause-channel : goal.close-requires-clause-channel
close-requires-clause-channel g c =
    let a = c.args in
    let t = a.chains.now in
    let l = c.edges in
    let low : l.k < length t.edges.now = omega arith in
    channel_low a.count a.at.now t.edges.now c.requires.cases a.place c.index-y.result.now l.k c.end.result a.left.now a.order.now.items l.opened l.left l.order.items
    low c.end.ensures.value l.invariant

pub close-requires-clause-some : goal.close-requires-clause-some
close-requires-clause-some g c =
    let a = c.args in
    let t = a.chains.now in
    let l = c.edges in
    let low : l.k < length t.edges.now = omega arith in
    some_case a.count a.at.now t.edges.now c.requires.cases a.place c.index-y.result.now l.k c.end.result a.left.now a.order.now.items l.opened l.left l.order.items
    low c.end.ensures.value l.invariant

pub edges-preserved : goal.edges-preserved
edges-preserved g c =
    let a = c.args in
    let t = a.chains.now in
    let l = c.edges in
    let low : l.k < length t.edges.now = omega arith in
    look_more a.count a.at.now t.edges.now c.requires.cases t.nodes a.place c.index-y.result.now l.k c.next-k.result c.end.result a.left.now a.order.now.items
    l.opened l.left l.order.items c.close.new.opened c.close.new.left c.close.new.order.items low c.end.ensures.value c.next-k.ensures l.invariant
    c.in_ok-close.ensures

pub returns-clause-so_far : goal.returns-clause-so_far
returns-clause-so_far g c =
    let a = c.args in
    let l = c.edges in
    let one : suc a.place ≡ a.place + 1 = omega arith in
    subst (λ z. IsPeeling a.count a.at.now a.chains.now.edges.now z l.opened l.left l.order.items) one l.invariant.state

pub returns-clause-closed : goal.returns-clause-closed
returns-clause-closed g c =
    let a = c.args in
    let l = c.edges in
    let one : suc a.place ≡ a.place + 1 = omega arith in
    subst (λ z. AreClosedBy a.count a.at.now a.chains.now.edges.now z l.opened l.order.items) one
    (look_end a.count a.at.now a.chains.now.edges.now c.requires.cases a.place c.index-y.result.now l.k a.left.now a.order.now.items l.opened l.left l.order.items
    (omega arith) l.invariant)

pub returns-clause-longer : goal.returns-clause-longer
returns-clause-longer g c = let e = c.edges.invariant.extends in e.long
