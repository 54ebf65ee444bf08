use Rattle.machine_core.proofs.Agents.{tile_within}
use Rattle.machine_core.proofs.Fields.{vec_at}
use Rattle.machine_core.proofs.Arriving.{asked_in, none_arrives, some_arrives}
use Rattle.machine_core.proofs.machine.Machine.arriving.Goals as goal

pub index-flit-requires : goal.index-flit-requires
index-flit-requires g c =
    let low = tile_within c.self.inside c.self.invariant c.args.self.now c.self.view_is c.args.processor c.requires in
    let there = vec_at c.self.inside.tiles c.args.processor c.index.result.now low c.index.ensures in
    asked_in c.self.inside c.self.invariant c.args.processor c.index.result.now there c.in_ok-op.op c.in_ok-op.ensures c.word.result c.word.ensures

pub returns-then-flit-eq0 : goal.returns-then-flit-eq0
returns-then-flit-eq0 g c =
    let low = tile_within c.self.inside c.self.invariant c.args.self.now c.self.view_is c.args.processor c.requires in
    let there = vec_at c.self.inside.tiles c.args.processor c.index.result.now low c.index.ensures in
    let inside = asked_in c.self.inside c.self.invariant c.args.processor c.index.result.now there c.in_ok-op.op c.in_ok-op.ensures
    c.word.result c.word.ensures in
    none_arrives c.self.inside c.self.invariant c.args.processor c.index.result.now there c.args.self.now c.self.view_is
    c.in_ok-op.op c.in_ok-op.ensures c.word.result c.word.ensures c.index-flit.result.now
    (vec_at c.self.inside.row c.word.result c.index-flit.result.now inside c.index-flit.ensures) c.if-flit-eq0.true

pub returns-else-flit-eq0 : goal.returns-else-flit-eq0
returns-else-flit-eq0 g c =
    let low = tile_within c.self.inside c.self.invariant c.args.self.now c.self.view_is c.args.processor c.requires in
    let there = vec_at c.self.inside.tiles c.args.processor c.index.result.now low c.index.ensures in
    let inside = asked_in c.self.inside c.self.invariant c.args.processor c.index.result.now there c.in_ok-op.op c.in_ok-op.ensures
    c.word.result c.word.ensures in
    some_arrives c.self.inside c.self.invariant c.args.processor c.index.result.now there c.args.self.now c.self.view_is
    c.in_ok-op.op c.in_ok-op.ensures c.word.result c.word.ensures c.index-flit.result.now
    (vec_at c.self.inside.row c.word.result c.index-flit.result.now inside c.index-flit.ensures) c.if-flit-eq0.false
