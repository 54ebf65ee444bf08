use Rattle.std.proofs.Common.{refl, subst}
use Rattle.torus.specs.declared.step.Stepped.{Stepped}
use Rattle.fabric_rule.specs.Known.{moves}
use Rattle.fabric.proofs.Counting.{agent_low, right_before, mine_before, has_before, moved_right, idle_right}
use Rattle.fabric.proofs.Turning.{sees, makes, Absorbs, op_is, accepts, has_room, moved_is, idle_is, stands_then, only_tile, before}
use Rattle.fabric.proofs.Turning.{accepted_before, told_of}
use Rattle.fabric.proofs.steps.attempt_op.Goals as goal

pub absorb-requires-clause-flit : goal.absorb-requires-clause-flit
absorb-requires-clause-flit g c = let t = told_of _ _ _ _ _ _ _ c.requires.picked.0 c.requires.picked.1 c.perform-found.ensures.told in accepts _ _ _ _ t.suits

pub absorb-requires-clause-entries : goal.absorb-requires-clause-entries
absorb-requires-clause-entries g c = let t = told_of _ _ _ _ _ _ _ c.requires.picked.0 c.requires.picked.1 c.perform-found.ensures.told in
    has_room _ _ _ _ (before _ _ _ _ c.requires.turning c.requires.tile).room t.suits

pub returns-in-Moved-clause-tile : goal.returns-in-Moved-clause-tile
returns-in-Moved-clause-tile g c =
    stands_then c.args.step c.args.tile.now c.args.seat.now.me.0 c.perform-found.new.seat.me.0 c.perform-found.result c.absorb.result c.absorb.new.self
    (before _ _ _ _ c.requires.turning c.requires.tile) (told_of _ _ _ _ _ _ _ c.requires.picked.0 c.requires.picked.1 c.perform-found.ensures.told)
    c.absorb.ensures

pub returns-in-Moved-clause-moved : goal.returns-in-Moved-clause-moved
returns-in-Moved-clause-moved g c = λ _.
    let absorbs = subst (λ (a : Stepped). Absorbs c.args.tile.now c.args.step c.perform-found.result a c.absorb.new.self) c.in-Moved.is c.absorb.ensures in
    makes c.args.step c.args.tile.now.place c.args.seat.now.me.0 c.perform-found.new.seat.me.0 c.perform-found.result
    (told_of _ _ _ _ _ _ _ c.requires.picked.0 c.requires.picked.1 c.perform-found.ensures.told) (moved_is _ _ _ c.absorb.new.self absorbs)

pub returns-in-Moved-clause-rest : goal.returns-in-Moved-clause-rest
returns-in-Moved-clause-rest g c =
    only_tile _ _ _ _ _ (accepted_before _ _ c.requires.turning c.requires.load)
    (told_of _ _ _ _ _ _ _ c.requires.picked.0 c.requires.picked.1 c.perform-found.ensures.told)

pub returns-in-Idle-clause-tile : goal.returns-in-Idle-clause-tile
returns-in-Idle-clause-tile g c =
    stands_then c.args.step c.args.tile.now c.args.seat.now.me.0 c.perform-found.new.seat.me.0 c.perform-found.result c.absorb.result c.absorb.new.self
    (before _ _ _ _ c.requires.turning c.requires.tile) (told_of _ _ _ _ _ _ _ c.requires.picked.0 c.requires.picked.1 c.perform-found.ensures.told)
    c.absorb.ensures

pub returns-in-Idle-clause-idle : goal.returns-in-Idle-clause-idle
returns-in-Idle-clause-idle g c = λ _.
    let absorbs = subst (λ (a : Stepped). Absorbs c.args.tile.now c.args.step c.perform-found.result a c.absorb.new.self) c.in-Idle.is c.absorb.ensures in
    sees c.args.step c.args.tile.now.place c.args.seat.now.me.0 c.perform-found.new.seat.me.0 c.perform-found.result
    (told_of _ _ _ _ _ _ _ c.requires.picked.0 c.requires.picked.1 c.perform-found.ensures.told) (moves c.args.tile.now.place c.args.step c.perform-found.result)
    refl (idle_is _ _ _ c.absorb.new.self absorbs)

pub returns-in-Idle-clause-rest : goal.returns-in-Idle-clause-rest
returns-in-Idle-clause-rest g c =
    only_tile _ _ _ _ _ (accepted_before _ _ c.requires.turning c.requires.load)
    (told_of _ _ _ _ _ _ _ c.requires.picked.0 c.requires.picked.1 c.perform-found.ensures.told)

pub rests-requires : goal.rests-requires
rests-requires g c = agent_low g.B.Turning.view.load g.B.Turning.view.run c.args.step c.args.tile.now c.requires.load c.requires.tile

pub moved-requires : goal.moved-requires
moved-requires g c = agent_low g.B.Turning.view.load g.B.Turning.view.run c.args.step c.args.tile.now c.requires.load c.requires.tile

pub returns-in-Moved-clause-flags : goal.returns-in-Moved-clause-flags
returns-in-Moved-clause-flags g c =
    let absorbs = subst (λ (a : Stepped). Absorbs c.args.tile.now c.args.step c.perform-found.result a c.absorb.new.self) c.in-Moved.is c.absorb.ensures in
    moved_right c.args.step c.args.tile.now.place c.args.seat.now.me.0 (accepted_before _ _ c.requires.turning c.requires.load) c.args.flags.now
    c.moved.new.self (right_before c.args.seat.now.me.0 g.B.Turning.view c.args.flags.now c.requires.turning c.requires.flags)
    (mine_before c.args.seat.now.me.0 g.B.Turning.view g.B.Turning.step c.args.step c.requires.turning c.requires.picked.0 c.requires.seat.2) (before _ _ _ _ c.requires.turning c.requires.tile).place
    c.args.op c.moved.ensures.right (op_is _ _ _ c.requires.op) c.perform-found.new.seat.me.0
    (makes c.args.step c.args.tile.now.place c.args.seat.now.me.0 c.perform-found.new.seat.me.0 c.perform-found.result
    (told_of _ _ _ _ _ _ _ c.requires.picked.0 c.requires.picked.1 c.perform-found.ensures.told) (moved_is _ _ _ c.absorb.new.self absorbs))

pub returns-in-Idle-clause-flags : goal.returns-in-Idle-clause-flags
returns-in-Idle-clause-flags g c =
    let absorbs = subst (λ (a : Stepped). Absorbs c.args.tile.now c.args.step c.perform-found.result a c.absorb.new.self) c.in-Idle.is c.absorb.ensures in
    idle_right c.args.step c.args.tile.now.place c.args.seat.now.me.0 (accepted_before _ _ c.requires.turning c.requires.load) c.args.flags.now
    c.rests.new.self (right_before c.args.seat.now.me.0 g.B.Turning.view c.args.flags.now c.requires.turning c.requires.flags)
    (mine_before c.args.seat.now.me.0 g.B.Turning.view g.B.Turning.step c.args.step c.requires.turning c.requires.picked.0 c.requires.seat.2) (before _ _ _ _ c.requires.turning c.requires.tile).place
    c.rests.ensures.right (has_before c.args.seat.now.me.0 g.B.Turning.view c.args.step c.requires.turning c.requires.choice) c.perform-found.new.seat.me.0
    (sees c.args.step c.args.tile.now.place c.args.seat.now.me.0 c.perform-found.new.seat.me.0 c.perform-found.result
    (told_of _ _ _ _ _ _ _ c.requires.picked.0 c.requires.picked.1 c.perform-found.ensures.told) (moves c.args.tile.now.place c.args.step c.perform-found.result)
    refl (idle_is _ _ _ c.absorb.new.self absorbs))
