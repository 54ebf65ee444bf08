use Rattle.fabric.proofs.Counting.{agent_low, unready_right, idle_right, seen_right}
use Rattle.fabric.proofs.Takes.{moves_then, sees_then, sees_at_once, only_then, stands_on}
use Rattle.fabric.proofs.Turning.{idles_before, op_is, only_same, tile_known, waits}
use Rattle.fabric.proofs.steps.turn_tile.Goals as goal

pub tile_op-requires : goal.tile_op-requires
tile_op-requires g c = tile_known _ _ _ _ c.requires.tile

pub rests-requires : goal.rests-requires
rests-requires g c = agent_low c.args.seat.now.me.0.load c.args.seat.now.me.0.run c.args.step c.args.tile.now c.requires.load c.requires.tile

pub returns-in_default-clause-idle : goal.returns-in_default-clause-idle
returns-in_default-clause-idle g c = λ _. idles_before _ _ _ c.requires.tile.place (op_is _ _ _ c.in_default.ensures)

pub returns-in_default-clause-flags : goal.returns-in_default-clause-flags
returns-in_default-clause-flags g c =
    unready_right c.args.step c.args.tile.now.place c.args.seat.now.me.0 c.requires.load c.args.flags.now c.rests.new.self c.requires.flags c.requires.seat.2
    c.requires.tile.place c.rests.ensures.right c.requires.choice (op_is _ _ _ c.in_default.ensures)

pub finds_no_flit-requires-clause-agent : goal.finds_no_flit-requires-clause-agent
finds_no_flit-requires-clause-agent g c = agent_low c.args.seat.now.me.0.load c.args.seat.now.me.0.run c.args.step c.args.tile.now c.requires.load c.requires.tile

pub rests-requires-then-finds_no_flit : goal.rests-requires-then-finds_no_flit
rests-requires-then-finds_no_flit g c = agent_low c.args.seat.now.me.0.load c.args.seat.now.me.0.run c.args.step c.args.tile.now c.requires.load c.requires.tile

pub returns-then-finds_no_flit-clause-tile : goal.returns-then-finds_no_flit-clause-tile
returns-then-finds_no_flit-clause-tile g c = let saw = c.finds_no_flit.ensures.sees in
    stands_on c.args.seat.now.me.0 c.finds_no_flit.new.seat.me.0 c.finds_no_flit.new.seat.me.0 c.args.step saw.between saw.others saw.view c.requires.load
    c.requires.seat.2 c.args.tile.now c.requires.tile

pub returns-then-finds_no_flit-clause-idle : goal.returns-then-finds_no_flit-clause-idle
returns-then-finds_no_flit-clause-idle g c = λ _. let saw = c.finds_no_flit.ensures.sees in
    waits c.args.step c.args.tile.now.place c.args.seat.now.me.0 c.finds_no_flit.new.seat.me.0 c.in-Some.op c.requires.tile.place
    (op_is _ _ _ c.in-Some.ensures)
    (sees_at_once c.args.seat.now.me.0 c.finds_no_flit.new.seat.me.0 c.finds_no_flit.new.seat.me.0 c.args.step saw.between saw.others saw.view
    (c.finds_no_flit.ensures.idle c.if-finds_no_flit.true))

pub returns-then-finds_no_flit-clause-rest : goal.returns-then-finds_no_flit-clause-rest
returns-then-finds_no_flit-clause-rest g c = let saw = c.finds_no_flit.ensures.sees in
    only_then c.args.seat.now.me.0 c.finds_no_flit.new.seat.me.0 c.finds_no_flit.new.seat.me.0 c.args.step saw.between saw.others saw.view c.requires.load _
    (only_same c.finds_no_flit.new.seat.me.0 _)

pub returns-then-finds_no_flit-clause-flags : goal.returns-then-finds_no_flit-clause-flags
returns-then-finds_no_flit-clause-flags g c = let saw = c.finds_no_flit.ensures.sees in
    idle_right c.args.step c.args.tile.now.place c.args.seat.now.me.0 c.requires.load c.args.flags.now c.rests-then-finds_no_flit.new.self c.requires.flags
    c.requires.seat.2 c.requires.tile.place c.rests-then-finds_no_flit.ensures.right c.requires.choice c.finds_no_flit.new.seat.me.0
    (sees_at_once c.args.seat.now.me.0 c.finds_no_flit.new.seat.me.0 c.finds_no_flit.new.seat.me.0 c.args.step saw.between saw.others saw.view
    (c.finds_no_flit.ensures.idle c.if-finds_no_flit.true))

pub returns-clause-moved : goal.returns-clause-moved
returns-clause-moved g c = λ e. let saw = c.finds_no_flit.ensures.sees in
    moves_then c.args.seat.now.me.0 c.finds_no_flit.new.seat.me.0 c.attempt_op.new.seat.me.0 c.args.step saw.between saw.others saw.view (c.attempt_op.ensures.moved e)

pub returns-clause-idle : goal.returns-clause-idle
returns-clause-idle g c = λ e. let saw = c.finds_no_flit.ensures.sees in
    waits c.args.step c.args.tile.now.place c.args.seat.now.me.0 c.attempt_op.new.seat.me.0 c.in-Some.op c.requires.tile.place (op_is _ _ _ c.in-Some.ensures)
    (sees_then c.args.seat.now.me.0 c.finds_no_flit.new.seat.me.0 c.attempt_op.new.seat.me.0 c.args.step saw.between saw.others saw.view (c.attempt_op.ensures.idle e))

pub returns-clause-rest : goal.returns-clause-rest
returns-clause-rest g c = let saw = c.finds_no_flit.ensures.sees in
    only_then c.args.seat.now.me.0 c.finds_no_flit.new.seat.me.0 c.attempt_op.new.seat.me.0 c.args.step saw.between saw.others saw.view c.requires.load _
    c.attempt_op.ensures.rest

pub attempt_op-requires-clause-tile : goal.attempt_op-requires-clause-tile
attempt_op-requires-clause-tile g c = let saw = c.finds_no_flit.ensures.sees in
    stands_on c.args.seat.now.me.0 c.finds_no_flit.new.seat.me.0 c.finds_no_flit.new.seat.me.0 c.args.step saw.between saw.others saw.view c.requires.load
    c.requires.seat.2 c.args.tile.now c.requires.tile

pub attempt_op-requires-clause-flags : goal.attempt_op-requires-clause-flags
attempt_op-requires-clause-flags g c =
    seen_right c.args.seat.now c.finds_no_flit.new.seat c.args.flags.now c.requires.load c.finds_no_flit.ensures.sees c.requires.flags
