use Rattle.std.proofs.lemmas.Result.{on_ok_weaker, on_err_weaker}
use Rattle.machine_parts.specs.Grown.{tile_given}
use Rattle.machine_parts.proofs.Items.{seen_at, same_there, changed_to}
use Rattle.machine_parts.proofs.lines.give.Goals as goal

pub append-requires-clause-last : goal.append-requires-clause-last
append-requires-clause-last g c =
    (c.requires.takes c.index_mut.result.now
    (seen_at c.args.tiles.now.items c.args.own c.index_mut.result.now c.requires.tile c.index_mut.ensures.value)).last

pub append-requires-clause-room : goal.append-requires-clause-room
append-requires-clause-room g c =
    (c.requires.takes c.index_mut.result.now
    (seen_at c.args.tiles.now.items c.args.own c.index_mut.result.now c.requires.tile c.index_mut.ensures.value)).room

pub returns-clause-given : goal.returns-clause-given
returns-clause-given g c = on_ok_weaker c.append.result
    (changed_to (tile_given c.args.line) c.args.tiles.now.items c.args.own c.index_mut.result.now c.append.new.self c.requires.tile
    c.index_mut.ensures.value)
    c.append.ensures.appended

pub returns-clause-same : goal.returns-clause-same
returns-clause-same g c = on_err_weaker c.append.result
    (same_there c.args.tiles.now.items c.args.own c.index_mut.result.now c.append.new.self c.requires.tile c.index_mut.ensures.value)
    c.append.ensures.same
