use Rattle.std.proofs.Common.{◌≡◌, ◌+◌, ◌-◌, ◌*◌, List, length, Some, refl, sym, ◌∙◌, ap, subst, arith, slice_get, slice_set, slice_index}
use Rattle.std.proofs.lemmas.Grind.{common_steps}
use Rattle.std.specs.Vec.{with_item}
use Rattle.std.proofs.lemmas.List.{length-set}
use Rattle.std.proofs.lemmas.Option.{same_Some}
use Rattle.torus.specs.declared.step.Stepped.TheVariants.{Moved}
use Rattle.flit_buffer.specs.Words.{word_of}
use Rattle.flit_buffer.specs.declared.word_op.WordOp.{WordOp}
use Rattle.tile.specs.declared.agent.Agent.TheVariants.{Bank}
use Rattle.tile.specs.Agents.{agent_op, agent_absorbed}
use Rattle.tile.proofs.AgentNumbers.{tile_of_number, kind_of_number}
use Rattle.machine_parts.specs.Placed.{PlacedTile, agent_attempted}
use Rattle.machine_core.specs.declared.noting.Counts.{Counts}
use Rattle.machine_core.specs.Noted.{HasRoomToNote, counts_of}
use Rattle.machine_core.proofs.Fields.{Led, vec_at, with_parts, moved_tile, idle_tile, noted_same}
use Rattle.machine_core.proofs.Standing.{few_tiles}
use Rattle.machine_core.proofs.Agents.{tile_within, agent_word, agent_fits, agent_idle, agent_can_note, agent_left}
use Rattle.machine_core.proofs.Agents.{agent_moved, bank_stays}
use Rattle.machine_core.proofs.machine.Machine.step_bank.Given.{Over}
use Rattle.machine_core.proofs.machine.Machine.step_bank.Goals as goal

pub attempt_bank-requires-clause-room : goal.attempt_bank-requires-clause-room
attempt_bank-requires-clause-room g c =
    agent_word c.self.inside c.self.invariant (record { agent = 3 * c.args.tile + 2; choice = c.args.choice }) c.args.tile Bank
    (tile_of_number c.args.tile Bank) (kind_of_number c.args.tile Bank)
    c.index_mut.result.now (vec_at c.self.inside.tiles c.args.tile c.index_mut.result.now
    (tile_within c.self.inside c.self.invariant c.args.self.now c.self.view_is c.args.tile c.requires) c.index_mut.ensures.value)

pub attempt_bank-requires-clause-flit : goal.attempt_bank-requires-clause-flit
attempt_bank-requires-clause-flit g c =
    agent_fits c.self.inside c.self.invariant (record { agent = 3 * c.args.tile + 2; choice = c.args.choice }) c.args.tile Bank
    (tile_of_number c.args.tile Bank) (kind_of_number c.args.tile Bank)
    c.index_mut.result.now (vec_at c.self.inside.tiles c.args.tile c.index_mut.result.now
    (tile_within c.self.inside c.self.invariant c.args.self.now c.self.view_is c.args.tile c.requires) c.index_mut.ensures.value)

pub note-requires-clause-tile : goal.note-requires-clause-tile
note-requires-clause-tile g c =
    let low = tile_within c.self.inside c.self.invariant c.args.self.now c.self.view_is c.args.tile c.requires in
    let long = c.self.inside.tiles.ok.0 in
    let same = ap (λ (vs : List PlacedTile). length vs) c.as_slice.ensures.value in
    let set = length-set c.self.inside.tiles.items c.args.tile c.attempt_bank.new.self in
    omega (arith, low, long, same, set)

pub note-requires-clause-tiles : goal.note-requires-clause-tiles
note-requires-clause-tiles g c =
    let few = few_tiles c.self.inside c.self.invariant in
    let long = c.self.inside.tiles.ok.0 in
    let low = tile_within c.self.inside c.self.invariant c.args.self.now c.self.view_is c.args.tile c.requires in
    omega arith

pub note-requires-clause-room : goal.note-requires-clause-room
note-requires-clause-room g c =
    let v : PlacedTile = c.index_mut.result.now in
    let at : slice_get c.self.inside.tiles.items c.args.tile ≡ Some v =
    vec_at c.self.inside.tiles c.args.tile c.index_mut.result.now
    (tile_within c.self.inside c.self.invariant c.args.self.now c.self.view_is c.args.tile c.requires) c.index_mut.ensures.value in
    let counted : slice_get c.self.inside.tiles.items c.args.tile ≡ Some c.index-2.result.now =
    vec_at c.self.inside.tiles c.args.tile c.index-2.result.now
    (tile_within c.self.inside c.self.invariant c.args.self.now c.self.view_is c.args.tile c.requires) c.index-2.ensures in
    let before : c.of-before.result ≡ counts_of v = c.of-before.ensures ∙ ap counts_of (same_Some _ _ (sym counted ∙ at)) in
    let k = moved_tile (agent_attempted v.place Bank c.args.choice c.self.inside.row.items) c.in-Some.op (agent_op v.place Bank c.args.choice) v
    c.attempt_bank.new.self c.in-Some.ensures.step in
    subst (λ (b : Counts). HasRoomToNote c.as_slice.result.now c.args.tile b c.self.inside.book) (sym before)
    (agent_can_note c.self.inside c.self.invariant (record { agent = 3 * c.args.tile + 2; choice = c.args.choice }) c.args.tile Bank
    (tile_of_number c.args.tile Bank) (kind_of_number c.args.tile Bank) v
    at k.0 k.1 c.attempt_bank.new.self k.2 c.as_slice.result.now c.as_slice.ensures.value c.attempt_bank.new.row.items c.attempt_bank.ensures.row)

led : (g : Over) (c : goal.After-self-2-1 g)
    → Led c.self.inside (with_parts c.self.inside (with_item c.self.inside.tiles c.args.tile c.attempt_bank.new.self) c.attempt_bank.new.row c.note.new.book
    c.moved.new.self c.wake.new.self (c.self.inside.left - 1)) Moved (record { agent = 3 * c.args.tile + 2; choice = c.args.choice })
led g c =
    let v : PlacedTile = c.index_mut.result.now in
    let at : slice_get c.self.inside.tiles.items c.args.tile ≡ Some v =
    vec_at c.self.inside.tiles c.args.tile c.index_mut.result.now
    (tile_within c.self.inside c.self.invariant c.args.self.now c.self.view_is c.args.tile c.requires) c.index_mut.ensures.value in
    let counted : slice_get c.self.inside.tiles.items c.args.tile ≡ Some c.index-2.result.now =
    vec_at c.self.inside.tiles c.args.tile c.index-2.result.now
    (tile_within c.self.inside c.self.invariant c.args.self.now c.self.view_is c.args.tile c.requires) c.index-2.ensures in
    let before : c.of-before.result ≡ counts_of v = c.of-before.ensures ∙ ap counts_of (same_Some _ _ (sym counted ∙ at)) in
    let k = moved_tile (agent_attempted v.place Bank c.args.choice c.self.inside.row.items) c.in-Some.op (agent_op v.place Bank c.args.choice) v
    c.attempt_bank.new.self c.in-Some.ensures.step in
    let tiles = with_item c.self.inside.tiles c.args.tile c.attempt_bank.new.self in
    agent_moved c.self.inside c.self.invariant (record { agent = 3 * c.args.tile + 2; choice = c.args.choice }) c.args.tile Bank
    (tile_of_number c.args.tile Bank) (kind_of_number c.args.tile Bank) v at
    k.0 k.1 c.attempt_bank.new.self k.2 tiles refl c.attempt_bank.new.row c.attempt_bank.ensures.row c.note.new.book c.note.ensures.room
    (noted_same c.as_slice.result.now tiles.items c.of-before.result (counts_of v) c.args.tile c.note.new.book.book c.self.inside.book.book
    c.as_slice.ensures.value before c.note.ensures.book)
    c.in-Some.op k.3 c.moved.new.self c.moved.ensures c.wake.new.self
    (record { design = c.wake.ensures.design; flags = c.wake.ensures.flags })

pub overflow_sub-self : goal.overflow_sub-self
overflow_sub-self g c =
    let v : PlacedTile = c.index_mut.result.now in
    let at : slice_get c.self.inside.tiles.items c.args.tile ≡ Some v =
    vec_at c.self.inside.tiles c.args.tile c.index_mut.result.now
    (tile_within c.self.inside c.self.invariant c.args.self.now c.self.view_is c.args.tile c.requires) c.index_mut.ensures.value in
    let k = moved_tile (agent_attempted v.place Bank c.args.choice c.self.inside.row.items) c.in-Some.op (agent_op v.place Bank c.args.choice) v
    c.attempt_bank.new.self c.in-Some.ensures.step in
    let some = agent_left c.self.inside c.self.invariant (record { agent = 3 * c.args.tile + 2; choice = c.args.choice }) c.args.tile Bank
    (tile_of_number c.args.tile Bank) (kind_of_number c.args.tile Bank) v
    at k.0 k.1 c.attempt_bank.new.self k.2 (slice_set c.self.inside.tiles.items c.args.tile c.attempt_bank.new.self) refl c.attempt_bank.new.row.items
    c.attempt_bank.ensures.row in
    omega (arith, some)

pub invariant_of-self-2 : goal.invariant_of-self-2
invariant_of-self-2 g c = (led g c).machine

pub returns : goal.returns
returns g c = rw (← c.self.view_is) (led g c).steps

pub invariant_of-self : goal.invariant_of-self
invariant_of-self g c =
    let v : PlacedTile = c.index_mut.result.now in
    let at : slice_get c.self.inside.tiles.items c.args.tile ≡ Some v =
    vec_at c.self.inside.tiles c.args.tile c.index_mut.result.now
    (tile_within c.self.inside c.self.invariant c.args.self.now c.self.view_is c.args.tile c.requires) c.index_mut.ensures.value in
    let k = idle_tile (λ (o : WordOp). agent_absorbed v.place Bank c.args.choice (slice_index c.self.inside.row.items (word_of o)))
    (agent_op v.place Bank c.args.choice) v c.attempt_bank.new.self c.in_default.ensures.step in
    (agent_idle c.self.inside c.self.invariant (record { agent = 3 * c.args.tile + 2; choice = c.args.choice }) c.args.tile Bank
    (tile_of_number c.args.tile Bank) (kind_of_number c.args.tile Bank) v
    at (with_item c.self.inside.tiles c.args.tile c.attempt_bank.new.self) c.attempt_bank.new.row k.0 c.attempt_bank.new.self k.1 refl
    c.attempt_bank.ensures.row).machine

pub returns-in_default : goal.returns-in_default
returns-in_default g c =
    let v : PlacedTile = c.index_mut.result.now in
    let at : slice_get c.self.inside.tiles.items c.args.tile ≡ Some v =
    vec_at c.self.inside.tiles c.args.tile c.index_mut.result.now
    (tile_within c.self.inside c.self.invariant c.args.self.now c.self.view_is c.args.tile c.requires) c.index_mut.ensures.value in
    let k = idle_tile (λ (o : WordOp). agent_absorbed v.place Bank c.args.choice (slice_index c.self.inside.row.items (word_of o)))
    (agent_op v.place Bank c.args.choice) v c.attempt_bank.new.self c.in_default.ensures.step in
    rw (← c.self.view_is) (agent_idle c.self.inside c.self.invariant (record { agent = 3 * c.args.tile + 2; choice = c.args.choice }) c.args.tile Bank
    (tile_of_number c.args.tile Bank) (kind_of_number c.args.tile Bank) v
    at (with_item c.self.inside.tiles c.args.tile c.attempt_bank.new.self) c.attempt_bank.new.row k.0 c.attempt_bank.new.self k.1 refl
    c.attempt_bank.ensures.row).steps

pub returns-then-lacks_room : goal.returns-then-lacks_room
returns-then-lacks_room g c =
    rw (← c.self.view_is) (bank_stays c.self.inside c.self.invariant (record { agent = 3 * c.args.tile + 2; choice = c.args.choice }) c.args.tile
    (tile_of_number c.args.tile Bank) (kind_of_number c.args.tile Bank)
    c.index.result.now
    (vec_at c.self.inside.tiles c.args.tile c.index.result.now
    (tile_within c.self.inside c.self.invariant c.args.self.now c.self.view_is c.args.tile c.requires) c.index.ensures)
    (c.lacks_room.ensures.full c.if-lacks_room.true))

-- there are bits for its agents
pub moved-requires : goal.moved-requires
moved-requires g c =
    let few = few_tiles c.self.inside c.self.invariant in
    let long = c.self.inside.tiles.ok.0 in
    let low = tile_within c.self.inside c.self.invariant c.args.self.now c.self.view_is c.args.tile c.requires in
    omega (arith, few, long, low)

pub index-requires : goal.index-requires
index-requires g c = grind (arith, common_steps)

pub index-requires-2 : goal.index-requires-2
index-requires-2 g c = grind (arith, common_steps)

pub index_mut-requires : goal.index_mut-requires
index_mut-requires g c = grind (arith, common_steps)

pub attempt_bank-requires-clause-entries : goal.attempt_bank-requires-clause-entries
attempt_bank-requires-clause-entries g c = grind (arith, common_steps)
