use Rattle.std.proofs.Common.{◌≡◌, ℕ, ◌+◌, ◌*◌, ◌≤◌, List, length, ap, ◌∙◌, arith}
use Rattle.std.specs.List.{flat_map, range_with_len}
use Rattle.torus.specs.Shape.{Shape, dims_of, tiles_of}
use Rattle.torus.specs.declared.step.Step.{Step}
use Rattle.channel_number.specs.Ports.{port_count}
use Rattle.machine_core.specs.Arbiters.{arbited_at, arbited_round}
use Rattle.machine_core.specs.Oldest.{oldest}
use Rattle.command_schedule.specs.Drawn.{enabled_now}
use Rattle.command_schedule.proofs.Kept.{kept_none, kept_then, kept_as, tiles_more}
use Rattle.command_schedule.proofs.fair_list.keep_round.Goals as goal

pub loop-tile-init : goal.loop-tile-init
loop-tile-init g c = record { so_far = kept_none c.args.machine.now c.args.room.now 0; few = omega arith }

pub keep_tile-count-requires : goal.keep_tile-count-requires
keep_tile-count-requires g c =
    let few = c.loop-tile.invariant.few in
    let room = c.loop-tile.invariant.so_far.room in
    record {
      tile = (let shape = ap tiles_of c.torus-2.ensures in omega (arith, shape));
      few = omega arith;
      ports = ap port_count c.dims.ensures.value ∙ ap (λ (s : Shape). port_count (dims_of s)) c.torus.ensures;
      low = omega arith;
      room = omega (arith, few, room, c.requires);
    }

pub loop-tile-preserved : goal.loop-tile-preserved
loop-tile-preserved g c =
    let few = c.loop-tile.invariant.few in
    let more = c.keep_tile-count.ensures.few in
    let at : ℕ → List Step = λ (t : ℕ). arbited_at (8 * c.dims.result + 2) (oldest c.args.machine.now t) t in
    record {
      so_far = kept_as c.args.machine.now _ _ c.args.room.now c.keep_tile-count.new.room 0 c.keep_tile-count.result (tiles_more at c.loop-tile.tile)
          (kept_then c.args.machine.now (flat_map at (range_with_len 0 c.loop-tile.tile)) (at c.loop-tile.tile) c.args.room.now c.loop-tile.room
          c.keep_tile-count.new.room 0 c.loop-tile.count c.keep_tile-count.result c.loop-tile.invariant.so_far c.keep_tile-count.ensures.kept);
      few = omega (arith, few, more);
    }

pub returns : goal.returns
returns g c =
    let few = c.loop-tile.invariant.few in
    let room = c.loop-tile.invariant.so_far.room in
    let ports : 8 * c.dims.result + 2 ≡ port_count (dims_of c.args.machine.now.shape) =
    ap port_count c.dims.ensures.value ∙ ap (λ (s : Shape). port_count (dims_of s)) c.torus.ensures in
    let shape = ap tiles_of c.torus-2.ensures in
    let end : c.loop-tile.tile ≡ tiles_of c.args.machine.now.shape = omega (arith, shape) in
    record {
      kept = c.loop-tile.invariant.so_far.kept
          ∙ (ap (λ (n : ℕ). enabled_now c.args.machine.now (flat_map (λ (t : ℕ). arbited_at (8 * c.dims.result + 2) (oldest c.args.machine.now t) t) (range_with_len 0 n))) end
          ∙ ap (λ (p : ℕ). enabled_now c.args.machine.now (flat_map (λ (t : ℕ). arbited_at p (oldest c.args.machine.now t) t) (range_with_len 0 (tiles_of c.args.machine.now.shape)))) ports);
      within = omega (arith, few, room, c.requires);
      room = room;
    }
