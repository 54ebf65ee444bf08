-- One turn more, and all turns.
use Rattle.std.proofs.Common.{◌≡◌, ℕ, ◌+◌, ◌*◌, ◌∙◌, ap, map, arith}
use Rattle.std.specs.List.{range_with_len}
use Rattle.torus.specs.Shape.{dims_of}
use Rattle.channel_number.specs.Ports.{port_count}
use Rattle.machine_core.specs.Clocked.{turned_round}
use Rattle.command_schedule.proofs.Turned.{no_turn, turn_more}
use Rattle.command_schedule.proofs.turned_list.each_turn.Goals as goal

pub turned_tiles-requires : goal.turned_tiles-requires
turned_tiles-requires g c = let dims = c.dims.ensures.value in omega (arith, dims)

pub loop-first-init : goal.loop-first-init
loop-first-init g c = no_turn c.args.torus.now c.new-turned.result.items c.new-turned.ensures.items

pub loop-first-preserved : goal.loop-first-preserved
loop-first-preserved g c =
    turn_more c.args.torus.now c.loop-first.first c.loop-first.turned.items c.push.new.self.items _ c.loop-first.invariant
    c.in_ok-turned_tiles.ensures c.in_ok-push.ensures.items

pub returns : goal.returns
returns g c =
    let dims = c.dims.ensures.value in
    let end : c.loop-first.first ≡ port_count (dims_of c.args.torus.now) = omega (arith, dims) in
    c.loop-first.invariant ∙ ap (λ (n : ℕ). map (turned_round c.args.torus.now) (range_with_len 0 n)) end
