use Rattle.std.proofs.Common.{◌≡◌, ℕ, subst, arith}
use Rattle.machine_record.specs.Replay.{turned_made}
use Rattle.machine_record.proofs.Replays.{turned_next}
use Rattle.machine_record.proofs.replay.make_turned.Goals as goal

pub loop-made-preserved : goal.loop-made-preserved
loop-made-preserved g c =
    turned_next c.args.machine.now c.loop-made.machine c.clocked_round.new.self c.args.turns.first c.loop-made.made _ c.loop-made.invariant c.turn_behind.ensures
    c.clocked_round.ensures.state c.clocked_round.ensures.spins c.clocked_round.ensures.guard

pub returns : goal.returns
returns g c =
    let end : c.loop-made.made ≡ c.args.turns.count = omega arith in
    subst (λ (k : ℕ). c.loop-made.machine ≡ turned_made c.args.machine.now c.args.turns.first k) end c.loop-made.invariant
