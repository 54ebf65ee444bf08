use Rattle.std.proofs.Common.{◌≡◌, ℕ, subst, arith}
use Rattle.machine_record.specs.Replay.{clocked_rounds_made}
use Rattle.machine_record.proofs.Replays.{clocked_more}
use Rattle.machine_record.proofs.replay.make_clocked.Goals as goal

pub loop-turn-preserved : goal.loop-turn-preserved
loop-turn-preserved g c =
    clocked_more c.args.machine.now c.loop-turn.machine c.clocked_round.new.self c.loop-turn.turn c.loop-turn.invariant c.clocked_round.ensures.state
    c.clocked_round.ensures.spins c.clocked_round.ensures.guard

pub returns : goal.returns
returns g c =
    let end : c.loop-turn.turn ≡ c.args.count = omega arith in
    subst (λ (k : ℕ). c.loop-turn.machine ≡ clocked_rounds_made c.args.machine.now k) end c.loop-turn.invariant
