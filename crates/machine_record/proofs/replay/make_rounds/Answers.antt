use Rattle.std.proofs.Common.{◌≡◌, ℕ, subst, arith}
use Rattle.machine_record.specs.Replay.{rounds_made}
use Rattle.machine_record.proofs.Replays.{round_more}
use Rattle.machine_record.proofs.replay.make_rounds.Goals as goal

pub loop-made-preserved : goal.loop-made-preserved
loop-made-preserved g c =
    round_more c.args.machine.now c.loop-made.machine c.round.new.self c.loop-made.made c.loop-made.invariant c.round.ensures.state c.round.ensures.spins c.round.ensures.guard

pub returns : goal.returns
returns g c =
    let end : c.loop-made.made ≡ c.args.count = omega arith in
    subst (λ (k : ℕ). c.loop-made.machine ≡ rounds_made c.args.machine.now k) end c.loop-made.invariant
