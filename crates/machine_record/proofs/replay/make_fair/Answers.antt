use Rattle.std.proofs.Common.{◌≡◌, ℕ, subst, arith}
use Rattle.machine_asked.specs.Asked.{fair_rounds_made}
use Rattle.machine_record.proofs.Replays.{fair_more}
use Rattle.machine_record.proofs.replay.make_fair.Goals as goal

pub loop-made-preserved : goal.loop-made-preserved
loop-made-preserved g c =
    fair_more c.args.machine.now c.loop-made.machine c.fair_round.new.self c.loop-made.made c.loop-made.invariant c.fair_round.ensures.made

pub returns : goal.returns
returns g c =
    let end : c.loop-made.made ≡ c.args.count = omega arith in
    subst (λ (k : ℕ). c.loop-made.machine ≡ fair_rounds_made c.args.machine.now k) end c.loop-made.invariant
