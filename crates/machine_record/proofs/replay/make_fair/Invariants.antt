use Rattle.std.proofs.Common.{◌≡◌}
use Rattle.machine_asked.specs.Asked.{fair_rounds_made}
use Rattle.machine_record.proofs.replay.make_fair.Given as goal

-- so many fair rounds are made
abbrev pub invariant-loop-made : goal.invariant-loop-made
invariant-loop-made g l = l.machine ≡ fair_rounds_made l.fn.machine l.made
