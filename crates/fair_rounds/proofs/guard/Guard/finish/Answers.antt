use Rattle.std.proofs.Common.{sym, ◌∙◌, arith}
use Rattle.fair_rounds.proofs.FairFinish.{stands, less_left, has_more}
use Rattle.fair_rounds.proofs.guard.Guard.finish.Goals as goal

pub loop-self-preserved : goal.loop-self-preserved
loop-self-preserved g c =
    has_more c.reached.ensures.after.0 (record { core = c.args.machine.now; guard = c.args.self.now }) c.reached.ensures.after.1 c.reached.ensures.after.2
    (record { core = c.loop-self.machine; guard = c.loop-self.self }) c.loop-self.rounds c.loop-self.invariant
    (record { core = c.round.new.machine; guard = c.round.new.self }) c.round.result c.round.ensures.held
    (sym c.finished.ensures.value ∙ c.loop-self-test.true) c.round.ensures.moves c.round.ensures.state c.round.ensures.guard

pub loop-self-smaller : goal.loop-self-smaller
loop-self-smaller g c =
    let less = less_left c.reached.ensures.after.0 (record { core = c.args.machine.now; guard = c.args.self.now }) c.reached.ensures.after.1 c.reached.ensures.after.2
    (record { core = c.loop-self.machine; guard = c.loop-self.self }) c.loop-self.rounds c.loop-self.invariant
    (record { core = c.round.new.machine; guard = c.round.new.self }) c.round.result c.round.ensures.held
    (sym c.finished.ensures.value ∙ c.loop-self-test.true) c.round.ensures.moves in
    omega (arith, less)

pub returns-clause-runs_on : goal.returns-clause-runs_on
returns-clause-runs_on g c = λ l before h.
    stands l (record { core = c.args.machine.now; guard = c.args.self.now }) before h
    (record { core = c.loop-self.machine; guard = c.loop-self.self }) c.loop-self.rounds c.loop-self.invariant
