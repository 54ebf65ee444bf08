use Rattle.std.proofs.Common.{◌∙◌}
use Rattle.network_run.proofs.Telling.{run_told}
use Rattle.network_run.proofs.running.judged_run.Goals as goal

pub returns-in-Some : goal.returns-in-Some
returns-in-Some g c =
    run_told c.args.network.now c.args.depth c.in_ok-verdict.verdict c.in_ok-found.found c.in-Some.moves c.deref.result.now
    record { text = c.in_ok-moves_text-in-Some.field-0; rising = c.is_rising-rising.result; causes = c.in_ok-causes.causes; kinds = c.in_ok-kinds.kinds }
    c.in-Some.is c.in_ok-found.ensures c.in_ok-verdict.ensures c.in_ok-moves_text-in-Some.ensures c.deref.ensures.value c.is_rising-rising.ensures
    c.in_ok-causes.ensures (c.in_ok-kinds.ensures.items ∙ c.kinds.ensures.value)
