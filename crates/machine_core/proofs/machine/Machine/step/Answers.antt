use Rattle.std.proofs.Common.{sym, ◌∙◌, arith}
use Rattle.std.proofs.lemmas.Grind.{common_steps}
use Rattle.machine_core.specs.Inside.{core_of}
use Rattle.machine_core.proofs.Fields.{follows, stays}
use Rattle.machine_core.proofs.Standing.{none_past}
use Rattle.machine_core.proofs.Agents.{as_attempt}
use Rattle.tile.specs.declared.agent.Agent.TheVariants.{Processor, Router, Bank}
use Rattle.tile.specs.Agents.{agent_number}
use Rattle.tile.proofs.AgentNumbers.{number_is}
use Rattle.machine_core.proofs.machine.Machine.step.Goals as goal

pub returns-then-tile-len-clause-step : goal.returns-then-tile-len-clause-step
returns-then-tile-len-clause-step g c =
    let past = c.self.inside.tiles.ok.0 in
    let tile = c.agent_tile-tile.ensures in
    rw (← c.self.view_is) (stays (core_of c.self.inside) c.args.step (none_past c.self.inside c.self.invariant c.args.step (omega arith)))

pub returns-then-tile-len-clause-runs_on : goal.returns-then-tile-len-clause-runs_on
returns-then-tile-len-clause-runs_on g c = follows _ _ _ _ (returns-then-tile-len-clause-step g c)

pub returns-in-Processor-clause-step : goal.returns-in-Processor-clause-step
returns-in-Processor-clause-step g c = as_attempt _ _ _ c.args.step (agent_number c.agent_tile-tile.result Processor)
    (number_is c.args.step.agent c.agent_tile-tile.result Processor (sym c.agent_tile-tile.ensures) (sym c.agent_kind.ensures ∙ c.in-Processor.is))
    c.step_processor_by.ensures

pub returns-in-Processor-clause-runs_on : goal.returns-in-Processor-clause-runs_on
returns-in-Processor-clause-runs_on g c = follows _ _ _ _ (returns-in-Processor-clause-step g c)

pub returns-in-Router-clause-step : goal.returns-in-Router-clause-step
returns-in-Router-clause-step g c = as_attempt _ _ _ c.args.step (agent_number c.agent_tile-tile.result Router)
    (number_is c.args.step.agent c.agent_tile-tile.result Router (sym c.agent_tile-tile.ensures) (sym c.agent_kind.ensures ∙ c.in-Router.is))
    c.step_router_by.ensures

pub returns-in-Router-clause-runs_on : goal.returns-in-Router-clause-runs_on
returns-in-Router-clause-runs_on g c = follows _ _ _ _ (returns-in-Router-clause-step g c)

pub returns-in-Bank-clause-step : goal.returns-in-Bank-clause-step
returns-in-Bank-clause-step g c = as_attempt _ _ _ c.args.step (agent_number c.agent_tile-tile.result Bank)
    (number_is c.args.step.agent c.agent_tile-tile.result Bank (sym c.agent_tile-tile.ensures) (sym c.agent_kind.ensures ∙ c.in-Bank.is))
    c.step_bank_by.ensures

pub returns-in-Bank-clause-runs_on : goal.returns-in-Bank-clause-runs_on
returns-in-Bank-clause-runs_on g c = follows _ _ _ _ (returns-in-Bank-clause-step g c)

pub step_processor_by-requires : goal.step_processor_by-requires
step_processor_by-requires g c = grind (arith, common_steps)

pub step_router_by-requires : goal.step_router_by-requires
step_router_by-requires g c = grind (arith, common_steps)

pub step_bank_by-requires : goal.step_bank_by-requires
step_bank_by-requires g c = grind (arith, common_steps)
