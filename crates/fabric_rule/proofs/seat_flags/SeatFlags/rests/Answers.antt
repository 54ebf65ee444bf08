use Rattle.std.proofs.Common.{◌≡◌, ◌≢◌, ℕ, refl, sym, ap, ◌∙◌, subst}
use Rattle.std.specs.Prelude.{false}
use Rattle.torus.specs.declared.step.Step.{Step}
use Rattle.tile.specs.declared.agent.Agent.{Agent}
use Rattle.tile.specs.declared.agent.Agent.TheVariants.{Processor, Router, Bank}
use Rattle.tile.specs.Agents.{agent_kind, agent_tile}
use Rattle.tile.proofs.AgentNumbers.{number_is}
use Rattle.core_laws.specs.Routers.{of_router}
use Rattle.fabric_rule.specs.Known.{enabled}
use Rattle.fabric_rule.specs.Groups.{In}
use Rattle.fabric_rule.proofs.Counting.{of_its_router, no_processor, no_bank}
use Rattle.fabric_rule.proofs.seat_flags.SeatFlags.rests.Goals as goal

pub returns-in-Router-clause-right : goal.returns-in-Router-clause-right
returns-in-Router-clause-right g c = λ load run gs right mine has out.
    c.port_rests.ensures.right load run gs right (subst (In gs) (sym c.agent_tile.ensures) mine)
    (subst (λ (t : ℕ). enabled load run (of_router t c.args.step.choice) ≡ false) (sym c.agent_tile.ensures)
    (subst (λ (x : Step). enabled load run x ≡ false) (of_its_router c.args.step (sym c.agent_kind.ensures ∙ c.in-Router.is)) out))

pub returns-in-Processor-clause-right : goal.returns-in-Processor-clause-right
returns-in-Processor-clause-right g c = λ load run gs right mine has out.
    c.choice_rests.ensures.right load run gs right mine (no_processor c.args.step.agent (sym c.agent_kind.ensures ∙ c.in-Processor.is)) has out

pub returns-in-Bank-clause-right : goal.returns-in-Bank-clause-right
returns-in-Bank-clause-right g c = λ load run gs right mine has out.
    c.choice_rests-in-Bank.ensures.right load run gs right mine (no_bank c.args.step.agent (sym c.agent_kind.ensures ∙ c.in-Bank.is)) has out
