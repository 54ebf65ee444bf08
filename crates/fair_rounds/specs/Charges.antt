-- What each step does of what is still to do.
use Rattle.std.specs.Prelude.{ℕ}
use Rattle.torus.specs.declared.step.Choice.{Choice}
use Rattle.torus.specs.declared.step.Choice.TheVariants as choice
use Rattle.tile.specs.declared.agent.Agent.{Agent}
use Rattle.tile.specs.declared.agent.Agent.TheVariants.{Processor, Router, Bank}

-- what a choice of an agent counts where it is enabled: a put twice, a take and a service once; a credit,
-- a report and a look not at all
abbrev pub charge : Agent → Choice → ℕ
charge Processor choice.Send = 2
charge Processor choice.Take = 1
charge Processor _ = 0
charge Router (choice.Put i) = 2
charge Router (choice.TakeFrom i) = 1
charge Router _ = 0
charge Bank choice.Send = 2
charge Bank choice.Take = 1
charge Bank choice.Serve = 1
charge Bank _ = 0
