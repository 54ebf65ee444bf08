-- Which choices an agent has.
use Rattle.std.specs.Prelude.{ℕ, Bool}
use Rattle.torus.specs.Choices.{is_of_processor, is_of_router, is_of_bank}
use Rattle.torus.specs.declared.step.Choice.{Choice}
use Rattle.tile.specs.declared.agent.Agent.{Agent}
use Rattle.tile.specs.declared.agent.Agent.TheVariants.{Processor, Router, Bank}

-- whether an agent of a tile has a choice, where the router has so many inputs and as many outputs:
-- a processor and a bank have their own, a router has one for each input or output (this project's
-- own format)
abbrev pub has_choice : ℕ → Agent → Choice → Bool
has_choice ports Processor choice = is_of_processor choice
has_choice ports Router choice = is_of_router ports choice
has_choice ports Bank choice = is_of_bank choice
