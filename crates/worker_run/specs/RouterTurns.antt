-- The choices of a router, by their kind.
use Rattle.std.specs.Prelude.{ℕ, ◌+◌, ◌*◌}
use Rattle.torus.specs.declared.step.Choice.{Choice}
use Rattle.torus.specs.declared.step.Choice.TheVariants as choice
use Rattle.worker_run.specs.declared.router_turns.Port.{Port}
use Rattle.worker_run.specs.declared.router_turns.Port.TheVariants.{Take, Put, Credit}

-- the choice of a kind at an input or output
abbrev pub choice_of : Port → ℕ → Choice
choice_of Take i = choice.TakeFrom i
choice_of Put i = choice.Put i
choice_of Credit o = choice.CreditOf o

-- the place of the first choice of a kind among those of a tile, whose router has so many ports
-- (this project's own format)
abbrev pub start_of : ℕ → Port → ℕ
start_of ports Take = 5
start_of ports Put = 5 + ports
start_of ports Credit = 5 + 2 * ports
