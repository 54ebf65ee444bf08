-- What a turn makes of a view.
use Rattle.std.specs.Prelude.{◌≡◌, ◌≢◌, ℕ, Bool, true, false, List, [], ◌∷◌, ◌++◌, MatchBool, is_some}
use Rattle.std.specs.Prelude.{option_and_then}
use Rattle.atomic_table.specs.declared.shared.Seat.{Seat}
use Rattle.torus.specs.Shape.{Shape, dims_of}
use Rattle.torus.specs.declared.step.Step.{Step}
use Rattle.channel_number.specs.Ports.{port_count}
use Rattle.tile.specs.Choices.{has_choice as agent_has}
use Rattle.tile.specs.Agents.{agent_kind}
use Rattle.fabric_rule.specs.Core.{Load}
use Rattle.fabric_rule.specs.Known.{tile_of, known, enabled, op_of}
use Rattle.fabric_rule.specs.View.{View}
use Rattle.fabric_rule.specs.Groups.{In, Others, Extends, both, knowing}
use Rattle.fabric_rule.specs.Rule.{Learned}

-- whether the step's agent has its choice, by the number of the router's ports (this project's own
-- format)
abbrev pub has_choice : Shape → Step → Bool
has_choice s attempt = agent_has (port_count (dims_of s)) (agent_kind attempt.agent) attempt.choice

-- whether the agent's own condition for the step holds after a run
unfoldable pub is_ready : Load → List Step → Step → Bool
is_ready load run c = is_some (option_and_then (λ p. op_of p c) (known load run (tile_of c)))

-- after steps of others the step was made, enabled there
abbrev pub StepMoves : View → Step → View → Type 0
StepMoves v c w = (between : List Step) × Others v.groups between
    × (enabled v.load (v.run ++ between) c ≡ true)
    × (w ≡ knowing v ((v.run ++ between) ++ c ∷ []))

-- steps of others were seen, after which the step is not enabled
abbrev pub SeesIdle : View → Step → View → Type 0
SeesIdle v c w = (between : List Step) × Others v.groups between
    × (enabled v.load (v.run ++ between) c ≡ false)
    × (w ≡ knowing v (v.run ++ between))

-- where the agent's own condition failed, nothing changed
abbrev pub StepIdles : View → Step → View → Type 0
StepIdles v c w = MatchBool (is_ready v.load v.run c) (SeesIdle v c w) (w ≡ v)

-- but for the tile t, the seat's tiles stand as they did
pub record OnlyTile (v : View) (t : ℕ) (w : View) : Type 0 where
  pub same : w ≡ knowing v w.run
  pub later : Extends w.run v.run
  pub rest : (u : ℕ) → t ≢ u → In v.groups u → known w.load w.run u ≡ known v.load v.run u

-- the seat saw steps of others, and no more of it changed
pub record Sees (s z : Seat (Unit {0}) View) : Type 0 where
  pub between : List Step
  pub others : Others s.me.0.groups between
  pub table : z.table_id ≡ s.table_id
  pub held : z.me.1 ≡ s.me.1
  pub view : z.me.0 ≡ knowing s.me.0 (s.me.0.run ++ between)

-- a seat that took in another with the view u has learned of all that either knew
abbrev pub LearnsBoth : View → View → View → Type 0
LearnsBoth v u w = Learned (both v u) (both v u).groups w
