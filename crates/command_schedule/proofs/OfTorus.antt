-- What is enabled is of an agent and a choice that the torus has.
use Rattle.std.proofs.Common.{◌≡◌, ℕ, ◌*◌, ◌<◌, ◌%◌, List, [], ◌∷◌, length, Option, Some, None, refl, sym, ap, subst, ◌∙◌, arith}
use Rattle.std.specs.Prelude.{slice_get, slice_set}
use Rattle.std.specs.List.{All}
use Rattle.std.proofs.lemmas.List.{length-set}
use Rattle.std.proofs.lemmas.List.Elements.{All-nil, All-cons}
use Rattle.std.proofs.lemmas.Option.{option_and_then_some, slice_get_within}
use Rattle.torus.specs.declared.step.Step.{Step}
use Rattle.torus.specs.Shape.{tiles_of, dims_of}
use Rattle.channel_number.specs.Ports.{port_count}
use Rattle.flit_buffer.specs.Surroundings.{Surroundings}
use Rattle.core_laws.specs.Rounds as rounds
use Rattle.command_schedule.specs.Schedule.{IsStepOf}
use Rattle.tile.specs.Tile.{Design, TileState}
use Rattle.tile.specs.Agents.{agent_kind, agent_tile}
use Rattle.tile.proofs.AgentNumbers.{number_of_agent, number_low}
use Rattle.core_laws.specs.Core.{State, step}
use Rattle.core_laws.proofs.AgentSteps.{option_map_some}
use Rattle.core_laws.proofs.AgentChoices.{own_choice, numbered}
use Rattle.core_laws.specs.Enabled.{ahead_if_moved, enabled_of}

module _ (d : Design) (s : State) (x : Step) (t : State) (is : step d s x ≡ Some t) where
  pub inside : agent_tile x.agent < length s.tiles
  inside = option_and_then_some _ (slice_get s.tiles (agent_tile x.agent)) t is (λ tile there f. slice_get_within s.tiles (agent_tile x.agent) tile there)

  pub same_count : length t.tiles ≡ length s.tiles
  same_count = option_and_then_some _ (slice_get s.tiles (agent_tile x.agent)) t is (λ tile there f.
      let k = option_map_some (λ (p : TileState × Surroundings). record { tiles = slice_set s.tiles (agent_tile x.agent) p.0; around = p.1 }) _ t f in
      ap (λ (u : State). length u.tiles) (sym k.2) ∙ length-set s.tiles (agent_tile x.agent) k.0.0)

  pub enabled_is : length s.tiles ≡ tiles_of d.shape → IsStepOf d.shape x
  enabled_is count =
      let below : agent_tile x.agent < length s.tiles = inside in
      record {
        agent = subst (λ (n : ℕ). n < 3 * tiles_of d.shape) (number_of_agent x.agent)
            (number_low (agent_tile x.agent) (tiles_of d.shape) (agent_kind x.agent) (omega (arith, below, count)));
        choice = sym (numbered (port_count (dims_of d.shape)) (x.agent % 3) x.choice) ∙ own_choice d s x t is;
      }

module _ (d : Design) where
  ahead : (s : State) (x : Step) (steps : List Step) (o : Option State) → step d s x ≡ o → length s.tiles ≡ tiles_of d.shape
      → ((u : State) → length u.tiles ≡ tiles_of d.shape → All (IsStepOf d.shape) (enabled_of (step d) u steps))
      → All (IsStepOf d.shape) (ahead_if_moved x o (enabled_of (step d) (rounds.or_same s o) steps))
  ahead s x steps None is count rest = rest s count
  ahead s x steps (Some t) is count rest =
      All-cons (IsStepOf d.shape) x (enabled_of (step d) t steps) (enabled_is d s x t is count)
      (rest t (same_count d s x t is ∙ count))

  -- all attempts of a list that are enabled, one after the other, are steps of the torus
  pub enabled_are : (s : State) (steps : List Step) → length s.tiles ≡ tiles_of d.shape → All (IsStepOf d.shape) (enabled_of (step d) s steps)
  enabled_are s [] count = All-nil (IsStepOf d.shape)
  enabled_are s (x ∷ steps) count = ahead s x steps (step d s x) refl count (λ u h. enabled_are u steps h)
