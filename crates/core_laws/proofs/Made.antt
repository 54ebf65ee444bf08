-- The moves that lists of attempts make.
use Rattle.std.proofs.Common.{◌≡◌, ℕ, zero, suc, ◌+◌, List, [], ◌∷◌, ◌++◌, length, take, Option, Some, None, refl, ap, arith, slice_get}
use Rattle.std.specs.Prelude.{option_and_then, option_map, slice_set}
use Rattle.torus.specs.Shape.{tiles_of}
use Rattle.torus.specs.declared.step.Step.{Step}
use Rattle.torus.specs.declared.step.Choice.{Choice}
use Rattle.flit_buffer.specs.Surroundings.{Surroundings}
use Rattle.router.specs.Table.{RouterState, router_wants, router_after}
use Rattle.router.specs.Beginning.{router_wiring}
use Rattle.one_order.specs.ProcessorTable.{ProcessorState, processor_wants, processor_after}
use Rattle.home_bank.specs.BankTable.{BankState, bank_wants, bank_after}
use Rattle.core_laws.specs.Wiring.{processor_wiring, bank_wiring}
use Rattle.core_laws.specs.Agent.{Agent}
use Rattle.core_laws.specs.Agent.TheVariants.{Processor, Router, Bank}
use Rattle.core_laws.specs.Tile.{Design, TileState, tile_step}
use Rattle.core_laws.specs.Agents.{agent_kind, agent_tile}
use Rattle.core_laws.specs.Rounds as rounds
use Rattle.core_laws.specs.Rounds.{moves_in, one_if_moved}
use Rattle.core_laws.specs.Core.{State, step, next, or_same, after_from}
use Rattle.core_laws.specs.Network.{tile_event, network_event, processor_event, router_event, bank_event}
use Rattle.core_laws.proofs.AgentSteps.{refused, option_map_none}

pub or_is : (s : State) (o : Option State) → rounds.or_same s o ≡ or_same s o
or_is s None = refl
or_is s (Some t) = refl

-- the moves of one attempt, or of none
abbrev pub made_by : Design → State → Option Step → ℕ
made_by d s None = 0
made_by d s (Some a) = one_if_moved (step d s a)

-- one attempt more
pub made_more : (d : Design) (steps : List Step) (s : State) (n : ℕ)
    → moves_in (step d) s (take (suc n) steps) ≡ moves_in (step d) s (take n steps) + made_by d (after_from d s (take n steps)) (slice_get steps n)
made_more d [] s zero = refl
made_more d [] s (suc n) = refl
made_more d (a ∷ steps) s zero = omega arith
made_more d (a ∷ steps) s (suc n) =
    let rest = made_more d steps (rounds.or_same s (step d s a)) n in
    let same : made_by d (after_from d (rounds.or_same s (step d s a)) (take n steps)) (slice_get steps n)
    ≡ made_by d (after_from d (next d s a) (take n steps)) (slice_get steps n) =
    ap (λ t. made_by d (after_from d t (take n steps)) (slice_get steps n)) (or_is s (step d s a)) in
    omega arith

-- all attempts
pub take_all : {A : Type 0} (xs : List A) → take (length xs) xs ≡ xs
take_all [] = refl
take_all (x ∷ xs) = ap (λ ys. x ∷ ys) (take_all xs)

-- an attempt at the end
pub after_push : (d : Design) (steps : List Step) (s : State) (a : Step) → after_from d s (steps ++ a ∷ []) ≡ next d (after_from d s steps) a
after_push d [] s a = refl
after_push d (b ∷ steps) s a = after_push d steps (next d s b) a

pub made_push : (d : Design) (steps : List Step) (s : State) (a : Step)
    → moves_in (step d) s (steps ++ a ∷ []) ≡ moves_in (step d) s steps + one_if_moved (step d (after_from d s steps) a)
made_push d [] s a = omega arith
made_push d (b ∷ steps) s a =
    let rest = made_push d steps (rounds.or_same s (step d s b)) a in
    let same : one_if_moved (step d (after_from d (rounds.or_same s (step d s b)) steps) a) ≡ one_if_moved (step d (after_from d (next d s b) steps) a) =
    ap (λ t. one_if_moved (step d (after_from d t steps) a)) (or_is s (step d s b)) in
    omega arith

-- a step that isn't enabled is no event of the network
module _ (d : Design) (t : ℕ) (tile : TileState) (around : Surroundings) where
  still_tile : (agent : Agent) (c : Choice) → tile_step d t tile around agent c ≡ None → tile_event d t tile around agent c ≡ None
  still_tile Processor c h = ap (option_and_then (processor_event d t tile.processor around c))
      (refused (processor_wants (tiles_of d.shape) d.words t) (processor_after (tiles_of d.shape) d.words t) d.depth (processor_wiring d.shape t) tile.processor
      around c
      (option_map_none (λ (p : ProcessorState × Surroundings). (record tile { processor = p.0 }, p.1)) _ h))
  still_tile Router c h = ap (option_and_then (router_event d t tile.router around c))
      (refused (router_wants d.shape t) router_after d.depth (router_wiring d.shape t) tile.router around c
      (option_map_none (λ (p : RouterState × Surroundings). (record tile { router = p.0 }, p.1)) _ h))
  still_tile Bank c h = ap (option_and_then (bank_event d t tile.bank around c))
      (refused (bank_wants (tiles_of d.shape) t) (bank_after (tiles_of d.shape) t) d.depth (bank_wiring d.shape t) tile.bank around c
      (option_map_none (λ (p : BankState × Surroundings). (record tile { bank = p.0 }, p.1)) _ h))

still_by : (d : Design) (s : State) (a : Step) (o : Option TileState)
    → option_and_then {U = State}
    (λ tile. option_map (λ (p : TileState × Surroundings). record { tiles = slice_set s.tiles (agent_tile a.agent) p.0; around = p.1 })
    (tile_step d (agent_tile a.agent) tile s.around (agent_kind a.agent) a.choice)) o ≡ None
    → option_and_then (λ tile. tile_event d (agent_tile a.agent) tile s.around (agent_kind a.agent) a.choice) o ≡ None
still_by d s a None h = refl
still_by d s a (Some tile) h = still_tile d (agent_tile a.agent) tile s.around (agent_kind a.agent) a.choice
    (option_map_none {B = State} (λ (p : TileState × Surroundings). record { tiles = slice_set s.tiles (agent_tile a.agent) p.0; around = p.1 }) _ h)

pub still : (d : Design) (s : State) (a : Step) → step d s a ≡ None → network_event d s a ≡ None
still d s a h = still_by d s a (slice_get s.tiles (agent_tile a.agent)) h
