-- An attempt of a tile is one of its agent of that kind.
use Rattle.std.proofs.Common.{◌≡◌, ℕ, List, Option, Some, None, refl, ◌∙◌, ap, eq-eqb, slice_index}
use Rattle.std.specs.Prelude.{option_and_then}
use Rattle.std.proofs.lemmas.Bool.{cond-true}
use Rattle.torus.specs.declared.step.Step.{Step}
use Rattle.flit_buffer.specs.Words.{word_of}
use Rattle.flit_buffer.specs.declared.word_op.WordOp.{WordOp}
use Rattle.tile.specs.declared.agent.Agent.{Agent}
use Rattle.tile.specs.Agents.{TilePlace, agent_kind, agent_tile, agent_op, agent_absorbed, tile_next_op, tile_absorbed}
use Rattle.tile.specs.Placed.{agent_attempted, tile_attempted}

pub own_op : (p : TilePlace) (attempt : Step) (a : Agent) → agent_tile attempt.agent ≡ p.tile → agent_kind attempt.agent ≡ a
    → tile_next_op p attempt ≡ agent_op p a attempt.choice
own_op p attempt a own is =
    cond-true _ _ _ (eq-eqb (agent_tile attempt.agent) p.tile own) ∙ ap (λ (b : Agent). agent_op p b attempt.choice) is

pub own_absorbed : (p : TilePlace) (attempt : Step) (found : ℕ) (a : Agent) → agent_tile attempt.agent ≡ p.tile → agent_kind attempt.agent ≡ a
    → tile_absorbed p attempt found ≡ agent_absorbed p a attempt.choice found
own_absorbed p attempt found a own is =
    cond-true _ _ _ (eq-eqb (agent_tile attempt.agent) p.tile own) ∙ ap (λ (b : Agent). agent_absorbed p b attempt.choice found) is

pub own_attempt : (p : TilePlace) (attempt : Step) (row : List ℕ) → agent_tile attempt.agent ≡ p.tile
    → tile_attempted p attempt row ≡ agent_attempted p (agent_kind attempt.agent) attempt.choice row
own_attempt p attempt row own =
    ap (option_and_then (λ (o : WordOp). tile_absorbed p attempt (slice_index row (word_of o)))) (own_op p attempt (agent_kind attempt.agent) own refl)
    ∙ by_op (agent_op p (agent_kind attempt.agent) attempt.choice)
  where
    by_op : (o : Option WordOp)
        → option_and_then (λ (o : WordOp). tile_absorbed p attempt (slice_index row (word_of o))) o
        ≡ option_and_then (λ (o : WordOp). agent_absorbed p (agent_kind attempt.agent) attempt.choice (slice_index row (word_of o))) o
    by_op None = refl
    by_op (Some o) = own_absorbed p attempt (slice_index row (word_of o)) (agent_kind attempt.agent) own refl
