-- The form of an agent. One table says what a choice wants in a state, and which state follows once
-- it is granted; here it is read at ports, over one word.
use Rattle.std.specs.Prelude.{ℕ, List, slice_index, Option, Some, None, option_and_then}
use Rattle.flit_buffer.specs.Words.{word_of}
use Rattle.flit_buffer.specs.Wants.{PortEnds, want_op, outcome, ports_after}
use Rattle.flit_buffer.specs.declared.word_op.WordOp.{WordOp}
use Rattle.flit_buffer.specs.declared.want.Want.{Want}

-- an agent: its own state, and its ports (this project's own format)
pub record Agent (S : Type 0) : Type 0 where
  pub state : S
  pub ports : PortEnds

-- wants: what a choice wants in a state, None where the agent hasn't the choice or its own part of
-- the condition fails
module _ {S C : Type 0} (wants : S → C → Option Want) where
  -- the word operation of a choice; None where the agent hasn't the choice or its condition fails
  -- (this project's own format)
  abbrev pub next_op : Agent S → C → Option WordOp
  next_op a choice = option_and_then (λ want. want_op a.ports want) (wants a.state choice)

  -- after: the state that follows, by what was learned
  module _ (after : S → C → Want → ℕ → S) where
    -- the agent once a want came out so; None where it wasn't granted
    abbrev pub agent_with : Agent S → C → Want → Option ℕ → Option (Agent S)
    agent_with a choice want None = None
    agent_with a choice want (Some learned) =
        Some record { state = after a.state choice want learned; ports = ports_after a.ports want }

    -- the agent after the operation of a choice found a word; None where the choice doesn't move
    -- (this project's own format)
    abbrev pub absorbed : Agent S → C → ℕ → Option (Agent S)
    absorbed a choice found =
        option_and_then (λ want. agent_with a choice want (outcome want found))
        (wants a.state choice)

    -- the agent after an attempt over a row, at once; None where the choice has no operation or
    -- doesn't move (this project's own format)
    abbrev pub attempted : Agent S → C → List ℕ → Option (Agent S)
    attempted a choice row = option_and_then (λ o. absorbed a choice (slice_index row (word_of o)))
        (next_op a choice)
