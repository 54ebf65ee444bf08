-- Which choices of agents count as awake, and what changes it.
use Rattle.std.specs.Prelude.{ℕ, ◌==◌, ◌&&◌, Bool, not, List, [], ◌∷◌, replicate, bit_or}
use Rattle.std.specs.Prelude.{slice_index, slice_index_or, slice_set}
use Rattle.std.specs.Int.{bit_at}
use Rattle.torus.specs.declared.step.Choice.{Choice}
use Rattle.torus.specs.declared.step.Choice.TheVariants.{Send, Take, Credit, Done, Look, Serve, TakeFrom, Put, CreditOf}
use Rattle.flit_buffer.specs.declared.word_op.WordOp.{WordOp}
use Rattle.flit_buffer.specs.declared.word_op.WordOp.TheVariants.{Store, Swap, Add}
use Rattle.tile.specs.Tile.{Design}
use Rattle.core_laws.specs.Operations.{woken_by_operation}

-- what a machine is built to, and of each of its agents the bits of its choices that count as awake
-- (this project's own format)
pub record Awake : Type 0 where
  pub design : Design
  pub flags : List ℕ

-- the bit of a choice among those of its agent; those of a router share three (this project's own
-- format)
abbrev pub bit_of : Choice → ℕ
bit_of Send = 0
bit_of (Put input) = 0
bit_of Take = 1
bit_of (TakeFrom input) = 1
bit_of Credit = 2
bit_of (CreditOf output) = 2
bit_of Done = 3
bit_of Look = 4
bit_of Serve = 5

-- the bits of an agent; one that has none has all set
abbrev pub bits_at : List ℕ → ℕ → ℕ
bits_at flags agent = slice_index_or flags agent 255

-- whether a choice of an agent counts as awake
abbrev pub is_choice_awake : Awake → ℕ → Choice → Bool
is_choice_awake w agent choice = not (bit_at (bits_at w.flags agent) (bit_of choice) == 0)

-- whether an agent does, that is any of its choices
abbrev pub is_awake : Awake → ℕ → Bool
is_awake w agent = not (bits_at w.flags agent == 0)

-- the bits of the choices that an operation can enable (this project's own format)
abbrev pub bits_by : WordOp → ℕ
bits_by (Store word v) = 2
bits_by (Swap word v) = 4
bits_by (Add word v) = 16
bits_by _ = 0

-- the flags with some bits of these agents set too
abbrev pub with_bits : List ℕ → ℕ → List ℕ → List ℕ
with_bits flags bits [] = flags
with_bits flags bits (agent ∷ agents) =
    with_bits (slice_set flags agent (bit_or (slice_index flags agent) bits)) bits agents

-- after an operation: the choices that it can enable, of those agents that it wakes, count as awake
-- too (this project's own format)
abbrev pub woken : Awake → WordOp → Awake
woken w op = record {
  design = w.design;
  flags = with_bits w.flags (bits_by op) (woken_by_operation w.design op);
}

-- once all choices of an agent have fallen asleep
abbrev pub rested : Awake → ℕ → Awake
rested w agent = record { design = w.design; flags = slice_set w.flags agent 0 }

-- with an agent all choices of which count as awake
abbrev pub roused : Awake → ℕ → Awake
roused w agent = record { design = w.design; flags = slice_set w.flags agent 255 }

-- with all choices of all agents
abbrev pub all_roused : Awake → Awake
all_roused w = record { design = w.design; flags = replicate 192 255 }

-- after a move of an agent by an operation: all of its own choices are awake, and those that the
-- operation can enable (this project's own format)
abbrev pub awake_after : Awake → ℕ → WordOp → Awake
awake_after w agent op = woken (roused w agent) op

-- which choices count as awake once one has fallen asleep, and with it those that share its bit
abbrev pub choice_rested : ℕ → Choice → (ℕ → Choice → Bool) → ℕ → Choice → Bool
choice_rested agent choice awake k c = awake k c && not ((k == agent) && (bit_of c == bit_of choice))
