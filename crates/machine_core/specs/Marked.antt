-- The parts of a tile's attempts, by number, and those of them that are marked.
use Rattle.std.specs.Prelude.{◌≡◌, ℕ, ◌+◌, ◌-◌, ◌*◌, ◌<◌, ◌≤◌, ◌||◌, Bool, false, List, ◌++◌, map, filter}
use Rattle.std.specs.Prelude.{Option, Some, None, is_some, slice_index_or}
use Rattle.std.specs.List.{range_with_len}
use Rattle.torus.specs.Choices.{processor_choices, bank_choices}
use Rattle.torus.specs.declared.step.Step.{Step}
use Rattle.torus.specs.declared.step.Choice.{Choice}
use Rattle.torus.specs.declared.step.Choice.TheVariants.{Look, Credit, TakeFrom, Put, CreditOf}
use Rattle.machine_parts.specs.Core.{step}
use Rattle.machine_parts.specs.Ports.{is_raised}
use Rattle.machine_parts.specs.Machine.{Core, built_to}
use Rattle.machine_core.specs.declared.part.Part.{Part}
use Rattle.machine_core.specs.declared.part.Part.TheVariants.{Processor, Takes, Puts, Credits, Bank}
use Rattle.machine_core.specs.declared.part.Marks.{Marks}

-- the agent that has a part of a tile's attempts
abbrev pub agent_in : Part → ℕ → ℕ
agent_in Processor t = 3 * t
agent_in Takes t = 3 * t + 1
agent_in Puts t = 3 * t + 1
agent_in Credits t = 3 * t + 1
agent_in Bank t = 3 * t + 2

-- the choice of a part by its number
abbrev pub choice_in : Part → ℕ → Choice
choice_in Processor k = slice_index_or processor_choices k Look
choice_in Takes k = TakeFrom k
choice_in Puts k = Put k
choice_in Credits k = CreditOf k
choice_in Bank k = slice_index_or bank_choices k Credit

-- the attempt of a tile's part by its number
abbrev pub attempt_in : Part → ℕ → ℕ → Step
attempt_in part t k = record { agent = agent_in part t; choice = choice_in part k }

-- it is enabled in a machine now
abbrev pub can_move : Core → Part → ℕ → ℕ → Bool
can_move c part t k = is_some (step (built_to c) c.state (attempt_in part t k))

-- the attempts of a part from a number on and below another that are marked
abbrev pub marked_between : (ℕ → Bool) → Part → ℕ → ℕ → ℕ → List Step
marked_between marks part t from to =
    map (attempt_in part t) (filter marks (range_with_len from (to - from)))

-- those at one tile, where the puts begin at an input
abbrev pub marked_at : Marks → ℕ → ℕ → ℕ → List Step
marked_at m ports first t =
    marked_between (is_raised m.processors t) Processor t 0 5
    ++ marked_between (is_raised m.takes t) Takes t 0 ports
    ++ marked_between (is_raised m.puts t) Puts t first ports
    ++ marked_between (is_raised m.puts t) Puts t 0 first
    ++ marked_between (is_raised m.credits t) Credits t 0 ports
    ++ marked_between (is_raised m.banks t) Bank t 0 4

-- an answer is the first attempt of a part from a number on that may be enabled: those before it
-- aren't
abbrev pub SkipsIdle : Core → Part → ℕ → ℕ → ℕ → Option ℕ → Type 0
SkipsIdle c part t from end None =
    (k : ℕ) → from ≤ k → k < end → can_move c part t k ≡ false
SkipsIdle c part t from end (Some number) = (from ≤ number) × (number < end)
    × ((k : ℕ) → from ≤ k → k < number → can_move c part t k ≡ false)

-- of the first so many attempts of a tile's part those that are enabled are marked too, and of other
-- tiles nothing has changed
pub record MarksPart (c : Core) (part : Part) (t end : ℕ) (old new : List ℕ) : Type 0 where
  pub marked : (k : ℕ) → k < end → is_raised new t k ≡ (is_raised old t k || can_move c part t k)
  pub others : (u k : ℕ) → (u ≡ t → ⊥) → is_raised new u k ≡ is_raised old u k

-- at a tile nothing is marked of what has a mark
pub record IsClear (m : Marks) (t : ℕ) : Type 0 where
  pub processors : (k : ℕ) → k < 32 → is_raised m.processors t k ≡ false
  pub takes : (k : ℕ) → k < 32 → is_raised m.takes t k ≡ false
  pub puts : (k : ℕ) → k < 32 → is_raised m.puts t k ≡ false
  pub credits : (k : ℕ) → k < 32 → is_raised m.credits t k ≡ false
  pub banks : (k : ℕ) → k < 32 → is_raised m.banks t k ≡ false

-- at a tile exactly what is enabled is marked
pub record MarksTile (c : Core) (ports t : ℕ) (m : Marks) : Type 0 where
  pub processors : (k : ℕ) → k < 5 → is_raised m.processors t k ≡ can_move c Processor t k
  pub takes : (k : ℕ) → k < ports → is_raised m.takes t k ≡ can_move c Takes t k
  pub puts : (k : ℕ) → k < ports → is_raised m.puts t k ≡ can_move c Puts t k
  pub credits : (k : ℕ) → k < ports → is_raised m.credits t k ≡ can_move c Credits t k
  pub banks : (k : ℕ) → k < 4 → is_raised m.banks t k ≡ can_move c Bank t k

-- the marks of other tiles are as they were
abbrev pub KeepsOtherMarks : ℕ → Marks → Marks → Type 0
KeepsOtherMarks t old new = (u k : ℕ) → (u ≡ t → ⊥)
    → (is_raised new.processors u k ≡ is_raised old.processors u k)
    × (is_raised new.takes u k ≡ is_raised old.takes u k)
    × (is_raised new.puts u k ≡ is_raised old.puts u k)
    × (is_raised new.credits u k ≡ is_raised old.credits u k)
    × (is_raised new.banks u k ≡ is_raised old.banks u k)
