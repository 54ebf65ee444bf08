-- The spins that ran out of loads, as C sees them (this project's own format).
use Rattle.std.specs.Prelude.{◌≡◌, ◌⊎◌, ℕ, List, map, Result, Ok, Err}
use Rattle.lexer.specs.declared.fault.LineFault.{LineFault}
use Rattle.script_lines.specs.declared.line.Line.{Line}
use Rattle.script_lines.specs.Lines.{ScriptsSpec}
use Rattle.core_laws.specs.Machine.{Core, shown}
use Rattle.sentences.specs.declared.scripts.EndedSpin.{EndedSpin}
use Rattle.sentences.specs.Ended.{spins_from}
use Rattle.sentences.specs.Told.{scripts_read}
use Rattle.torusmem_c.specs.declared.outcome.Outcome.{Outcome}
use Rattle.torusmem_c.specs.declared.spinning.SpinRecord.{SpinRecord}
use Rattle.torusmem_c.specs.Outcome.{fault_outcome}
use Rattle.torusmem_c.specs.Room.{LacksMemory, put_over, put_outcome}

-- what C sees of a spin that ran out of loads
abbrev pub spin_record : EndedSpin → SpinRecord
spin_record spin = record {
  processor = spin.processor;
  address = spin.address;
  loads = spin.loads;
  line = spin.line;
  sought = spin.wanted;
}

-- what it sees of those of all processors, which follow these scripts, by the answers that they have
abbrev pub spins_in : List (List Line) → List (List ℕ) → Core → List SpinRecord
spins_in lists text c = map spin_record (spins_from 0 text (shown c).answers lists)

-- the spins that ran out are put into a buffer; where a text has a fault, that is told
abbrev pub TellsSpins : Result ScriptsSpec LineFault → List (List ℕ) → Core → List SpinRecord
    → List SpinRecord → Outcome → Type 0
TellsSpins (Err found) text c before after r = (after ≡ before) × (r ≡ fault_outcome found)
TellsSpins (Ok s) text c before after r =
    (after ≡ put_over (spins_in s.lists text c) before)
    × (r ≡ put_outcome (spins_in s.lists text c) before)

-- they are told, or memory was refused; and nothing of the machine changes
pub record PutsSpins (machine scripts : List (List ℕ)) (before after : List SpinRecord)
    (old new : Core) (r : Outcome) : Type 0 where
  pub same : new ≡ old
  pub told : TellsSpins (scripts_read machine scripts) scripts old before after r
      ⊎ LacksMemory before after r
