-- The outcomes of scripts, and runs with some replies, as C sees them (this project's own format).
use Rattle.std.specs.Prelude.{◌≡◌, ◌⊎◌, ℕ, ◌≤◌, Bool, true, false, List, length, Option, Some, None}
use Rattle.std.specs.Prelude.{Result, Err}
use Rattle.torus.specs.declared.fault.Fault.TheVariants as fault
use Rattle.lexer.specs.declared.fault.LineFault.{LineFault}
use Rattle.one_order.specs.Load.{Load}
use Rattle.program_fault.specs.declared.fault.ProgramFault.{ProgramFault}
use Rattle.program_fault.specs.declared.fault.ProgramFault.TheVariants as program
use Rattle.command_schedule.specs.declared.outcomes.OutcomesEnd.{OutcomesEnd}
use Rattle.command_schedule.specs.declared.outcomes.OutcomesEnd.TheVariants as outcomes
use Rattle.command_schedule.specs.declared.reach.ReachEnd.{ReachEnd}
use Rattle.command_schedule.specs.declared.reach.ReachEnd.TheVariants as reach
use Rattle.command_schedule.specs.declared.searching.Searched.{Searched}
use Rattle.command_schedule.specs.Outcomes.{IsOutcomesText, IsReachText}
use Rattle.torusmem_c.specs.declared.searches.OutcomesSaid.{OutcomesSaid}
use Rattle.torusmem_c.specs.declared.searches.ReachSaid.{ReachSaid}
use Rattle.torusmem_c.specs.declared.searches.SearchedRecord.{SearchedRecord}
use Rattle.torusmem_c.specs.declared.outcome.Code.{Code}
use Rattle.torusmem_c.specs.declared.outcome.Code.TheVariants as code
use Rattle.torusmem_c.specs.declared.outcome.Outcome.{Outcome}
use Rattle.torusmem_c.specs.Outcome.{c_code, fault_outcome}
use Rattle.torusmem_c.specs.Room.{put_as, put_code, put_over}

-- how many states a search may look at
abbrev pub AreAllowed : ℕ → Type 0
AreAllowed states = (1 ≤ states) × (states ≤ 10000000)

-- what is said of the outcomes of a load, or of a run to the one of a number: what the program
-- prints of them, within so many states
pub record SaysOutcomes (asked : Result Load LineFault) (states : ℕ) (run : Option ℕ)
    (s : OutcomesSaid) : Type 0
  where
    pub allowed : AreAllowed states
    pub text : IsOutcomesText asked states run s.end s.text.items

-- what is said of a run whose replies are those of an answer
pub record SaysReach (asked : Result Load LineFault) (answer : List ℕ) (states : ℕ) (s : ReachSaid)
    : Type 0
  where
    pub allowed : AreAllowed states
    pub text : IsReachText asked answer states s.end s.text.items

-- why a search has no text, of what stops the program's: the first fault of its texts, or else no
-- memory was left
abbrev pub unmade : ProgramFault → LineFault
unmade (program.Line found) = found
unmade _ = record { fault = fault.Memory; line = 0 }

-- why nothing is said of a load: the first fault of its texts, or memory was refused
abbrev pub IsUnmade : Result Load LineFault → LineFault → Type 0
IsUnmade asked found =
    (asked ≡ Err found) ⊎ (found ≡ record { fault = fault.Memory; line = 0 })

-- or the number of states is out of range
abbrev pub IsUnsearched : Result Load LineFault → ℕ → LineFault → Type 0
IsUnsearched asked states found =
    ((AreAllowed states → ⊥) × (found ≡ record { fault = fault.Range; line = 0 }))
    ⊎ (AreAllowed states × IsUnmade asked found)

-- what a search that ended so has found
abbrev pub found_in : OutcomesEnd → Searched
found_in (outcomes.Listed s) = s
found_in (outcomes.NoOutcome s) = s
found_in outcomes.Ran = record { outcomes = 0; states = 0; whole = false }
found_in outcomes.TooLong = record { outcomes = 0; states = 0; whole = false }

-- a code, if a search has found all outcomes; else the one for that more states are reached
abbrev pub if_whole : Bool → Code → Code
if_whole true c = c
if_whole false c = code.Undecided

-- the code of how a search for outcomes ended
abbrev pub outcomes_code : OutcomesEnd → Code
outcomes_code (outcomes.Listed s) = if_whole s.whole code.Done
outcomes_code outcomes.Ran = code.Done
outcomes_code (outcomes.NoOutcome s) = if_whole s.whole code.NoSuch
outcomes_code outcomes.TooLong = code.TooLong

-- the code of how a search for a run with some replies ended
abbrev pub reach_code : ReachEnd → Code
reach_code reach.Reached = code.Done
reach_code reach.Never = code.Never
reach_code reach.Undecided = code.Undecided
reach_code reach.NoReply = code.NoReply
reach_code reach.OtherCount = code.OtherCount
reach_code reach.TooLong = code.TooLong

-- what C sees of a search: what became of its text, what it has found, and how long the text is
abbrev pub searched_record : Code → Searched → ℕ → SearchedRecord
searched_record c found length = record {
  code = c_code c;
  outcomes = found.outcomes;
  states = found.states;
  value = length;
}

-- what C sees where nothing is searched
abbrev pub unsearched_record : Outcome → SearchedRecord
unsearched_record o = record { code = o.code; outcomes = 0; states = 0; value = o.value }

-- what is said of the outcomes is put into a buffer
pub record PutsOutcomes (asked : Result Load LineFault) (states : ℕ) (before after : List ℕ)
    (r : SearchedRecord) : Type 0
  where
    pub said : OutcomesSaid
    pub is : SaysOutcomes asked states None said
    pub buffer : after ≡ put_over said.text.items before
    pub answer : r ≡ searched_record (put_code (outcomes_code said.end) said.text.items before)
        (found_in said.end) (length said.text.items)

-- what is said of a run to the outcome of a number is put into a buffer
pub record PutsRun (asked : Result Load LineFault) (states number : ℕ) (before after : List ℕ)
    (r : Outcome) : Type 0
  where
    pub said : OutcomesSaid
    pub is : SaysOutcomes asked states (Some number) said
    pub buffer : after ≡ put_over said.text.items before
    pub answer : r ≡ put_as (outcomes_code said.end) said.text.items before

-- what is said of a run with these replies is put into a buffer
pub record PutsReach (asked : Result Load LineFault) (answer : List ℕ) (states : ℕ)
    (before after : List ℕ) (r : Outcome) : Type 0
  where
    pub said : ReachSaid
    pub is : SaysReach asked answer states said
    pub buffer : after ≡ put_over said.text.items before
    pub answered : r ≡ put_as (reach_code said.end) said.text.items before

-- why nothing is said is told, and a buffer stays as it was
pub record RefusesSearch (asked : Result Load LineFault) (states : ℕ) (before after : List ℕ)
    (r : Outcome) : Type 0
  where
    pub found : LineFault
    pub is : IsUnsearched asked states found
    pub buffer : after ≡ before
    pub answer : r ≡ fault_outcome found

-- and by the record of a search
pub record RefusesOutcomes (asked : Result Load LineFault) (states : ℕ) (before after : List ℕ)
    (r : SearchedRecord) : Type 0
  where
    pub found : LineFault
    pub is : IsUnsearched asked states found
    pub buffer : after ≡ before
    pub answer : r ≡ unsearched_record (fault_outcome found)
