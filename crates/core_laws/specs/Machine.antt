-- What contracts see of a machine, and the headline: every run has one legal order.
use Rattle.std.specs.Prelude.{◌≡◌, ℕ, ◌-◌, Bool, List, [], ◌∷◌, ◌++◌, Option, Some, None, length, map}
use Rattle.std.specs.List.{list_all}
use Rattle.torus.specs.Shape.{Shape, tiles_of}
use Rattle.torus.specs.declared.step.Step.{Step}
use Rattle.torus.specs.declared.step.Stepped.{Stepped}
use Rattle.torus.specs.declared.step.Stepped.TheVariants.{Moved, Idle}
use Rattle.script_lines.specs.Lines.{operation_count}
use Rattle.one_order.specs.Following.{is_finished}
use Rattle.one_order.specs.declared.ordered.Ordered.{Ordered}
use Rattle.one_order.specs.Observed.{Observed}
use Rattle.one_order.specs.Events.{Event}
use Rattle.one_order.specs.OneOrder.{HasOneOrder}
use Rattle.one_order.specs.Flight.{flight_event}
use Rattle.one_order.specs.AbstractScripts.{FollowScripts}
use Rattle.one_order.specs.EventBook.{EventBook, first_book, noted_event}
use Rattle.core_laws.specs.Tile.{Design}
use Rattle.core_laws.specs.Core.{Load, State, design_of, step, next, first_state, after, run_of}
use Rattle.core_laws.specs.Core.{records_of, show}
use Rattle.core_laws.specs.Moves.{move_of}
use Rattle.core_laws.specs.Runs.{IsAcceptedLoad, without_packets}
use Rattle.core_laws.specs.Rounds.{IsEnabled}
use Rattle.core_laws.specs.ProgressMoves.{moves_left}

-- a machine: what was loaded of shape, depth, tags and words, how many operations each of its
-- scripts can make at most, the state of its tiles, channels and words, its book of events, and how
-- many moves its scripts still allow
pub record Core : Type 0 where
  pub shape : Shape
  pub depth : ℕ
  pub tags : ℕ
  pub opening : List ℕ
  pub allowed : List ℕ
  pub state : State
  pub book : EventBook
  pub moves_left : ℕ

-- what a machine is built to
abbrev pub built_to : Core → Design
built_to c = record { shape = c.shape; depth = c.depth; words = length c.opening }

-- The headline, of the run of a list of steps from a load: the operations that took effect have one
-- legal order, which is the order of the banks' services, with these rows; and every processor has
-- followed its script (Herlihy and Wing, TOPLAS 12(3), 1990: linearizability).
pub record IsLawful (l : Load) (steps : List Step) (rows : List Ordered) : Type 0 where
  pub order : HasOneOrder (tiles_of l.shape) l.tags l.opening (run_of l steps) (length steps) rows
  pub scripts : FollowScripts (run_of l steps) (length steps) l.scripts

-- the event that an attempt is in a state (Herlihy and Wing)
abbrev pub event_in : Design → State → Step → Event
event_in d s attempt = flight_event (without_packets d.words s) (move_of d s attempt)

-- the book after a list of steps
abbrev pub book_from : Design → State → EventBook → List Step → EventBook
book_from d s g [] = g
book_from d s g (attempt ∷ attempts) =
    book_from d (next d s attempt) (noted_event (tiles_of d.shape) g (event_in d s attempt)) attempts

abbrev pub book_after : Load → List Step → EventBook
book_after l steps = book_from (design_of l) (first_state l) (first_book (tiles_of l.shape)) steps

-- The machine stands where these steps lead from an accepted load: its state, its book of events
-- and the moves that are left are what they make; and the headline holds of the run, with the rows
-- of the book.
pub record IsAfter (l : Load) (c : Core) (steps : List Step) : Type 0 where
  pub accepted : IsAcceptedLoad l
  pub shape : c.shape ≡ l.shape
  pub depth : c.depth ≡ l.depth
  pub tags : c.tags ≡ l.tags
  pub opening : c.opening ≡ l.opening
  pub allowed : c.allowed ≡ map operation_count l.scripts
  pub state : c.state ≡ after l steps
  pub book : c.book ≡ book_after l steps
  pub moves : c.moves_left ≡ moves_left l steps (length steps)
  pub lawful : IsLawful l steps c.book.rows

-- further steps lead from the old machine to the new one: after whatever steps the old one stands,
-- from whatever load, the new one stands after these and the further ones
abbrev pub RunsOn : Core → Core → List Step → Type 0
RunsOn old new more =
    (l : Load) (before : List Step) → IsAfter l old before → IsAfter l new (before ++ more)

-- The headline, of a machine: it stands after some steps from an accepted load, and in the run of
-- these its operations have one legal order, that of the banks' services, with the rows of its book;
-- and every processor has followed its script (Herlihy and Wing, TOPLAS 12(3), 1990:
-- linearizability).
pub record HasOneOrderSoFar (c : Core) : Type 0 where
  pub load : Load
  pub steps : List Step
  pub after : IsAfter load c steps
  pub order : HasOneOrder (tiles_of load.shape) load.tags load.opening (run_of load steps)
      (length steps) c.book.rows
  pub scripts : FollowScripts (run_of load steps) (length steps) load.scripts

-- the machine that a list of steps leads to from a load
abbrev pub core_after_load : Load → List Step → Core
core_after_load l steps = record {
  shape = l.shape;
  depth = l.depth;
  tags = l.tags;
  opening = l.opening;
  allowed = map operation_count l.scripts;
  state = after l steps;
  book = book_after l steps;
  moves_left = moves_left l steps (length steps);
}

-- what a step tells: Moved exactly when it is enabled
abbrev pub machine_told : Option State → Stepped
machine_told None = Idle
machine_told (Some s) = Moved

-- the machine in another state, after a move with an event
abbrev pub core_moved : Core → State → Event → Core
core_moved c s e = record {
  shape = c.shape;
  depth = c.depth;
  tags = c.tags;
  opening = c.opening;
  allowed = c.allowed;
  state = s;
  book = noted_event (tiles_of c.shape) c.book e;
  moves_left = c.moves_left - 1;
}

-- the machine after an attempt that leaves this state: one that is not enabled changes nothing
abbrev pub core_with : Core → Event → Option State → Core
core_with c e None = c
core_with c e (Some s) = core_moved c s e

-- the machine after an attempt
abbrev pub core_next : Core → Step → Core
core_next c attempt = core_with c (event_in (built_to c) c.state attempt)
    (step (built_to c) c.state attempt)

-- a step does exactly what its choice says: Moved exactly when it is enabled, with the stated
-- change
pub record Steps (old new : Core) (stepped : Stepped) (attempt : Step) : Type 0 where
  pub result : stepped ≡ machine_told (step (built_to old) old.state attempt)
  pub change : new ≡ core_next old attempt

-- the machine after a list of steps
abbrev pub core_after : Core → List Step → Core
core_after c [] = c
core_after c (attempt ∷ attempts) = core_after (core_next c attempt) attempts

-- one of these attempts is enabled where it comes: the machine makes a move
pub record MakesMove (c : Core) (attempts : List Step) : Type 0 where
  pub before : List Step
  pub attempt : Step
  pub behind : List Step
  pub of : attempts ≡ before ++ attempt ∷ behind
  pub enabled : IsEnabled (step (built_to c)) (core_after c before).state attempt

-- what a machine shows: operations issued, answers, entries of the banks, and the words by address
abbrev pub shown : Core → Observed
shown c = show (length c.opening) c.state

-- whether each processor's follower has come to the end of its script
abbrev pub all_finished : State → Bool
all_finished s = list_all (λ b. is_finished b.following) (records_of s)
