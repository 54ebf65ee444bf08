-- The numbers of what is done to a machine (this project's own format).
use Rattle.std.specs.Prelude.{ℕ, ◌+◌, ◌-◌, ◌*◌, ◌/◌, ◌%◌, ◌^◌, ◌==◌, ◌&&◌, Bool, nat_lt, List, [], ◌∷◌, ◌++◌, length}
use Rattle.std.specs.Prelude.{if◌then◌else◌, Option, Some, None, option_and_then, option_map, slice_get, slice_set}
use Rattle.torus.specs.declared.step.Step.{Step}
use Rattle.torus.specs.declared.step.Choice.{Choice}
use Rattle.torus.specs.declared.step.Choice.TheVariants.{Send, Take, TakeFrom, Put, Credit, CreditOf, Serve, Done, Look}
use Rattle.machine_record.specs.declared.action.Action.{Action}
use Rattle.machine_record.specs.declared.action.Action.TheVariants.{Move, Rounds, Line, Clocked, ClockedRounds, FairRounds, Turned}
use Rattle.machine_record.specs.declared.action.Turns.{Turns}

-- the number of a choice
abbrev pub choice_number : Choice → ℕ
choice_number Send = 0
choice_number Take = 1
choice_number (TakeFrom port) = 2
choice_number (Put port) = 3
choice_number Credit = 4
choice_number (CreditOf port) = 5
choice_number Serve = 6
choice_number Done = 7
choice_number Look = 8

-- the input or output of a choice, or 0
abbrev pub port_of : Choice → ℕ
port_of (TakeFrom port) = port
port_of (Put port) = port
port_of (CreditOf port) = port
port_of _ = 0

-- the choices by their numbers; those of a router are of an input or output
abbrev pub choices_coded : ℕ → List Choice
choices_coded port =
    Send ∷ Take ∷ TakeFrom port ∷ Put port ∷ Credit ∷ CreditOf port ∷ Serve ∷ Done ∷ Look ∷ []

-- the choice that has a number
abbrev pub choice_coded : ℕ → ℕ → Option Choice
choice_coded number port = slice_get (choices_coded port) number

-- the number of an action: its lowest four bits are its kind, that is the choice of an attempt, 9 for
-- rounds, 10 for a line, 11 for a clocked round, 12 for clocked rounds, 13 for fair rounds and 14 for
-- clocked rounds in a row from a turn on
abbrev pub action_number : Action → ℕ
action_number (Move s) = (s.agent * 4096 + port_of s.choice) * 16 + choice_number s.choice
action_number (Rounds count) = count * 16 + 9
action_number (Line number) = number * 16 + 10
action_number (Clocked turn) = turn * 16 + 11
action_number (ClockedRounds count) = count * 16 + 12
action_number (FairRounds count) = count * 16 + 13
action_number (Turned turns) = (turns.count * 2048 + turns.first) * 16 + 14

-- it has 32 bits
abbrev pub is_narrow : Action → Bool
is_narrow (Move s) = nat_lt (port_of s.choice) 4096 && nat_lt s.agent 65536
is_narrow (Rounds count) = nat_lt count 268435456
is_narrow (Line number) = nat_lt number 268435456
is_narrow (Clocked turn) = nat_lt turn 268435456
is_narrow (ClockedRounds count) = nat_lt count 268435456
is_narrow (FairRounds count) = nat_lt count 268435456
is_narrow (Turned turns) = nat_lt turns.first 2048 && nat_lt turns.count 131072

-- an attempt by an agent
abbrev pub move_recorded : ℕ → Choice → Action
move_recorded agent choice = Move (record { agent = agent; choice = choice })

-- clocked rounds in a row, the first of a turn
abbrev pub turned_recorded : ℕ → ℕ → Action
turned_recorded first count = Turned (record { first = first; count = count })

-- the action of a kind
abbrev pub action_coded : ℕ → ℕ → Option Action
action_coded kind rest =
    if kind == 9 then Some (Rounds rest)
    else (if kind == 10 then Some (Line rest)
    else (if kind == 11 then Some (Clocked rest)
    else (if kind == 12 then Some (ClockedRounds rest)
    else (if kind == 13 then Some (FairRounds rest)
    else (if kind == 14 then Some (turned_recorded (rest % 2048) (rest / 2048))
    else option_map (move_recorded (rest / 4096)) (choice_coded kind (rest % 4096)))))))

-- the action that has a number
abbrev pub action_of : ℕ → Option Action
action_of number = action_coded (number % 16) (number / 16)

-- rounds of a kind, as far as a number names them
abbrev pub named_rounds : (ℕ → Action) → ℕ → Option Action
named_rounds kind count = if is_narrow (kind count) then Some (kind count) else None

-- what so many rounds, or fair rounds, and an action behind them are together
abbrev pub rounds_joined : ℕ → Action → Option Action
rounds_joined count (Rounds more) = named_rounds Rounds (count + more)
rounds_joined count next = None

abbrev pub fair_joined : ℕ → Action → Option Action
fair_joined count (FairRounds more) = named_rounds FairRounds (count + more)
fair_joined count next = None

-- how many turns are told apart: a multiple of the 10, 18 or 26 inputs of a router
abbrev pub turns_told : ℕ
turns_told = 1170

-- a clocked round of a turn
abbrev pub one_turned : ℕ → Action
one_turned turn = turned_recorded (turn % turns_told) 1

-- the turn of the round behind so many clocked rounds in a row
abbrev pub turn_behind : ℕ → ℕ → ℕ
turn_behind first count = (first + count) % turns_told

-- so many clocked rounds in a row, as far as a number names them
abbrev pub turned_on : ℕ → ℕ → Option Action
turned_on first count = if is_narrow (turned_recorded first count) then Some (turned_recorded first count) else None

-- what clocked rounds in a row and an action behind them are together: more of them, whose turns go on
abbrev pub turned_joined : Turns → Action → Option Action
turned_joined turns (Turned more) =
    if more.first == turn_behind turns.first turns.count then turned_on turns.first (turns.count + more.count)
    else None
turned_joined turns next = None

-- the one action that does what two do, one after the other: rounds of one kind, as far as a number names
-- them
abbrev pub joined : Action → Action → Option Action
joined (Rounds count) next = rounds_joined count next
joined (FairRounds count) next = fair_joined count next
joined (Turned turns) next = turned_joined turns next
joined first next = None

-- that of the last of some actions, by their numbers, and of one behind it
abbrev pub joined_last : List ℕ → Action → Option Action
joined_last numbers next =
    option_and_then (λ last. joined last next) (option_and_then action_of (slice_get numbers (length numbers - 1)))

-- some actions with this in the place of the last, or with one behind them
abbrev pub actions_put : List ℕ → Action → Option Action → List ℕ
actions_put numbers next (Some both) = slice_set numbers (length numbers - 1) (action_number both)
actions_put numbers next None = numbers ++ action_number next ∷ []

-- some actions and one more: it is joined to the last, or stands behind it
abbrev pub actions_with : List ℕ → Action → List ℕ
actions_with numbers next = actions_put numbers next (joined_last numbers next)
