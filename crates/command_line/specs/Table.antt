-- The table of the commands (this project's own format).
use Rattle.std.specs.Prelude.{List, [], ◌∷◌, ◌++◌, codes}
use Rattle.clap.specs.Words.{Text}
use Rattle.command_line.specs.declared.words.WordKind.TheVariants.{Flag, Path, Number, Long, Arbiter}
use Rattle.command_line.specs.declared.words.WordKind.TheVariants.{MachineArbiter, Model, RunTexts, Replies}
use Rattle.command_line.specs.TableRows.{NamedCommand, TakenWord, argument, free_option}
use Rattle.command_line.specs.TableRows.{needed_option, usual_option}

-- what the program is
abbrev pub about_text : Text
about_text = codes "A shared memory spread over a torus of tiles"

-- the options of all commands
abbrev pub common_words : List TakenWord
common_words = free_option (codes "explain") Flag
    (codes "Explains what is wrong, or how a run ended, on further lines") ∷ []

-- the file with the machine
abbrev pub machine_word : TakenWord
machine_word = argument (codes "MACHINE") Path (codes "The file with the machine")

-- the file with its scripts
abbrev pub script_word : TakenWord
script_word = argument (codes "SCRIPT") Path (codes "The file with the scripts")

-- the most rounds, from 1 to 1000000, which it is where it isn't given
abbrev pub rounds_word : TakenWord
rounds_word = usual_option (codes "rounds") (Number 1 1000000)
    (codes "At most this many rounds, 1 to 1000000") (codes "1000000")

-- whether rounds are clocked
abbrev pub clocked_word : TakenWord
clocked_word = free_option (codes "clocked") Flag
    (codes "Clocked rounds: each attempts what is enabled when it begins")

-- the arbiter of a machine's clocked rounds
abbrev pub machine_arbiter_word : TakenWord
machine_arbiter_word = free_option (codes "arbiter") MachineArbiter
    (codes "With --clocked: which head an output takes, oldest (by default) or turn")

-- the guard of clocked rounds, a number of rounds
abbrev pub guard_word : TakenWord
guard_word = free_option (codes "guard") Long
    (codes "With --clocked: none begins while an operation is out for more rounds than this, "
    ++ codes "0 to 18446744073709551615")

-- the file with the network
abbrev pub network_word : TakenWord
network_word = argument (codes "NETWORK") Path (codes "The file with the network")

-- whether the answer is printed as a JSON object
abbrev pub json_word : TakenWord
json_word = free_option (codes "json") Flag
    (codes "Prints the answer as one JSON object on one line")

-- the most configurations of a search, from 1 on, which is 1000000 where it isn't given
abbrev pub configurations_word : TakenWord
configurations_word = usual_option (codes "configurations") (Number 1 4294967295)
    (codes "At most this many configurations of a word, 1 to 4294967295") (codes "1000000")

-- the seconds in which an order is to be found
abbrev pub seconds_word : TakenWord
seconds_word = free_option (codes "seconds") Long
    (codes "Widens the search for about so many seconds, 0 to 18446744073709551615")

-- `steps`
abbrev pub steps_command : NamedCommand
steps_command = record {
  name = codes "steps";
  about = codes "Runs the listed steps and prints the report";
  words = machine_word ∷ script_word
      ∷ argument (codes "STEPS") Path (codes "The file with the steps")
      ∷ free_option (codes "moves") Flag (codes "Prints the steps that moved, not the report")
      ∷ [];
}

-- `round`
abbrev pub round_command : NamedCommand
round_command = record {
  name = codes "round";
  about = codes "Runs in rounds until every script is finished, and prints the report";
  words = machine_word ∷ script_word ∷ rounds_word ∷ clocked_word ∷ machine_arbiter_word
      ∷ guard_word ∷ [];
}

-- `run`
abbrev pub run_command : NamedCommand
run_command = record {
  name = codes "run";
  about = codes "Runs in threads until every script is finished, and prints the report";
  words = machine_word ∷ script_word
      ∷ usual_option (codes "workers") (Number 1 16) (codes "The number of worker threads, 1 to 16")
      (codes "1")
      ∷ usual_option (codes "turns") (Number 1 1000000000)
      (codes "At most this many turns each, 1 to 1000000000") (codes "1000000000")
      ∷ [];
}

-- `live`
abbrev pub live_command : NamedCommand
live_command = record {
  name = codes "live";
  about = codes "Reads requests from standard input, and answers them line by line";
  words = machine_word ∷ [];
}

-- `schedule`
abbrev pub schedule_command : NamedCommand
schedule_command = record {
  name = codes "schedule";
  about = codes "Runs in rounds until every script is finished, and prints the moves as steps";
  words = machine_word ∷ script_word ∷ rounds_word ∷ clocked_word ∷ machine_arbiter_word
      ∷ guard_word ∷ [];
}

-- `draw`
abbrev pub draw_command : NamedCommand
draw_command = record {
  name = codes "draw";
  about = codes "Makes random moves until every script is finished, and prints them as steps";
  words = machine_word ∷ script_word
      ∷ needed_option (codes "seed") Long (codes "The random seed, 0 to 18446744073709551615")
      ∷ free_option (codes "steps") Long
      (codes "At most this many moves, 0 to 18446744073709551615; no limit by default")
      ∷ [];
}

-- the most states of a search, from 1 to 10000000, which is 100000 where it isn't given
abbrev pub states_word : TakenWord
states_word = usual_option (codes "states") (Number 1 10000000)
    (codes "At most this many states of the search, 1 to 10000000") (codes "100000")

-- `outcomes`
abbrev pub outcomes_command : NamedCommand
outcomes_command = record {
  name = codes "outcomes";
  about = codes "Finds all outcomes of the scripts, over every schedule";
  words = machine_word ∷ script_word ∷ states_word
      ∷ free_option (codes "run") Long
      (codes "Prints the steps of a run to the outcome of this number, from 0, "
      ++ codes "not the outcomes")
      ∷ [];
}

-- `reach`
abbrev pub reach_command : NamedCommand
reach_command = record {
  name = codes "reach";
  about = codes "Prints the steps of a run with these replies, or that no schedule gives them";
  words = machine_word ∷ script_word
      ∷ needed_option (codes "answer") Replies
      (codes "The replies of each processor, parted by /; * is any reply")
      ∷ states_word
      ∷ [];
}

-- `route`
abbrev pub route_command : NamedCommand
route_command = record {
  name = codes "route";
  about = codes "Prints the channels of a route and their numbers";
  words = machine_word
      ∷ argument (codes "SRC") (Number 0 4294967295) (codes "The tile that sends")
      ∷ argument (codes "DST") (Number 0 4294967295) (codes "The tile that receives")
      ∷ free_option (codes "reply") Flag (codes "The route of a reply, not of a request")
      ∷ [];
}

-- `channels`
abbrev pub channels_command : NamedCommand
channels_command = record {
  name = codes "channels";
  about = codes "Prints the number of each channel, and checks that they rise along every route";
  words = machine_word ∷ [];
}

-- `check`
abbrev pub check_command : NamedCommand
check_command = record {
  name = codes "check";
  about = codes "Checks a report";
  words = argument (codes "REPORT") Path (codes "The file with the report")
      ∷ [];
}

-- `network`
abbrev pub network_command : NamedCommand
network_command = record {
  name = codes "network";
  about = codes "Judges a network: free of deadlock, a pair without a route, "
      ++ codes "or a cycle that can deadlock";
  words = network_word
      ∷ free_option (codes "run") Flag (codes "Prints the run by which it deadlocks, move by move")
      ∷ free_option (codes "replay") Path
      (codes "Replays the run of this file, and prints how it ends")
      ∷ free_option (codes "depth") (Number 1 8)
      (codes "How many flits a channel holds in a run, 1 to 8; 1 by default")
      ∷ free_option (codes "names") Flag
      (codes "Puts what the file calls a channel behind its number in a verdict")
      ∷ json_word
      ∷ [];
}

-- `simulate`
abbrev pub simulate_command : NamedCommand
simulate_command = record {
  name = codes "simulate";
  about = codes "Sends packets through a network in clocked rounds, and prints when each arrives";
  words = network_word
      ∷ argument (codes "TRAFFIC") Path (codes "The file with the packets")
      ∷ usual_option (codes "depth") (Number 1 8) (codes "How many flits a channel holds, 1 to 8")
      (codes "1")
      ∷ usual_option (codes "arbiter") Arbiter
      (codes "Which head an output takes: rotating (round robin) or turn") (codes "rotating")
      ∷ [];
}

-- `linearize`
abbrev pub linearize_command : NamedCommand
linearize_command = record {
  name = codes "linearize";
  about = codes "Judges a trace: an order that explains it, no such order, or undecided";
  words = argument (codes "TRACE") Path (codes "The file with the trace")
      ∷ configurations_word
      ∷ seconds_word
      ∷ free_option (codes "report") Flag (codes "Prints the order as a report")
      ∷ free_option (codes "smallest") Flag (codes "Prints a small part that has no order")
      ∷ json_word
      ∷ [];
}

-- `watch`
abbrev pub watch_command : NamedCommand
watch_command = record {
  name = codes "watch";
  about = codes "Judges a trace online, and ends at the first answer that no order explains";
  words = argument (codes "TRACE") Path (codes "The file with the trace, or - for standard input")
      ∷ configurations_word
      ∷ json_word
      ∷ [];
}

-- `model`
abbrev pub model_command : NamedCommand
model_command = record {
  name = codes "model";
  about = codes "Judges a log or report by memory models, "
      ++ codes "and prints the cycle of the weakest that fails";
  words = argument (codes "LOG") Path (codes "The file with the log or the report")
      ∷ usual_option (codes "model") Model
      (codes "The model that decides the status: coherent, fenced, rvwmo, pso, tso or sc")
      (codes "sc")
      ∷ free_option (codes "order") Flag
      (codes "Prints an order of the strongest model that holds, too")
      ∷ free_option (codes "texts") RunTexts
      (codes "The machine and scripts whose run the report shows, so that their fences count")
      ∷ free_option (codes "values") Flag
      (codes "Judges by replies alone, without an order of writes")
      ∷ free_option (codes "nodes") (Number 1 4294967295)
      (codes "At most this many nodes a model with --values, 1 to 4294967295; 10000 by default")
      ∷ free_option (codes "smallest") Flag
      (codes "Prints a small part of a log that breaks the weakest model that fails")
      ∷ json_word
      ∷ [];
}

-- the commands, in the order of the help
abbrev pub commands : List NamedCommand
commands = steps_command ∷ round_command ∷ run_command ∷ live_command ∷ schedule_command ∷
    draw_command ∷ outcomes_command ∷ reach_command ∷ route_command ∷ channels_command ∷
    check_command ∷ network_command ∷ simulate_command ∷ linearize_command ∷ watch_command ∷
    model_command ∷ []
