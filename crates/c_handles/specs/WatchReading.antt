-- What rows of numbers give of a watch, row by row (this project's own format).
use Rattle.std.specs.Prelude.{ℕ, ◌==◌, List, [], ◌∷◌, ◌++◌, Option, Some, None, if◌then◌else◌}
use Rattle.packet.specs.declared.kinds.Op.{Op}
use Rattle.packet.specs.declared.kinds.Op.TheVariants.{Load}
use Rattle.packet.specs.declared.kinds.Operation.{Operation}
use Rattle.packet.specs.declared.kinds.Reply.{Reply}
use Rattle.trace_laws.specs.declared.event.Call.{Call}
use Rattle.trace_watch.specs.declared.state.Effect.{Effect}
use Rattle.trace_watch.specs.declared.state.Glimpse.{Glimpse}
use Rattle.trace_watch.specs.States.{Config}
use Rattle.trace_watch.specs.Watched.{Watched}
use Rattle.machine_record.specs.declared.row.LineRow.{LineRow}
use Rattle.packet.specs.Numbers.{op_of_number, reply_of_number}

-- what rows gave: the last operation; the effects and glimpses of a configuration that hasn't ended, and
-- the configurations of a word that hasn't; the words, the open operations and the newest number
pub record Parts : Type 0 where
  pub operation : Operation
  pub effects : List Effect
  pub seen : List Glimpse
  pub configs : List Config
  pub words : List (List Config)
  pub pending : List Call
  pub last : Option ℕ

-- no rows
abbrev pub no_parts : Parts
no_parts = record {
  operation = record { address = 0; op = Load };
  effects = [];
  seen = [];
  configs = [];
  words = [];
  pending = [];
  last = None;
}

-- an operation on an address
abbrev pub with_operation : Parts → ℕ → Option Op → Parts
with_operation p address None = p
with_operation p address (Some op) =
    record p { operation = record { address = address; op = op } }

-- an effect of the last operation, with a reply
abbrev pub with_effect : Parts → ℕ → Option Reply → Parts
with_effect p newest None = p
with_effect p newest (Some reply) = record p {
  effects = p.effects ++ record { op = p.operation.op; reply = reply; newest = newest } ∷ [];
}

-- a glimpse
abbrev pub with_glimpse : Parts → ℕ → ℕ → Parts
with_glimpse p word newest =
    record p { seen = p.seen ++ record { word = word; newest = newest } ∷ [] }

-- a configuration ends
abbrev pub with_config : Parts → ℕ → Parts
with_config p word = record p {
  effects = [];
  seen = [];
  configs =
      p.configs ++ record { word = word; effects = p.effects; seen = p.seen } ∷ [];
}

-- a word ends
abbrev pub with_word : Parts → Parts
with_word p = record p { configs = []; words = p.words ++ p.configs ∷ [] }

-- an open operation, which asks what the last one does
abbrev pub with_call : Parts → ℕ → Parts
with_call p id =
    record p { pending = p.pending ++ record { id = id; operation = p.operation } ∷ [] }

-- the newest number
abbrev pub with_last : Parts → ℕ → Parts
with_last p number = record p { last = Some number }

-- one row more
abbrev pub after_row : Parts → LineRow → Parts
after_row p row =
    if row.operation == 16 then with_effect p row.second (reply_of_number row.lasts row.first)
    else (if row.operation == 17 then with_glimpse p row.first row.second
    else (if row.operation == 18 then with_config p row.first
    else (if row.operation == 19 then with_word p
    else (if row.operation == 20 then with_call p row.first
    else (if row.operation == 21 then with_last p row.first
    else with_operation p row.address (op_of_number row.operation row.first row.second))))))

-- rows more
abbrev pub after_rows : Parts → List LineRow → Parts
after_rows p [] = p
after_rows p (row ∷ rows) = after_rows (after_row p row) rows

-- what a watch of these says
abbrev pub watched_in : Parts → Watched
watched_in p = record { words = p.words; pending = p.pending; last = p.last }
