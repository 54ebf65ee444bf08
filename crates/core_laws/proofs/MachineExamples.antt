-- A worked machine of two tiles, against the definitions.
use Rattle.std.proofs.Common.{◌≡◌, false, [], ◌∷◌, refl}
use Rattle.torus.specs.declared.step.Step.{Step}
use Rattle.torus.specs.declared.step.Choice.TheVariants.{Send, Take}
use Rattle.packet.specs.Flit.{field}
use Rattle.packet.specs.Flits.{flits_of}
use Rattle.script_lines.specs.declared.line.Line.TheVariants as line
use Rattle.script_lines.specs.declared.line.Value.TheVariants.{Number}
use Rattle.one_order.specs.Following.{first_of, next_operation_of, after_issue, is_finished}
use Rattle.one_order.specs.EventBook.{EventBook}
use Rattle.core_laws.specs.Core.{Load}
use Rattle.core_laws.specs.Machine.{Core, core_after_load, core_next, shown, all_finished, book_after}

-- two tiles; processor 0 stores 7 at address 1
abbrev one_store : Load
one_store = record {
  shape = record { radices = 2 ∷ []; datelines = 1 ∷ [] };
  depth = 4;
  tags = 4;
  opening = 1 ∷ 2 ∷ 3 ∷ 4 ∷ 5 ∷ 6 ∷ 7 ∷ 8 ∷ [];
  scripts = (line.Store 1 (Number 7) ∷ []) ∷ [] ∷ [];
}

abbrev at_first : Core
at_first = core_after_load one_store []

abbrev send : Step
send = record { agent = 0; choice = Send }

-- a machine shows all words of its memory
memory_is_shown : (shown at_first).memory ≡ 1 ∷ 2 ∷ 3 ∷ 4 ∷ 5 ∷ 6 ∷ 7 ∷ 8 ∷ []
memory_is_shown = refl

-- a processor with a line ahead isn't finished
store_is_ahead : all_finished at_first.state ≡ false
unfolding first_of is_finished
store_is_ahead = refl

-- of 245 moves the first send leaves 244, and an attempt that isn't enabled leaves all
send_is_counted : (core_next at_first send).moves_left ≡ 244
unfolding first_of next_operation_of after_issue field flits_of
send_is_counted = refl

idle_is_not_counted : (core_next at_first (record { agent = 0; choice = Take })).moves_left ≡ 245
idle_is_not_counted = refl

-- the first send is an issue: event 1, of processor 0
abbrev one_issue : EventBook
one_issue = record { events = 1; issues = (1 ∷ []) ∷ [] ∷ []; positions = [] ∷ [] ∷ []; rows = [] }

send_is_noted : (core_next at_first send).book ≡ one_issue
unfolding first_of next_operation_of after_issue field flits_of
send_is_noted = refl

-- so it is in the book of the run
send_is_in_the_book : book_after one_store (send ∷ []) ≡ one_issue
unfolding first_of next_operation_of after_issue field flits_of
send_is_in_the_book = refl
