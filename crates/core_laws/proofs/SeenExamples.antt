-- Worked notes, ends and rows of two tiles, against the definitions.
use Rattle.std.proofs.Common.{◌≡◌, ℕ, zero, suc, List, [], ◌∷◌, length, Some, refl, ap, replicate, arith}
use Rattle.std.specs.Prelude.{slice_get, slice_index_or}
use Rattle.torus.specs.declared.step.Step.{Step}
use Rattle.torus.specs.declared.step.Choice.TheVariants.{Send}
use Rattle.packet.specs.Flit.{field}
use Rattle.packet.specs.Flits.{offered, flits_of}
use Rattle.packet.specs.declared.kinds.Op.TheVariants as op
use Rattle.packet.specs.declared.kinds.Reply.TheVariants.{Old}
use Rattle.script_lines.specs.declared.line.Line.TheVariants as line
use Rattle.script_lines.specs.declared.line.Value.TheVariants.{Number}
use Rattle.home_bank.specs.declared.entry.Entry.{Entry}
use Rattle.one_order.specs.Following.{first_of, next_operation_of, after_issue, after_answer}
use Rattle.one_order.specs.ProcessorRecord.{no_processor, index_of}
use Rattle.one_order.specs.EventBook.{EventBook, noted_service}
use Rattle.core_laws.specs.Tile.{TileState}
use Rattle.core_laws.specs.Agents.{TilePlace, tile_placed}
use Rattle.core_laws.specs.Core.{Load, State, design_of, first_state, first_tile, after}
use Rattle.core_laws.specs.Row.{row_of}
use Rattle.core_laws.specs.Attempts.{tile_in}
use Rattle.core_laws.specs.Seen.{receivers, held_at, LeadsOn, IsToldByCounts}
use Rattle.core_laws.specs.Notes.{service_noted, book_noted, FitsLoad, RoomToNoteService}

-- two tiles; processor 0 stores a word at address 1, whose home is bank 1
abbrev one_store : Load
one_store = record {
  shape = record { radices = 2 ∷ []; datelines = 1 ∷ [] };
  depth = 4;
  tags = 4;
  opening = replicate 8 0;
  scripts = (line.Store 1 (Number 7) ∷ []) ∷ [] ∷ [];
}

-- of a channel whose next place to fill is its second, three credits are held
credits_are_told : held_at 8 (record { base = 4; depth = 4; next = 0; credits = 4 }
    ∷ record { base = 8; depth = 4; next = 1; credits = 3 } ∷ []) ≡ 3
credits_are_told = refl

-- a tile takes from twelve channels: its processor from one, its router from ten, and its bank from one
abbrev place_in : State → ℕ → TileState → TilePlace
place_in s t tile = tile_placed (design_of one_store) t tile s.around

twelve_receivers : length (receivers (place_in (first_state one_store) 0 (first_tile 1 4 []))) ≡ 12
twelve_receivers = refl

-- the issue of processor 0 is noted, and no service yet
abbrev book : EventBook
book = record { events = 1; issues = (1 ∷ []) ∷ [] ∷ []; positions = [] ∷ [] ∷ []; rows = [] }

-- what a bank keeps of a load by a processor
abbrev load_by : ℕ → Entry
load_by source = record { source = source; tag = record { 0 = 0 }; address = 1; op = op.Load; reply = Old 0 }

-- a service of bank 1 for processor 0 is noted at bank 1
service_at_its_bank : service_noted 1 [] (Some (load_by 0)) book ≡ noted_service 1 0 0 book
service_at_its_bank = refl

-- a bank with one entry, for processor 0, and then with a second one, for processor 1
abbrev tile_with : List Entry → TileState
tile_with entries = record {
  processor = (first_tile 1 4 []).processor;
  router = (first_tile 1 4 []).router;
  bank = record (first_tile 1 4 []).bank { entries = entries };
}

abbrev one_entry : TileState
one_entry = tile_with (load_by 0 ∷ [])

abbrev two_entries : TileState
two_entries = tile_with (load_by 0 ∷ load_by 1 ∷ [])

-- the second one is noted
second_is_noted : book_noted 1 [] 0 0 1 two_entries book ≡ noted_service 1 1 0 book
second_is_noted = refl

abbrev no_tiles : State
no_tiles = record { tiles = []; around = record { rings = []; words = [] } }

second_is_told : IsToldByCounts no_tiles 1 one_entry two_entries book (noted_service 1 1 0 book)
second_is_told = record {
  issue = λ h. absurd (omega (arith, h));
  answer = λ a h. absurd (cc);
  service = λ e is. let same : load_by 1 ≡ e = cc in ap (λ (x : Entry). noted_service 1 x.source
      (index_of (slice_index_or [] x.source no_processor) x.tag.0) book) same;
  nothing = λ issued answers entries. absurd (omega (arith, entries));
}

-- the script has one operation, whose service has room in an empty book
has_room : RoomToNoteService one_store book 1 0 0
has_room = record {
  bank = omega arith;
  positions = omega arith;
  services = omega arith;
  rows = omega arith;
  source_in = omega arith;
  index_in = omega arith;
}

-- an issue, a service and an answer of one operation are three events
three_events : FitsLoad one_store (record book { events = 3 })
three_events =
    record { issues = refl; positions = refl; events = omega arith; rows = omega arith; operations = omega arith }

-- the first flit that processor 0 sends is in the row afterwards
abbrev send : Step
send = record { agent = 0; choice = Send }

abbrev sent : State
sent = after one_store (send ∷ [])

abbrev place_of : State → ℕ → TilePlace
place_of s t = place_in s t (slice_index_or s.tiles t (first_tile 1 4 []))

abbrev both_places : State → List TilePlace
both_places s = place_of s 0 ∷ place_of s 1 ∷ []

shown : (t : ℕ) → slice_get (both_places sent) t ≡ tile_in (design_of one_store) sent t
unfolding first_of next_operation_of after_issue after_answer field offered flits_of
shown zero = refl
shown (suc zero) = refl
shown (suc (suc t)) = refl

send_shows_its_flit : LeadsOn (design_of one_store) (first_state one_store) (both_places (first_state one_store))
    (row_of (design_of one_store) (first_state one_store)) send (place_of (first_state one_store) 0)
unfolding first_of next_operation_of after_issue after_answer field offered flits_of
send_shows_its_flit = (sent, refl, record { tiles = shown; row_is = refl })
