-- Worked moves of operations between two tiles, against the definitions.
use Rattle.std.proofs.Common.{◌≡◌, ℕ, [], ◌∷◌, Some, None, refl, arith}
use Rattle.packet.specs.declared.kinds.Code.TheVariants as code
use Rattle.packet.specs.declared.kinds.Op.{Op}
use Rattle.packet.specs.declared.kinds.Op.TheVariants as op
use Rattle.packet.specs.declared.kinds.Operation.{Operation}
use Rattle.packet.specs.declared.kinds.Reply.TheVariants.{Ok as Stored}
use Rattle.packet.specs.declared.kinds.Request.{Request}
use Rattle.packet.specs.declared.kinds.Response.{Response}
use Rattle.script_lines.specs.declared.line.Line.TheVariants as line
use Rattle.one_order.specs.Following.{first_of, next_operation_of}
use Rattle.one_order.specs.ProcessorRecord.{first_record}
use Rattle.one_order.specs.EventBook.{EventBook, new_row}
use Rattle.one_order.specs.Flight.{Flight, Sends, Serves, IsFound, asked_place, told_place, moved}
use Rattle.one_order.specs.Room.{home_room}

-- two tiles, and word 1, whose home is bank 1
abbrev on_word_1 : Op → Operation
on_word_1 kind = record { address = 1; op = kind }

-- a request of processor 0 to bank 1 under a tag, and a response of bank 1 to processor 0
abbrev asked_under : ℕ → Request
asked_under tag = record { destination = 1; source = 0; tag = record { 0 = tag }; word = 0; op = op.Store 7 }

abbrev told_under : ℕ → Response
told_under tag = record {
  destination = 0;
  source = 1;
  tag = record { 0 = tag };
  place = 0;
  code = code.Store;
  reply = Stored;
}

-- processor 0 has an operation ahead, and its tag 0 is held
abbrev flight : Flight
flight = record {
  processors = record (first_record 2 (line.Load 1 ∷ [])) { tags = Some (record { 0 = 0 }) ∷ None ∷ [] }
      ∷ first_record 2 [] ∷ [];
  entries = [] ∷ [] ∷ [];
  memory = 0 ∷ 5 ∷ [];
  asked = asked_under 0 ∷ asked_under 1 ∷ [];
  told = [];
}

-- the operation is sent under the free tag, and not under the held one
free_tag_is_given : IsFound 2 flight (Sends 0 1 (on_word_1 op.Load))
unfolding first_of next_operation_of
free_tag_is_given = (omega arith, refl, refl, omega arith)

held_tag_is_not_given : IsFound 2 flight (Sends 0 0 (on_word_1 op.Load)) → ⊥
held_tag_is_not_given h = cc (h.2)

-- of two requests with the same ends the second stands behind the first, whatever their tags; and so of two responses
requests_stay_in_order : asked_place (asked_under 0 ∷ asked_under 1 ∷ []) (asked_under 1) ≡ 0
requests_stay_in_order = refl

responses_stay_in_order : told_place (told_under 0 ∷ told_under 1 ∷ []) (told_under 1) ≡ 0
responses_stay_in_order = refl

-- one from another bank doesn't stand in the way
other_bank_is_no_matter : told_place (record (told_under 0) { source = 0 } ∷ told_under 1 ∷ []) (told_under 1) ≡ 1
other_bank_is_no_matter = refl

-- a service of a store leaves the new word
store_leaves_its_word : (moved 2 flight (Serves (asked_under 0))).memory ≡ 0 ∷ 7 ∷ []
store_leaves_its_word = refl

-- two of three operations are on words of bank 1
room_of_bank_1 : home_room 2 1 ((line.Load 1 ∷ line.Load 2 ∷ line.Load 3 ∷ []) ∷ [] ∷ []) ≡ 2
room_of_bank_1 = refl

-- the service that follows two events is event 3, of the operation that was issued by event 1
abbrev two_issues : EventBook
two_issues = record { events = 2; issues = (1 ∷ 2 ∷ []) ∷ [] ∷ []; positions = [] ∷ [] ∷ []; rows = [] }

service_is_event_3 : new_row 1 0 0 two_issues
    ≡ record { bank = 1; place = 0; source = 0; index = 0; issued = 1; served = 3; answered = None }
service_is_event_3 = refl
