-- A machine without its network: its processors' records, its banks' entries, the memory, and the
-- packets in flight.
use Rattle.std.specs.Prelude.{◌≡◌, ℕ, suc, ◌<◌, ◌==◌, ◌&&◌, if◌then◌else◌, Bool, List, [], ◌∷◌, ◌++◌, map, length}
use Rattle.std.specs.Prelude.{remove}
use Rattle.std.specs.Prelude.{Some, None, Option, slice_get, slice_set, slice_index, slice_index_or}
use Rattle.std.specs.List.{list_all}
use Rattle.packet.specs.declared.kinds.Operation.{Operation}
use Rattle.packet.specs.declared.kinds.Request.{Request}
use Rattle.packet.specs.declared.kinds.Response.{Response}
use Rattle.packet.specs.declared.kinds.Reply.{Reply}
use Rattle.packet.specs.Memory.{new_word, reply_to}
use Rattle.home_bank.specs.declared.entry.Entry.{Entry}
use Rattle.home_bank.specs.ServiceList.{address_of, entry_of, response_of}
use Rattle.one_order.specs.Following.{next_operation_of, is_finished}
use Rattle.one_order.specs.Observed.{Observed, list_at}
use Rattle.one_order.specs.Events.{Event, Nothing, Issued, Served, Answered, push_at}
use Rattle.one_order.specs.ProcessorRecord.{ProcessorRecord, no_processor, index_of, operation_under, issued_by}
use Rattle.one_order.specs.ProcessorRecord.{answered_by, request_of, answer_of}

-- what stands of the operations: in processors, in banks, in memory, and in flight between them
pub record Flight : Type 0 where
  pub processors : List ProcessorRecord
  -- the entries of each bank, one for each service
  pub entries : List (List Entry)
  -- the words by address, of all banks together
  pub memory : List ℕ
  -- the requests that are issued and not served, in the order of issue
  pub asked : List Request
  -- the responses that are made and not taken, in the order of the services
  pub told : List Response

-- what a step can do to the operations
pub data Move : Type 0 where
  -- processor t issues an operation under a free tag
  Sends : (t tag : ℕ) (o : Operation) → Move
  -- a bank serves a request that it has whole
  Serves : (r : Request) → Move
  -- a processor has a response whole
  Takes : (r : Response) → Move

-- the record of a processor
abbrev pub processor_at : Flight → ℕ → ProcessorRecord
processor_at f t = slice_index_or f.processors t no_processor

-- a request of the same source to the same bank
abbrev pub is_asked_alike : Request → Request → Bool
is_asked_alike r q = (q.source == r.source) && (q.destination == r.destination)

-- a response of the same bank to the same processor
abbrev pub is_told_alike : Response → Response → Bool
is_told_alike r q = (q.source == r.source) && (q.destination == r.destination)

-- the place of the first item that passes a test; with none, the place behind all
abbrev pub first_place : {A : Type 0} → (A → Bool) → List A → ℕ
first_place test [] = 0
first_place test (x ∷ xs) = if test x then 0 else suc (first_place test xs)

-- the place of the first request of the same source to the same bank
abbrev pub asked_place : List Request → Request → ℕ
asked_place asked r = first_place (is_asked_alike r) asked

-- the place of the first response of the same bank to the same processor
abbrev pub told_place : List Response → Response → ℕ
told_place told r = first_place (is_told_alike r) told

-- the address that a request is for
abbrev pub word_asked : ℕ → Request → ℕ
word_asked tiles r = address_of r.destination tiles r.word

-- what is replied to a request, by what its word is
abbrev pub reply_given : ℕ → Flight → Request → Reply
reply_given tiles f r = reply_to r.op (slice_index f.memory (word_asked tiles r))

-- the flight after a move
abbrev pub moved : ℕ → Flight → Move → Flight
moved tiles f (Sends t tag o) = record {
  processors = slice_set f.processors t (issued_by (processor_at f t) tag o);
  entries = f.entries;
  memory = f.memory;
  asked = f.asked ++ request_of tiles t tag o ∷ [];
  told = f.told;
}
moved tiles f (Serves r) = record {
  processors = f.processors;
  entries = push_at f.entries r.destination
      (entry_of r.destination tiles r (reply_given tiles f r));
  memory = slice_set f.memory (word_asked tiles r) (new_word r.op (slice_index f.memory (word_asked tiles r)));
  asked = remove f.asked (asked_place f.asked r);
  told =
      f.told
      ++ response_of r.destination (length (list_at f.entries r.destination)) r
      (reply_given tiles f r) ∷ [];
}
moved tiles f (Takes r) = record {
  processors = slice_set f.processors r.destination (answered_by (processor_at f r.destination) r);
  entries = f.entries;
  memory = f.memory;
  asked = f.asked;
  told = remove f.told (told_place f.told r);
}

-- what a move has to find: an operation that is ready and a tag that is free, or a packet that is
-- the first of its two ends
abbrev pub IsFound : ℕ → Flight → Move → Type 0
IsFound words f (Sends t tag o) =
    (t < length f.processors) × (next_operation_of (processor_at f t).following ≡ Some o)
    × (slice_get (processor_at f t).tags tag ≡ Some None) × (o.address < words)
IsFound words f (Serves r) = slice_get f.asked (asked_place f.asked r) ≡ Some r
IsFound words f (Takes r) = slice_get f.told (told_place f.told r) ≡ Some r

-- the flight after a step that is a move or none
abbrev pub moved_by : ℕ → Flight → Option Move → Flight
moved_by tiles f None = f
moved_by tiles f (Some m) = moved tiles f m

-- what is shown of a flight
abbrev pub show : Flight → Observed
show f = record {
  issued = map (λ b. b.issued) f.processors;
  answers = map (λ b. b.answers) f.processors;
  entries = f.entries;
  memory = f.memory;
}

-- the event that a move is
abbrev pub event : Flight → Move → Event
event f (Sends t tag o) = Issued t o
event f (Serves r) =
    Served r.source (index_of (processor_at f r.source) r.tag.0) r.tag
    (operation_under (processor_at f r.source) r.tag.0)
event f (Takes r) = Answered r.destination (answer_of (processor_at f r.destination) r)

-- the event that a step is, be it a move or none
abbrev pub flight_event : Flight → Option Move → Event
flight_event f None = Nothing
flight_event f (Some m) = event f m

-- whether each processor's follower has come to the end of its script
abbrev pub processors_finished : Flight → Bool
processors_finished f = list_all (λ b. is_finished b.following) f.processors
