-- Delivery: what an end has whole from another is a beginning of what that sent to it.
use Rattle.std.specs.Prelude.{◌≡◌, ℕ, ◌+◌, ◌/◌, ◌<◌, ◌==◌, ◌&&◌, if◌then◌else◌, List, [], ◌∷◌, ◌++◌, Some, All, map}
use Rattle.std.specs.Prelude.{filter, option_to_list, slice_get}
use Rattle.torus.specs.Shape.{tiles_of}
use Rattle.packet.specs.declared.kinds.Operation.{Operation}
use Rattle.packet.specs.declared.kinds.Request.{Request}
use Rattle.packet.specs.declared.kinds.Response.{Response}
use Rattle.packet.specs.declared.kinds.Reply.{Reply}
use Rattle.packet.specs.Kinds.{code_of}
use Rattle.home_bank.specs.declared.entry.Entry.{Entry}
use Rattle.home_bank.specs.ServiceList.{address_of}
use Rattle.one_order.specs.declared.answer.Answer.{Answer}
use Rattle.one_order.specs.Observed.{list_at}
use Rattle.wormhole.specs.Delivery.{IsPrefix, without_last}
use Rattle.core_laws.specs.Heads.{carries_route}
use Rattle.home_bank.specs.BankTable.{BankState}
use Rattle.tile.specs.Tile.{Design, TileState}
use Rattle.core_laws.specs.Core.{State, show}

-- the operation that a request asks for
abbrev pub asked_operation : ℕ → Request → Operation
asked_operation tiles r = record { address = address_of r.destination tiles r.word; op = r.op }

-- what a service says: to which processor, by which bank, its place, and the reply
pub record Notice : Type 0 where
  pub processor : ℕ
  pub bank : ℕ
  pub place : ℕ
  pub reply : Reply

-- what a response carries
abbrev pub notice_of : Response → Notice
notice_of r = record {
  processor = r.destination;
  bank = r.source;
  place = r.place;
  reply = r.reply;
}

-- what an answer of processor p carries
abbrev pub notice_by : ℕ → Answer → Notice
notice_by p a = record { processor = p; bank = a.bank; place = a.place; reply = a.reply }

-- the requests of a list from processor p to bank b
abbrev pub requests_between : ℕ → ℕ → List Request → List Request
requests_between p b rs = filter (λ r. r.source == p && r.destination == b) rs

-- the responses of a list from bank b to processor p
abbrev pub responses_between : ℕ → ℕ → List Response → List Response
responses_between b p rs = filter (λ r. r.source == b && r.destination == p) rs

-- the request that an entry of bank b is of
abbrev pub request_served : ℕ → ℕ → Entry → Request
request_served tiles b e = record {
  destination = b;
  source = e.source;
  tag = e.tag;
  word = e.address / tiles;
  op = e.op;
}

-- the response to an entry of bank b at this place
abbrev pub response_made : ℕ → ℕ → Entry → Response
response_made b place e = record {
  destination = e.source;
  source = b;
  tag = e.tag;
  place = place;
  code = code_of e.op;
  reply = e.reply;
}

-- the requests that bank b has whole: those of its entries, and the one that waits
abbrev pub requests_whole : ℕ → ℕ → BankState → List Request
requests_whole tiles b bank =
    map (request_served tiles b) bank.entries ++ option_to_list bank.waiting

-- the responses to entries of bank b, the first of which has this place
abbrev pub responses_made : ℕ → ℕ → List Entry → List Response
responses_made b place [] = []
responses_made b place (e ∷ entries) =
    response_made b place e ∷ responses_made b (place + 1) entries

-- the flit that is next to put; 0 where there is none
abbrev pub next_flit : List ℕ → ℕ
next_flit [] = 0
next_flit (flit ∷ flits) = flit

-- the responses of which bank b has put the head: all, but for the last where its head is next to
-- put
abbrev pub responses_sent : ℕ → BankState → List Response
responses_sent b bank =
    if carries_route (next_flit bank.to_put) then without_last (responses_made b 0 bank.entries)
    else responses_made b 0 bank.entries

-- The packets of each class between two tiles that the receiver has whole are a beginning of those
-- whose heads the sender has put, in that order: none is invented, doubled, mixed or overtaken
-- (Dally and Towles, chapter 13). Of each processor these are the requests that it has sent, one
-- for each operation that it has issued, and the responses that it has whole, one for each of its
-- answers, in their order.
pub record DeliversPackets (d : Design) (words : ℕ) (s : State) (requests : List (List Request))
    (taken : List (List Response)) : Type 0 where
  pub issued : (p : ℕ)
      → map (asked_operation (tiles_of d.shape)) (list_at requests p)
      ≡ list_at (show words s).issued p
  pub proper : (p : ℕ)
      → All (λ r. (r.source ≡ p) × (r.destination < tiles_of d.shape)) (list_at requests p)
  pub answered : (p : ℕ) → map (notice_by p) (list_at (show words s).answers p)
      ≡ map notice_of (list_at taken p)
  pub at_banks : (p b : ℕ) (tile : TileState) → p < tiles_of d.shape
      → slice_get s.tiles b ≡ Some tile
      → IsPrefix (requests_between p b (requests_whole (tiles_of d.shape) b tile.bank))
      (requests_between p b (list_at requests p))
  pub at_processors : (b p : ℕ) (tile : TileState) → p < tiles_of d.shape
      → slice_get s.tiles b ≡ Some tile
      → IsPrefix (responses_between b p (list_at taken p))
      (responses_between b p (responses_sent b tile.bank))
