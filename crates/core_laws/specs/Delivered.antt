-- Delivery, between each two tiles and of both classes of packets.
use Rattle.std.specs.Prelude.{◌≡◌, ℕ, ◌<◌, ◌==◌, List, [], ◌∷◌, ◌++◌, map, filter, Option, Some}
use Rattle.torus.specs.Shape.{tiles_of}
use Rattle.torus.specs.declared.step.Step.{Step}
use Rattle.packet.specs.declared.kinds.Request.{Request}
use Rattle.packet.specs.declared.kinds.Response.{Response}
use Rattle.home_bank.specs.BankTable.{BankState}
use Rattle.one_order.specs.Observed.{list_at}
use Rattle.wormhole.specs.Delivery.{IsPrefix}
use Rattle.one_order.specs.ProcessorRecord.{request_of}
use Rattle.one_order.specs.Flight.{Move, Sends, Takes}
use Rattle.core_laws.specs.Tile.{Design}
use Rattle.core_laws.specs.Core.{Load, State, design_of, first_state, next}
use Rattle.core_laws.specs.Moves.{move_of}
use Rattle.core_laws.specs.Mirrors.{tile_at}
use Rattle.core_laws.specs.Delivery.{asked_operation, notice_of, notice_by, requests_between}
use Rattle.core_laws.specs.Delivery.{responses_between, requests_whole, responses_sent}
use Rattle.core_laws.specs.Machine.{Core, shown}

-- the request that a processor sends by a move: where it issues an operation, it puts the head of
-- that one's request, under the tag that the operation takes (Dally and Towles, chapter 20)
abbrev pub request_sent : ℕ → Option Move → List Request
request_sent tiles (Some (Sends p tag o)) = request_of tiles p tag o ∷ []
request_sent tiles _ = []

-- the response that a processor has whole with a move
abbrev pub response_taken : Option Move → List Response
response_taken (Some (Takes r)) = r ∷ []
response_taken _ = []

-- what these steps from a state on bring, one after the other, by what each is of the operations
abbrev pub brought_from : {A : Type 0} → (Option Move → List A) → Design → State → List Step
    → List A
brought_from bring d s [] = []
brought_from bring d s (attempt ∷ attempts) =
    bring (move_of d s attempt) ++ brought_from bring d (next d s attempt) attempts

-- the requests that the processors have sent in a list of steps from a load, in the order of
-- sending
abbrev pub sent_requests : Load → List Step → List Request
sent_requests l steps = brought_from (request_sent (tiles_of l.shape)) (design_of l) (first_state l)
    steps

-- the responses that the processors have whole after a list of steps from a load, in the order of
-- becoming so
abbrev pub whole_responses : Load → List Step → List Response
whole_responses l steps = brought_from response_taken (design_of l) (first_state l) steps

-- the bank of a tile; one without an entry and without a request where there is no such tile
abbrev pub bank_at : Core → ℕ → BankState
bank_at c b = (tile_at c.state b).bank

-- the requests of a list that come from processor p
abbrev pub requests_from : ℕ → List Request → List Request
requests_from p rs = filter (λ r. r.source == p) rs

-- the responses of a list that go to processor p
abbrev pub responses_to : ℕ → List Response → List Response
responses_to p rs = filter (λ r. r.destination == p) rs

-- Packets are delivered in order: between each two tiles and of both classes, those that the
-- receiver has whole are a beginning of those that the sender has sent there: none is invented,
-- doubled, mixed or overtaken (Dally and Towles, chapter 13). A processor has sent one request for
-- each operation that it has issued, in that order, and has whole one response for each of its
-- answers, in that order. A bank has whole the request of each of its entries, and the one that
-- waits; it has sent the response to each of its entries, but for the last where that one's head is
-- still to put.
pub record DeliversInOrder (l : Load) (steps : List Step) (c : Core) : Type 0 where
  pub issued : (p : ℕ) → p < tiles_of l.shape
      → map (asked_operation (tiles_of l.shape)) (requests_from p (sent_requests l steps))
      ≡ list_at (shown c).issued p
  pub answered : (p : ℕ) → p < tiles_of l.shape
      → map notice_of (responses_to p (whole_responses l steps))
      ≡ map (notice_by p) (list_at (shown c).answers p)
  pub requests : (p b : ℕ)
      → IsPrefix (requests_from p (requests_whole (tiles_of l.shape) b (bank_at c b)))
      (requests_between p b (sent_requests l steps))
  pub responses : (b p : ℕ) → p < tiles_of l.shape
      → IsPrefix (responses_between b p (whole_responses l steps))
      (responses_between b p (responses_sent b (bank_at c b)))
