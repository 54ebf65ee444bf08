-- What holds of every state that a run reaches.
use Rattle.std.specs.Prelude.{◌≡◌, ◌≢◌, ℕ, ◌+◌, ◌/◌, ◌<◌, ◌==◌, ◌&&◌, true, if◌then◌else◌, List, [], ◌∷◌, ◌++◌, length, map, filter, All, Some}
use Rattle.std.specs.Prelude.{option_to_list, slice_index, count_by}
use Rattle.torus.specs.Shape.{tiles_of}
use Rattle.torus.specs.declared.shape.Class.TheVariants.{Request, Reply}
use Rattle.packet.specs.declared.kinds.Packet.TheVariants as packet
use Rattle.packet.specs.declared.kinds.Request.{Request as Asking}
use Rattle.packet.specs.declared.kinds.Response.{Response as Telling}
use Rattle.packet.specs.Kinds.{code_of}
use Rattle.packet.specs.Spelling.{Spells}
use Rattle.home_bank.specs.declared.entry.Entry.{Entry}
use Rattle.one_order.specs.Following.{is_finished}
use Rattle.one_order.specs.Observed.{list_at}
use Rattle.one_order.specs.Order.{LinearizationPoint}
use Rattle.flit_buffer.specs.Surroundings.{AreRings}
use Rattle.wormhole.specs.Words.{Words}
use Rattle.wormhole.specs.Routes.{Routes}
use Rattle.wormhole.specs.Delivery.{whole}
use Rattle.one_order.proofs.Whole.{Whole}
use Rattle.packet.specs.Flits.{flits_of}
use Rattle.core_laws.specs.Heads.{carries_route}
use Rattle.channel_number.specs.Ports.{injection_channel, ejection_channel}
use Rattle.home_bank.specs.BankTable.{BankState}
use Rattle.tile.specs.Tile.{Design}
use Rattle.core_laws.specs.Core.{State}
use Rattle.core_laws.specs.Delivery.{asked_operation, notice_of, notice_by}
use Rattle.core_laws.proofs.Projection.{net_of, request_parcel, response_parcel, first_flit}
pub use Rattle.core_laws.specs.Noted.{Noted as Ghost, flight_of}
pub use Rattle.core_laws.specs.Mirrors.{no_tile, tile_at, IsLane, in_course, Mirrors}

-- the request that an entry of a bank answered, and the response that it was sent: the place is the entry's
abbrev pub request_of_entry : ℕ → ℕ → Entry → Asking
request_of_entry tiles b e = record { destination = b; source = e.source; tag = e.tag; word = e.address / tiles; op = e.op }

abbrev pub response_of_entry : ℕ → ℕ → Entry → Telling
response_of_entry b place e = record { destination = e.source; source = b; tag = e.tag; place = place; code = code_of e.op; reply = e.reply }

abbrev pub served_requests : ℕ → ℕ → List Entry → List Asking
served_requests tiles b entries = map (request_of_entry tiles b) entries

-- the responses to these entries, the first of which has this place
abbrev pub responses_from : ℕ → ℕ → List Entry → List Telling
responses_from b place [] = []
responses_from b place (e ∷ entries) = response_of_entry b place e ∷ responses_from b (place + 1) entries

-- the last response of a bank, where its head is not put yet
abbrev pub last_of : List Telling → List Telling
last_of [] = []
last_of (r ∷ []) = r ∷ []
last_of (r ∷ q ∷ rs) = last_of (q ∷ rs)

abbrev pub unsent : List ℕ → List Telling → List Telling
unsent to_put responses = if carries_route (first_flit to_put) then last_of responses else []

abbrev pub asked_between : ℕ → ℕ → List Asking → List Asking
asked_between p b rs = filter (λ r. r.source == p && r.destination == b) rs

abbrev pub told_between : ℕ → ℕ → List Telling → List Telling
told_between b p rs = filter (λ r. r.source == b && r.destination == p) rs

-- a request of the machine: it is spelled by its flits, and its tiles are there
pub record IsProperRequest (d : Design) (r : Asking) : Type 0 where
  pub spelled : Spells (packet.Request r) (flits_of (packet.Request r))
  pub source : r.source < tiles_of d.shape
  pub destination : r.destination < tiles_of d.shape

-- a response of the machine, likewise
pub record IsProperResponse (d : Design) (r : Telling) : Type 0 where
  pub spelled : Spells (packet.Response r) (flits_of (packet.Response r))
  pub source : r.source < tiles_of d.shape
  pub destination : r.destination < tiles_of d.shape

-- what the packets that each end has sent and has whole are of the records
pub record Carries (d : Design) (s : State) (g : Ghost) : Type 0 where
  pub processors : length g.requests ≡ tiles_of d.shape
  pub takers : length g.taken ≡ tiles_of d.shape
  -- a processor's requests are in its injection_channel channel, in the order of issue
  pub requests_sent : (p : ℕ) → p < tiles_of d.shape
      → (g.net.notes (injection_channel d.shape p Request)).sent ≡ map (request_parcel d.shape) (list_at g.requests p)
  pub requests_proper : (p : ℕ) → All (λ r. IsProperRequest d r × (r.source ≡ p)) (list_at g.requests p)
  -- a bank has whole the requests that it served, and the one that waits
  pub requests_whole : (b : ℕ) → b < tiles_of d.shape → whole g.net (ejection_channel d.shape b Request)
      ≡ map (request_parcel d.shape) (served_requests (tiles_of d.shape) b (tile_at s b).bank.entries ++ option_to_list (tile_at s b).bank.waiting)
  pub waiting_proper : (b : ℕ) (r : Asking) → (tile_at s b).bank.waiting ≡ Some r → IsProperRequest d r × (r.destination ≡ b)
  -- what a processor asked of a bank is served, or asked and not served, in the order of issue
  pub asked : (p b : ℕ) → p < tiles_of d.shape → b < tiles_of d.shape → asked_between p b (list_at g.requests p)
      ≡ asked_between p b (served_requests (tiles_of d.shape) b (tile_at s b).bank.entries) ++ asked_between p b g.asked
  -- a bank's replies are in its injection_channel channel but for the last one, where its head is not put yet
  pub replies_sent : (b : ℕ) → b < tiles_of d.shape → map (response_parcel d.shape) (responses_from b 0 (tile_at s b).bank.entries)
      ≡ (g.net.notes (injection_channel d.shape b Reply)).sent
      ++ map (response_parcel d.shape) (unsent (tile_at s b).bank.to_put (responses_from b 0 (tile_at s b).bank.entries))
  pub replies_proper : (b : ℕ) → b < tiles_of d.shape → All (λ r. IsProperResponse d r × (r.source ≡ b)) (responses_from b 0 (tile_at s b).bank.entries)
  -- a processor has whole the responses that it has taken
  pub replies_whole : (p : ℕ) → p < tiles_of d.shape → whole g.net (ejection_channel d.shape p Reply) ≡ map (response_parcel d.shape) (list_at g.taken p)
  -- what a bank told a processor is taken, or told and not taken, in the order of the services
  pub told : (b p : ℕ) → b < tiles_of d.shape → p < tiles_of d.shape → told_between b p (responses_from b 0 (tile_at s b).bank.entries)
      ≡ told_between b p (list_at g.taken p) ++ told_between b p g.told
  -- a processor's requests are those of the operations that it has issued
  pub issued : (p : ℕ) → map (asked_operation (tiles_of d.shape)) (list_at g.requests p) ≡ (tile_at s p).processor.operations.issued
  -- a processor's answers are those that its taken responses bring
  pub answered : (p : ℕ) → map (notice_by p) (tile_at s p).processor.operations.answers ≡ map notice_of (list_at g.taken p)

-- at most one of: flits of a request so far, a request that waits, a reply in course; what is put of a reply are the flits of the last entry's
pub record IsInPhase (tile : ℕ) (b : BankState) : Type 0 where
  pub waits : (r : Asking) → b.waiting ≡ Some r → (b.so_far ≡ []) × (b.to_put ≡ [])
  pub replies : b.to_put ≢ [] → b.so_far ≡ []
  pub fresh : carries_route (first_flit b.to_put) ≡ true → map (λ r. flits_of (packet.Response r)) (last_of (responses_from tile 0 b.entries)) ≡ b.to_put ∷ []

-- the done word counts the processors that have reported; only the finished have, and who has seen the end saw all
pub record Reported (d : Design) (s : State) : Type 0 where
  pub counts : slice_index s.around.words d.words ≡ count_by (λ t. t.processor.reported) s.tiles
  pub finished : (t : ℕ) → (tile_at s t).processor.reported ≡ true → is_finished (tile_at s t).processor.operations.following ≡ true
  pub seen : (t : ℕ) → (tile_at s t).processor.seen ≡ true → slice_index s.around.words d.words ≡ tiles_of d.shape

-- A state that a run reaches, with what is noted beside it.
pub record Stands (d : Design) (tags : ℕ) (opening : List ℕ) (s : State) (g : Ghost) (order : List LinearizationPoint) : Type 0 where
  pub tiles : length s.tiles ≡ tiles_of d.shape
  pub size : length s.around.words ≡ d.words + 1
  pub words : d.words ≡ length opening
  pub rings : AreRings d.depth s.around
  pub lines : Words (net_of d) g.net
  pub routes : Routes (net_of d) g.net
  pub mirrors : Mirrors d s g.net.lines
  pub flight : Whole (tiles_of d.shape) tags opening (flight_of d.words s g) order
  pub carries : Carries d s g
  pub phases : (b : ℕ) → IsInPhase b (tile_at s b).bank
  pub reported : Reported d s
