-- The requests that are ready and the responses to what waits are proper packets of the machine.
use Rattle.std.proofs.Common.{◌≡◌, ℕ, zero, suc, ◌*◌, ◌^◌, ◌<◌, ◌≤◌, List, [], ◌∷◌, length, map, Some, None, refl, ap, subst, arith, slice_get, slice_index}
use Rattle.std.proofs.Common.{slice_index_or}
use Rattle.std.proofs.lemmas.Nat.{mod_below}
use Rattle.std.proofs.lemmas.Option.{slice_get_within}
use Rattle.std.proofs.Math.Nat.{div-le_self}
use Rattle.torus.specs.Shape.{tiles_of}
use Rattle.packet.specs.declared.kinds.Operation.{Operation}
use Rattle.packet.specs.declared.kinds.Packet.TheVariants as packet
use Rattle.packet.specs.declared.kinds.Request.{Request as Asking}
use Rattle.packet.specs.Memory.{reply_to}
use Rattle.packet.specs.Spelling.{values_of_op}
use Rattle.packet.proofs.Spelled.{IsSpellable-spelled, IsOfWords-spelled}
use Rattle.home_bank.specs.ServiceList.{address_of, response_of}
use Rattle.one_order.specs.Observed.{list_at, total}
use Rattle.one_order.specs.Order.{LinearizationPoint}
use Rattle.one_order.specs.ProcessorRecord.{ProcessorRecord, no_processor, ready, request_of}
use Rattle.one_order.specs.Flight.{Flight, show}
use Rattle.one_order.proofs.Counts.{total_within}
use Rattle.one_order.proofs.Parts.{list_at_map, issued_at, tags_at}
use Rattle.packet.specs.Flits.{flits_of}
use Rattle.tile.specs.Tile.{Design, TileState}
use Rattle.core_laws.specs.Core.{State}
use Rattle.core_laws.proofs.FlightSteps.{record_in, entries_in}
use Rattle.core_laws.proofs.Parcels.{spells}
use Rattle.core_laws.proofs.SendFacts.{ready_parts}
use Rattle.packet.proofs.Words.{Below, reply_stays}
use Rattle.core_laws.proofs.ValueBounds.{reply_fits}
use Rattle.core_laws.proofs.Followed.{next_inside}
use Rattle.core_laws.proofs.Values.{IsLimited, HasValues}
use Rattle.core_laws.proofs.Stands.{Ghost, Stands, IsProperRequest, IsProperResponse, tile_at, no_tile, flight_of}

pub record_here : (xs : List TileState) (p : ℕ) → slice_index_or (map record_in xs) p no_processor ≡ (slice_index_or xs p no_tile).processor.operations
record_here [] p = refl
record_here (x ∷ xs) zero = refl
record_here (x ∷ xs) (suc p) = record_here xs p

total_at_most : {A : Type 0} (xss : List (List A)) → ((p : ℕ) → length (list_at xss p) ≤ 4096) → total xss ≤ length xss * 4096
total_at_most [] h = omega arith
total_at_most (xs ∷ xss) h = omega (arith, h 0, total_at_most xss (λ p. h (suc p)))

module _ (d : Design) (tags : ℕ) (limits : IsLimited d tags) (opening : List ℕ) (s : State) (g : Ghost) (order : List LinearizationPoint)
    (st : Stands d tags opening s g order) (h : HasValues d s) where
  abbrev f : Flight
  f = flight_of d.words s g

  pub issued_few : (p : ℕ) → length (list_at (show f).issued p) ≤ 4096
  issued_few p =
      let same : slice_index_or (map record_in s.tiles) p no_processor ≡ (tile_at s p).processor.operations = record_here s.tiles p in
      let count = (h.tiles p).followed.count in
      let counted = st.flight.followed p in
      let led = ap (λ (b : ProcessorRecord). b.following.issued) same in
      omega (arith, ap length (issued_at f p), counted, led, count)

  -- a bank has few entries
  pub entries_few : (t : ℕ) → length (tile_at s t).bank.entries < 2 ^ 32
  entries_few t =
      let all = total_at_most (show f).issued issued_few in
      let processors = st.flight.account.shown.processors in
      let few = limits.shape.tiles in
      let asked = st.flight.counted.asked in
      let within = total_within (show f).entries t in
      let here : list_at (show f).entries t ≡ (tile_at s t).bank.entries = list_at_map entries_in no_tile refl s.tiles t in
      let len = ap length here in
      omega (arith, all, processors, few, asked, within, len)

  -- a tag that is free is one of at most 16
  pub tag_few : (t tag : ℕ) → t < tiles_of d.shape → slice_get (tile_at s t).processor.operations.tags tag ≡ Some None → tag < 16
  tag_few t tag t_in free =
      let same = ap (λ (b : ProcessorRecord). length b.tags) (record_here s.tiles t) in
      let within = slice_get_within (tile_at s t).processor.operations.tags tag None free in
      let count = st.flight.tag_counts t t_in in
      let there = ap length (tags_at f t) in
      let few = limits.few_tags in
      omega (arith, same, within, count, there, few)

  -- The request of the operation that is ready is a proper one, of a word of the memory.
  pub ready_proper : (t tag : ℕ) (o : Operation) → t < tiles_of d.shape → ready (tile_at s t).processor.operations ≡ Some (tag, o)
      → IsProperRequest d (request_of (tiles_of d.shape) t tag o) × (o.address < length opening)
  ready_proper t tag o t_in is_ready =
      let parts = ready_parts (tile_at s t).processor.operations tag o is_ready in
      let inside = next_inside d.words 4096 (tile_at s t).processor.operations.following o (h.tiles t).followed parts.0 in
      let some : 0 < tiles_of d.shape = omega (arith, t_in) in
      let home = mod_below o.address (tiles_of d.shape) some in
      let few = limits.shape.tiles in
      let low = div-le_self o.address (tiles_of d.shape) in
      let words = limits.few_words in
      let tag_in = tag_few t tag t_in parts.1 in (
        record {
          spelled = spells (packet.Request (request_of (tiles_of d.shape) t tag o))
              (record { destination = omega (arith, home, few); source = omega (arith, t_in, few); tag = tag_in; sound = tt })
              (record { place = omega (arith, low, inside.0, words); values = inside.1 });
          source = t_in;
          destination = home;
        },
        subst (λ (k : ℕ). o.address < k) st.words inside.0,
      )

  -- what a request that waits asks is of 64-bit values
  pub waiting_values : (t : ℕ) (r : Asking) → (tile_at s t).bank.waiting ≡ Some r → Below (values_of_op r.op)
  waiting_values t r waits = (IsOfWords-spelled (packet.Request r) (flits_of (packet.Request r)) (st.carries.waiting_proper t r waits).0.spelled).values

  -- The response to the request that waits is a proper one.
  pub reply_proper : (t : ℕ) (r : Asking) → t < tiles_of d.shape → (tile_at s t).bank.waiting ≡ Some r
      → IsProperResponse d (response_of t (length (tile_at s t).bank.entries) r
      (reply_to r.op (slice_index s.around.words (address_of t (tiles_of d.shape) r.word))))
  reply_proper t r t_in waits =
      let proper = (st.carries.waiting_proper t r waits).0 in
      let asked = IsSpellable-spelled (packet.Request r) (flits_of (packet.Request r)) proper.spelled in
      let w : ℕ = slice_index s.around.words (address_of t (tiles_of d.shape) r.word) in
      let few = limits.shape.tiles in
      record {
        spelled = spells (packet.Response (response_of t (length (tile_at s t).bank.entries) r (reply_to r.op w)))
            (record { destination = asked.source; source = omega (arith, t_in, few); tag = asked.tag; sound = reply_fits r.op w })
            (record { place = entries_few t; values = reply_stays r.op w (h.words (address_of t (tiles_of d.shape) r.word)) });
        source = t_in;
        destination = proper.source;
      }
