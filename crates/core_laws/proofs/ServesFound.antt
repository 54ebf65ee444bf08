-- The request that waits at a bank is the first of its source among those asked of the bank.
use Rattle.std.proofs.Common.{◌≡◌, ℕ, ◌<◌, Bool, cond, List, [], ◌∷◌, ◌++◌, map, length, Option, Some, All, refl, sym, ◌∙◌, ap, ap₂, subst, slice_get}
use Rattle.std.proofs.Common.{append_assoc, eq-eqb}
use Rattle.std.specs.Prelude.{◌&&◌, option_to_list}
use Rattle.std.proofs.lemmas.List.{map-append, append_cancel_left}
use Rattle.std.proofs.lemmas.List.Elements.{filter-append, All-filter}
use Rattle.torus.specs.Shape.{tiles_of}
use Rattle.torus.specs.declared.shape.Class.TheVariants.{Request}
use Rattle.packet.specs.declared.kinds.Request.{Request as Asking}
use Rattle.home_bank.specs.ServiceList.{address_of}
use Rattle.one_order.specs.Observed.{list_at}
use Rattle.one_order.specs.Order.{LinearizationPoint}
use Rattle.wormhole.specs.Net.{Net, IsNet, Parcel}
use Rattle.wormhole.specs.Routes.{between}
use Rattle.wormhole.specs.Delivery.{whole}
use Rattle.wormhole.proofs.Lists.{all_on}
use Rattle.wormhole.proofs.Arrivals.{delivered}
use Rattle.one_order.specs.Flight.{Serves, is_asked_alike, asked_place, IsFound}
use Rattle.one_order.proofs.FirstPlaces.{first_there}
use Rattle.one_order.proofs.Whole.{address_is}
use Rattle.channel_number.specs.Ports.{injection_channel, ejection_channel}
use Rattle.tile.specs.Tile.{Design}
use Rattle.core_laws.specs.Core.{State}
use Rattle.core_laws.proofs.Projection.{net_of, request_parcel}
use Rattle.core_laws.proofs.Parcels.{between_requests, one_request}
use Rattle.core_laws.proofs.ChannelFacts.{joined}
use Rattle.core_laws.proofs.TileMoves.{IsHere}
use Rattle.core_laws.proofs.Stands.{Ghost, Stands, IsProperRequest, tile_at, flight_of, asked_between, served_requests}

-- the next of two lists, of which one is a beginning of the other
pub next_of_map : {A B : Type 0} (f : A → B) (before after : List A) (x : A) (rest : List B) → map f (before ++ after) ≡ map f (before ++ x ∷ []) ++ rest
    → map f after ≡ f x ∷ rest
next_of_map f before after x rest h =
    append_cancel_left (map f before) (map f after) (f x ∷ rest)
    (sym (map-append f before after) ∙ (h ∙ (ap (λ ys. ys ++ rest) (map-append f before (x ∷ [])) ∙ append_assoc (map f before) (f x ∷ []) rest)))

-- a list whose map has a first, has one
pub record HasFirst {A B : Type 0} (f : A → B) (xs : List A) (y : B) : Type 0 where
  pub first : A
  pub others : List A
  pub is : xs ≡ first ∷ others
  pub same : f first ≡ y

pub first_of_map : {A B : Type 0} (f : A → B) (xs : List A) (y : B) (ys : List B) → map f xs ≡ y ∷ ys → HasFirst f xs y
first_of_map f [] y ys h = absurd (cc)
first_of_map f (x ∷ xs) y ys h = record { first = x; others = xs; is = refl; same = cc }

own_asked : (r : Asking) → asked_between r.source r.destination (r ∷ []) ≡ r ∷ []
own_asked r = ap₂ (λ (x y : Bool). cond (x && y) (r ∷ []) []) (eq-eqb r.source r.source refl) (eq-eqb r.destination r.destination refl)

module _ (d : Design) (net : IsNet (net_of d)) (tags : ℕ) (opening : List ℕ) (s : State) (g : Ghost) (order : List LinearizationPoint)
    (st : Stands d tags opening s g order) where
  -- the request that waits is the first of its source among those asked of the bank
  pub waiting_first : (r : Asking) → IsProperRequest d r → (tile_at s r.destination).bank.waiting ≡ Some r
      → (more : List Asking) × (asked_between r.source r.destination g.asked ≡ r ∷ more)
  waiting_first r is waits =
      let n : Net = net_of d in
      let P : Asking → Parcel = request_parcel d.shape in
      let p : ℕ = r.source in
      let b : ℕ = r.destination in
      let i : ℕ = injection_channel d.shape p Request in
      let j : ℕ = ejection_channel d.shape b Request in
      let served : List Asking = served_requests (tiles_of d.shape) b (tile_at s b).bank.entries in
      let arrives = delivered n g.net i j st.routes (joined d p b Request is.source is.destination) in
      let took : between i j (whole g.net j) ≡ map P (asked_between p b served ++ r ∷ []) =
      ap (between i j) (st.carries.requests_whole b is.destination ∙ ap (λ (o : Option Asking). map P (served ++ option_to_list o)) waits)
      ∙ (between_requests d.shape p b (served ++ r ∷ [])
      ∙ ap (map P) (filter-append _ served (r ∷ []) ∙ ap (λ (qs : List Asking). asked_between p b served ++ qs) (own_asked r))) in
      let sent : between i j (g.net.notes i).sent ≡ map P (asked_between p b served ++ asked_between p b g.asked) =
      ap (between i j) (st.carries.requests_sent p is.source)
      ∙ (between_requests d.shape p b (list_at g.requests p) ∙ ap (map P) (st.carries.asked p b is.source is.destination)) in
      let left : map P (asked_between p b g.asked) ≡ P r ∷ arrives.0 =
      next_of_map P (asked_between p b served) (asked_between p b g.asked) r arrives.0
      (sym sent ∙ (arrives.1 ∙ ap (λ (ks : List Parcel). ks ++ arrives.0) took)) in
      let f = first_of_map P (asked_between p b g.asked) (P r) arrives.0 left in
      let all : All (λ (q : Asking). IsProperRequest d q × (q.source ≡ p)) (asked_between p b served ++ asked_between p b g.asked) =
      subst (λ (qs : List Asking). All (λ (q : Asking). IsProperRequest d q × (q.source ≡ p)) qs) (st.carries.asked p b is.source is.destination)
      (All-filter _ (λ (q : Asking). IsProperRequest d q × (q.source ≡ p)) (list_at g.requests p) (st.carries.requests_proper p)) in
      let first_proper = all_on (λ (q : Asking). IsProperRequest d q × (q.source ≡ p)) _ f.first all
      (asked_between p b served, f.others, ap (λ (qs : List Asking). asked_between p b served ++ qs) f.is) in
      let same : f.first ≡ r = one_request d.shape f.first r first_proper.0.spelled is.spelled f.same in
      (f.others, f.is ∙ ap (λ (q : Asking). q ∷ f.others) same)

  -- so a bank's service is a move that is found, of this tile and of a word of the memory
  pub serves_found : (b : ℕ) (r : Asking) → (tile_at s b).bank.waiting ≡ Some r
      → IsFound (length opening) (flight_of d.words s g) (Serves r) × IsHere (tiles_of d.shape) d.words b (Serves r)
  serves_found b r waits =
      let is = st.carries.waiting_proper b r waits in
      let first = waiting_first r is.0 (ap (λ (k : ℕ). (tile_at s k).bank.waiting) is.1 ∙ waits) in
      let there : slice_get g.asked (asked_place g.asked r) ≡ Some r = first_there (is_asked_alike r) g.asked r first.0 first.1 in
      let q = st.flight.sound.requests (asked_place g.asked r) r there in
      let below : q.operation.address < length opening = st.flight.account.shown.addresses r.source q.index q.operation q.issued in
      let address : address_of b (tiles_of d.shape) r.word ≡ q.operation.address =
      address_is (tiles_of d.shape) q.operation.address r.word b q.word (q.bank ∙ is.1) in
      (there, (is.1, subst (λ (m : ℕ). address_of b (tiles_of d.shape) r.word < m) (sym st.words) (subst (λ (a : ℕ). a < length opening) (sym address) below)))
