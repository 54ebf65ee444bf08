-- In every state that stands, what each end has whole is a beginning of what was sent to it, and answers come in turn.
use Rattle.std.proofs.Common.{◌≡◌, ◌≢◌, ⊎_elim, ℕ, zero, suc, ◌+◌, ◌<◌, ◌≤◌, ◌==◌, Bool, true, false, cond, List, [], ◌∷◌, ◌++◌, map, length, Option, Some}
use Rattle.std.proofs.Common.{None, All, refl, sym, ◌∙◌, ap, ap₂, subst, arith, slice_index_or, append_assoc, eq-eqb, length-append}
use Rattle.std.specs.Prelude.{◌&&◌, option_to_list}
use Rattle.std.proofs.lemmas.Bool.{cases_eq, ne_eqb}
use Rattle.std.proofs.lemmas.List.{map-append, append_cancel_right, length-map}
use Rattle.std.proofs.lemmas.List.Elements.{filter-append, All-nil, All-cons, All-head, All-tail}
use Rattle.std.proofs.lemmas.Option.{slice_get_within, get_or_from_slice_get}
use Rattle.torus.specs.Shape.{tiles_of}
use Rattle.torus.specs.declared.shape.Class.TheVariants.{Reply}
use Rattle.packet.specs.declared.kinds.Request.{Request as Asking}
use Rattle.packet.specs.declared.kinds.Response.{Response as Telling}
use Rattle.one_order.specs.Observed.{list_at}
use Rattle.one_order.specs.Order.{LinearizationPoint}
use Rattle.wormhole.specs.Net.{IsNet, Parcel}
use Rattle.wormhole.specs.Routes.{between}
use Rattle.wormhole.specs.Delivery.{IsPrefix, without_last}
use Rattle.wormhole.proofs.Arrivals.{delivered}
use Rattle.one_order.specs.ProcessorRecord.{ProcessorRecord, no_processor}
use Rattle.core_laws.specs.Heads.{carries_route}
use Rattle.home_bank.specs.BankTable.{BankState}
use Rattle.channel_number.specs.Ports.{injection_channel, ejection_channel}
use Rattle.tile.specs.Tile.{Design, TileState}
use Rattle.core_laws.specs.Core.{State}
use Rattle.core_laws.specs.Delivery.{notice_by, requests_between, responses_between, requests_whole, responses_sent, next_flit, DeliversPackets}
use Rattle.core_laws.proofs.Projection.{net_of, response_parcel, first_flit}
use Rattle.core_laws.proofs.FlightSteps.{record_in}
use Rattle.core_laws.proofs.Parcels.{between_responses}
use Rattle.core_laws.proofs.ChannelFacts.{joined}
use Rattle.core_laws.proofs.ResponseLists.{made_from}
use Rattle.core_laws.proofs.ServesFound.{waiting_first}
use Rattle.core_laws.proofs.Stands.{Ghost, Stands, IsProperRequest, tile_at, no_tile, asked_between, told_between, served_requests, responses_from, last_of}

-- of two ways to cut a list, the one with the shorter first part
begins_short : {A : Type 0} (xs ys zs ws : List A) → xs ++ ys ≡ zs ++ ws → length zs ≤ length xs → IsPrefix zs xs
begins_short xs ys [] ws h short = (xs, refl)
begins_short [] ys (z ∷ zs) ws h short = absurd (omega arith)
begins_short {A} (x ∷ xs) ys (z ∷ zs) ws h short =
    let rest : xs ++ ys ≡ zs ++ ws = cc in
    let first : x ≡ z = cc in
    let more = begins_short xs ys zs ws rest (omega arith) in
    (more.0, ap₂ (λ (a : A) (rest : List A). a ∷ rest) first more.1)

made_last : (rs : List Telling) → without_last rs ++ last_of rs ≡ rs
made_last [] = refl
made_last (r ∷ []) = refl
made_last (r ∷ q ∷ rs) = ap (λ (xs : List Telling). r ∷ xs) (made_last (q ∷ rs))

map_map : {A B C : Type 0} (f : B → C) (g : A → B) (xs : List A) → map f (map g xs) ≡ map (λ a. f (g a)) xs
map_map f g [] = refl
map_map f g (x ∷ xs) = ap (λ ys. f (g x) ∷ ys) (map_map f g xs)

all_so : {X : Type 0} (P Q : X → Type 0) → ((x : X) → P x → Q x) → (xs : List X) → All P xs → All Q xs
all_so P Q f [] h = All-nil Q
all_so P Q f (x ∷ xs) h = All-cons Q x xs (f x (All-head P x xs h)) (all_so P Q f xs (All-tail P x xs h))

and_true : (a b : Bool) → b ≡ true → (a && b) ≡ a
and_true true b h = h
and_true false b h = refl

and_false : (a b : Bool) → a ≡ false → (a && b) ≡ false
and_false a b h = ap (λ (x : Bool). x && b) h

-- what is shown of a tile's record
shown_at : {B : Type 0} (h : ProcessorRecord → List B) → h no_processor ≡ [] → (tiles : List TileState) (p : ℕ)
    → list_at (map h (map record_in tiles)) p ≡ h (slice_index_or tiles p no_tile).processor.operations
shown_at h none [] p = sym none
shown_at h none (tile ∷ tiles) zero = refl
shown_at h none (tile ∷ tiles) (suc p) = shown_at h none tiles p

module _ (d : Design) (tags : ℕ) (opening : List ℕ) (s : State) (g : Ghost) (order : List LinearizationPoint) (st : Stands d tags opening s g order) where
  module _ (net : IsNet (net_of d)) where
    -- the requests that wait at a bank are the first of those asked of it
    waiting_begins : (p b : ℕ) (o : Option Asking) → (tile_at s b).bank.waiting ≡ o
        → (more : List Asking) × (asked_between p b g.asked ≡ asked_between p b (option_to_list o) ++ more)
    waiting_begins p b None is = (asked_between p b g.asked, refl)
    waiting_begins p b (Some r) is =
        let proper = st.carries.waiting_proper b r is in
        ⊎_elim
        (λ (e : r.source ≡ p).
        let first = waiting_first d net tags opening s g order st r proper.0 (ap (λ (k : ℕ). (tile_at s k).bank.waiting) proper.1 ∙ is) in
        let own : asked_between r.source r.destination (r ∷ []) ≡ r ∷ [] =
        ap₂ (λ (x y : Bool). cond (x && y) (r ∷ []) []) (eq-eqb r.source r.source refl) (eq-eqb r.destination r.destination refl) in
        let both : asked_between r.source r.destination ≡ asked_between p b = ap₂ asked_between e proper.1 in (
          first.0,
          ap (λ (G : List Asking → List Asking). G g.asked) (sym both)
              ∙ (first.1 ∙ (ap (λ (xs : List Asking). xs ++ first.0) (sym own) ∙ ap (λ (G : List Asking → List Asking). G (r ∷ []) ++ first.0) both)),
        ))
        (λ (other : r.source ≢ p).
        let fails : (r.source == p && r.destination == b) ≡ false = and_false (r.source == p) (r.destination == b) (ne_eqb r.source p other) in
        let none : asked_between p b (r ∷ []) ≡ [] = ap (λ (x : Bool). cond x (r ∷ []) []) fails in
        (asked_between p b g.asked, ap (λ (xs : List Asking). xs ++ asked_between p b g.asked) (sym none)))
        (cases_eq r.source p)

    requests_begin : (p b : ℕ) → p < tiles_of d.shape → b < tiles_of d.shape
        → IsPrefix (requests_between p b (requests_whole (tiles_of d.shape) b (tile_at s b).bank)) (requests_between p b (list_at g.requests p))
    requests_begin p b p_in b_in =
        let F : List Asking → List Asking = asked_between p b in
        let served : List Asking = served_requests (tiles_of d.shape) b (tile_at s b).bank.entries in
        let waits : List Asking = option_to_list (tile_at s b).bank.waiting in
        let w = waiting_begins p b (tile_at s b).bank.waiting refl in (
          w.0,
          st.carries.asked p b p_in b_in ∙ (ap (λ (xs : List Asking). F served ++ xs) w.1
              ∙ (sym (append_assoc (F served) (F waits) w.0) ∙ ap (λ (xs : List Asking). xs ++ w.0) (sym (filter-append _ served waits)))),
        )

    sent_begins : (b p : ℕ) → b < tiles_of d.shape → p < tiles_of d.shape → (x : Bool) → carries_route (first_flit (tile_at s b).bank.to_put) ≡ x
        → IsPrefix (told_between b p (list_at g.taken p))
        (told_between b p (cond x (without_last (responses_from b 0 (tile_at s b).bank.entries)) (responses_from b 0 (tile_at s b).bank.entries)))
    sent_begins b p b_in p_in false is = (told_between b p g.told, st.carries.told b p b_in p_in)
    sent_begins b p b_in p_in true is =
        let F : List Telling → List Telling = told_between b p in
        let R : Telling → Parcel = response_parcel d.shape in
        let i : ℕ = injection_channel d.shape b Reply in
        let j : ℕ = ejection_channel d.shape p Reply in
        let made : List Telling = responses_from b 0 (tile_at s b).bank.entries in
        let init : List Telling = without_last made in
        let last : List Telling = last_of made in
        let sent : List Parcel = (g.net.notes i).sent in
        let heads : map R init ++ map R last ≡ sent ++ map R last =
        sym (map-append R init last)
        ∙ (ap (map R) (made_last made) ∙ (st.carries.replies_sent b b_in ∙ ap (λ (x : Bool). sent ++ map R (cond x last [])) is)) in
        let put : map R init ≡ sent = append_cancel_right (map R init) sent (map R last) heads in
        let arrives = delivered (net_of d) g.net i j st.routes (joined d b p Reply b_in p_in) in
        let cut : map R (F init) ≡ map R (F (list_at g.taken p)) ++ arrives.0 =
        sym (between_responses d.shape b p init) ∙ (ap (between i j) put ∙ (arrives.1
        ∙ ap (λ (ks : List Parcel). ks ++ arrives.0)
        (ap (between i j) (st.carries.replies_whole p p_in) ∙ between_responses d.shape b p (list_at g.taken p)))) in
        let lengths : length (F init) ≡ length (F (list_at g.taken p)) + length arrives.0 =
        sym (length-map (F init) R)
        ∙ (ap length cut ∙ (length-append (map R (F (list_at g.taken p))) arrives.0
        ∙ ap (λ (k : ℕ). k + length arrives.0) (length-map (F (list_at g.taken p)) R))) in
        begins_short (F init) (F last) (F (list_at g.taken p)) (F g.told)
        (sym (filter-append _ init last) ∙ (ap F (made_last made) ∙ st.carries.told b p b_in p_in)) (omega (arith, lengths))

    responses_begin : (b p : ℕ) → b < tiles_of d.shape → p < tiles_of d.shape
        → IsPrefix (responses_between b p (list_at g.taken p)) (responses_between b p (responses_sent b (tile_at s b).bank))
    responses_begin b p b_in p_in =
        let bank : BankState = (tile_at s b).bank in
        let same : responses_sent b bank
        ≡ cond (carries_route (first_flit bank.to_put)) (without_last (responses_from b 0 bank.entries)) (responses_from b 0 bank.entries) =
        ap (λ (rs : List Telling). cond (carries_route (next_flit bank.to_put)) (without_last rs) rs) (made_from b 0 bank.entries) in
        subst (λ (rs : List Telling). IsPrefix (told_between b p (list_at g.taken p)) (told_between b p rs)) (sym same)
        (sent_begins b p b_in p_in (carries_route (first_flit bank.to_put)) refl)

    -- Packets are delivered in order.
    pub delivers : DeliversPackets d d.words s g.requests g.taken
    delivers = record {
      issued = λ p. st.carries.issued p ∙ sym (shown_at (λ (x : ProcessorRecord). x.issued) refl s.tiles p);
      proper = λ p. all_so (λ (r : Asking). IsProperRequest d r × (r.source ≡ p)) (λ (r : Asking). (r.source ≡ p) × (r.destination < tiles_of d.shape))
          (λ r h. (h.1, h.0.destination)) (list_at g.requests p) (st.carries.requests_proper p);
      answered = λ p. ap (map (notice_by p)) (shown_at (λ (x : ProcessorRecord). x.answers) refl s.tiles p) ∙ st.carries.answered p;
      at_banks = λ p b tile p_in there.
          let is : tile_at s b ≡ tile = get_or_from_slice_get s.tiles b tile no_tile there in
          let within : b < tiles_of d.shape = subst (λ (k : ℕ). b < k) st.tiles (slice_get_within s.tiles b tile there) in
          subst (λ (w : TileState). IsPrefix (requests_between p b (requests_whole (tiles_of d.shape) b w.bank)) (requests_between p b (list_at g.requests p))) is
          (requests_begin p b p_in within);
      at_processors = λ b p tile p_in there.
          let is : tile_at s b ≡ tile = get_or_from_slice_get s.tiles b tile no_tile there in
          let within : b < tiles_of d.shape = subst (λ (k : ℕ). b < k) st.tiles (slice_get_within s.tiles b tile there) in
          subst (λ (w : TileState). IsPrefix (responses_between b p (list_at g.taken p)) (responses_between b p (responses_sent b w.bank))) is
          (responses_begin b p within p_in);
    }
