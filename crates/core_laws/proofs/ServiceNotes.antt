-- What is noted of the requests, once one is served.
use Rattle.std.proofs.Common.{◌≡◌, ◌≢◌, ⊎_elim, ℕ, ◌+◌, ◌*◌, ◌/◌, ◌<◌, ◌==◌, Bool, true, false, cond, List, [], ◌∷◌, ◌++◌, length, Some, refl, sym, ◌∙◌, ap}
use Rattle.std.proofs.Common.{ap₂}
use Rattle.std.proofs.Common.{arith, append_assoc, eq-eqb}
use Rattle.std.specs.Prelude.{remove, ◌&&◌}
use Rattle.std.proofs.lemmas.Bool.{cases_eq, ne_eqb}
use Rattle.std.proofs.lemmas.List.{map-append}
use Rattle.std.proofs.lemmas.List.Elements.{filter-append}
use Rattle.std.proofs.lemmas.Nat.{div-mul-add}
use Rattle.torus.specs.Shape.{tiles_of}
use Rattle.packet.specs.declared.kinds.Request.{Request as Asking}
use Rattle.packet.specs.declared.kinds.Reply.{Reply as Answering}
use Rattle.home_bank.specs.declared.entry.Entry.{Entry}
use Rattle.home_bank.specs.ServiceList.{entry_of}
use Rattle.home_bank.specs.BankTable.{BankState}
use Rattle.one_order.specs.Observed.{list_at}
use Rattle.one_order.specs.Order.{LinearizationPoint}
use Rattle.one_order.specs.Flight.{Serves, is_asked_alike, asked_place, IsFound}
use Rattle.one_order.proofs.FirstPlaces.{first_removed}
use Rattle.wormhole.specs.Net.{IsNet}
use Rattle.tile.specs.Tile.{Design}
use Rattle.core_laws.specs.Core.{State}
use Rattle.core_laws.proofs.Projection.{net_of}
use Rattle.core_laws.proofs.TileMoves.{IsHere}
use Rattle.core_laws.proofs.ServesFound.{serves_found, waiting_first}
use Rattle.core_laws.proofs.ResponseLists.{filter_removed}
use Rattle.core_laws.proofs.Stands.{Ghost, Stands, tile_at, flight_of, asked_between, served_requests, request_of_entry}

module _ (d : Design) (net : IsNet (net_of d)) (tags : ℕ) (opening : List ℕ) (s : State) (g : Ghost) (order : List LinearizationPoint)
    (st : Stands d tags opening s g order)
    (t : ℕ) (t_in : t < tiles_of d.shape) (r : Asking) (waits : (tile_at s t).bank.waiting ≡ Some r) where
  abbrev tiles : ℕ
  tiles = tiles_of d.shape

  abbrev b : BankState
  b = (tile_at s t).bank

  abbrev left_asked : List Asking
  left_asked = remove g.asked (asked_place g.asked r)

  found : IsFound (length opening) (flight_of d.words s g) (Serves r) × IsHere tiles d.words t (Serves r)
  found = serves_found d net tags opening s g order st t r waits

  here : r.destination ≡ t
  here = found.1.0

  -- what is asked and not served of another pair
  asked_other : (p c : ℕ) → (r.source == p && r.destination == c) ≡ false → asked_between p c left_asked ≡ asked_between p c g.asked
  asked_other p c fails = filter_removed _ g.asked (asked_place g.asked r) r found.0 fails

  and_no : (x y : Bool) → y ≡ false → (x && y) ≡ false
  and_no true y h = h
  and_no false y h = refl

  -- what a processor has asked of another bank is what that has served, and what is left
  pub asked_elsewhere : (p c : ℕ) → p < tiles_of d.shape → c < tiles_of d.shape → c ≢ t → asked_between p c (list_at g.requests p)
      ≡ asked_between p c (served_requests tiles c (tile_at s c).bank.entries) ++ asked_between p c left_asked
  asked_elsewhere p c p_in c_in other =
      let fails : (r.source == p && r.destination == c) ≡ false =
      and_no (r.source == p) (r.destination == c) (ne_eqb r.destination c (λ f. other (sym f ∙ here))) in
      st.carries.asked p c p_in c_in
      ∙ ap (λ (xs : List Asking). asked_between p c (served_requests tiles c (tile_at s c).bank.entries) ++ xs) (sym (asked_other p c fails))

  -- of what a processor had asked of the bank, the request that is served is the first, where it is the processor's
  left : (p : ℕ) → asked_between p t g.asked ≡ asked_between p t (r ∷ []) ++ asked_between p t left_asked
  left p = ⊎_elim
      (λ (k : p ≡ r.source).
      let F : List Asking → List Asking = asked_between p t in
      let first = waiting_first d net tags opening s g order st r (st.carries.waiting_proper t r waits).0
      (ap (λ (k : ℕ). (tile_at s k).bank.waiting) here ∙ waits) in
      let both : F ≡ asked_between r.source r.destination = ap₂ asked_between k (sym here) in
      let own : asked_between r.source r.destination (r ∷ []) ≡ r ∷ [] =
      ap₂ (λ (x y : Bool). cond (x && y) (r ∷ []) []) (eq-eqb r.source r.source refl) (eq-eqb r.destination r.destination refl) in
      let gone : asked_between r.source r.destination left_asked ≡ first.0 = first_removed (is_asked_alike r) g.asked r first.0 first.1 in
      ap (λ (G : List Asking → List Asking). G g.asked) both
      ∙ (first.1 ∙ (ap₂ (λ (xs ys : List Asking). xs ++ ys) (sym own) (sym gone)
      ∙ ap (λ (G : List Asking → List Asking). G (r ∷ []) ++ G left_asked) (sym both))))
      (λ (k : p ≢ r.source).
      let unlike : (r.source == p) ≡ false = ne_eqb r.source p (λ f. k (sym f)) in
      let fails : (r.source == p && r.destination == t) ≡ false = ap (λ (x : Bool). x && (r.destination == t)) unlike in
      ap₂ (λ (xs ys : List Asking). xs ++ ys) (sym (ap (λ (x : Bool). cond x (r ∷ []) []) fails)) (sym (asked_other p t fails)))
      (cases_eq p r.source)

  module _ (reply : Answering) where
    abbrev e : Entry
    e = entry_of t tiles r reply

    -- the request of the new entry is the one that waited
    entry_is : request_of_entry tiles t e ≡ r
    entry_is =
        let word : (t + r.word * tiles) / tiles ≡ r.word =
        ap (λ (k : ℕ). k / tiles) (let z : t + r.word * tiles ≡ r.word * tiles + t = omega arith in z) ∙ div-mul-add r.word tiles t t_in in
        ap₂ (λ (x y : ℕ). record { destination = x; source = r.source; tag = r.tag; word = y; op = r.op }) (sym here) word

    pub served_push : served_requests tiles t (b.entries ++ e ∷ []) ≡ served_requests tiles t b.entries ++ r ∷ []
    served_push = map-append (request_of_entry tiles t) b.entries (e ∷ []) ∙ ap (λ (x : Asking). served_requests tiles t b.entries ++ x ∷ []) entry_is

    -- what a processor has asked of the bank is what that has served, the request with it, and what is left
    pub asked_here : (p : ℕ) → p < tiles_of d.shape → asked_between p t (list_at g.requests p)
        ≡ asked_between p t (served_requests tiles t (b.entries ++ e ∷ [])) ++ asked_between p t left_asked
    asked_here p p_in =
        let F : List Asking → List Asking = asked_between p t in
        st.carries.asked p t p_in t_in ∙ (ap (λ (xs : List Asking). F (served_requests tiles t b.entries) ++ xs) (left p)
        ∙ (sym (append_assoc (F (served_requests tiles t b.entries)) (F (r ∷ [])) (F left_asked))
        ∙ ap (λ (xs : List Asking). xs ++ F left_asked) (sym (filter-append _ (served_requests tiles t b.entries) (r ∷ [])) ∙ ap F (sym served_push))))
