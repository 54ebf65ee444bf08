-- What is noted of the requests, once one more is sent.
use Rattle.std.proofs.Common.{◌≡◌, ◌≢◌, ⊎_elim, ℕ, ◌/◌, ◌%◌, ◌<◌, ◌==◌, Bool, cond, List, [], ◌∷◌, ◌++◌, map, length, All, refl, sym, ◌∙◌, ap, ap₂, subst}
use Rattle.std.proofs.Common.{append_assoc, append-nil}
use Rattle.std.specs.Prelude.{◌&&◌}
use Rattle.std.proofs.lemmas.Bool.{cases_eq, ne_eqb}
use Rattle.std.proofs.lemmas.List.{map-append}
use Rattle.std.proofs.lemmas.List.Elements.{filter-append, All-push}
use Rattle.torus.specs.Shape.{tiles_of}
use Rattle.torus.specs.declared.shape.Class.TheVariants.{Request}
use Rattle.packet.specs.declared.kinds.Operation.{Operation}
use Rattle.packet.specs.declared.kinds.Request.{Request as Asking}
use Rattle.one_order.specs.Observed.{list_at}
use Rattle.one_order.specs.Events.{push_at}
use Rattle.one_order.proofs.Lists.{list_at_push_same, list_at_push_other}
use Rattle.one_order.specs.ProcessorRecord.{request_of}
use Rattle.one_order.proofs.Whole.{address_is}
use Rattle.wormhole.specs.Net.{Parcel}
use Rattle.wormhole.specs.State.{Note}
use Rattle.channel_number.specs.Ports.{injection_channel}
use Rattle.tile.specs.Tile.{Design}
use Rattle.core_laws.specs.Core.{State}
use Rattle.core_laws.specs.Delivery.{asked_operation}
use Rattle.core_laws.proofs.Projection.{request_parcel}
use Rattle.core_laws.proofs.SendFacts.{injection_tile}
use Rattle.core_laws.proofs.Stands.{Ghost, Carries, IsProperRequest, tile_at, asked_between, served_requests}

module _ (d : Design) (s : State) (g : Ghost) (carries : Carries d s g) (t : ℕ) (t_in : t < tiles_of d.shape) (tag : ℕ) (o : Operation) where
  abbrev asks : Asking
  asks = request_of (tiles_of d.shape) t tag o

  abbrev requests : List (List Asking)
  requests = push_at g.requests t asks

  requests_in : t < length g.requests
  requests_in = subst (λ (n : ℕ). t < n) (sym carries.processors) t_in

  pub proper_all : IsProperRequest d asks → (p : ℕ) → All (λ r. IsProperRequest d r × (r.source ≡ p)) (list_at requests p)
  proper_all proper p = ⊎_elim
      (λ (e : p ≡ t). subst (λ (q : ℕ). All (λ r. IsProperRequest d r × (r.source ≡ q)) (list_at requests q)) (sym e)
      (subst (λ (rs : List Asking). All (λ r. IsProperRequest d r × (r.source ≡ t)) rs) (sym (list_at_push_same g.requests t asks requests_in))
      (All-push (λ r. IsProperRequest d r × (r.source ≡ t)) (list_at g.requests t) asks (carries.requests_proper t) (proper, refl))))
      (λ (other : p ≢ t). subst (λ (rs : List Asking). All (λ r. IsProperRequest d r × (r.source ≡ p)) rs) (sym (list_at_push_other g.requests t p asks other))
      (carries.requests_proper p))
      (cases_eq p t)

  pub asked_here : (p b : ℕ) → p < tiles_of d.shape → b < tiles_of d.shape → asked_between p b (list_at requests p)
      ≡ asked_between p b (served_requests (tiles_of d.shape) b (tile_at s b).bank.entries) ++ asked_between p b (g.asked ++ asks ∷ [])
  asked_here p b p_in b_in =
      let F : List Asking → List Asking = asked_between p b in
      let served : List Asking = F (served_requests (tiles_of d.shape) b (tile_at s b).bank.entries) in
      let grown : F (g.asked ++ asks ∷ []) ≡ F g.asked ++ F (asks ∷ []) = filter-append _ g.asked (asks ∷ []) in
      ⊎_elim
      (λ (e : p ≡ t).
      let more : list_at requests p ≡ list_at g.requests p ++ asks ∷ [] =
      ap (list_at requests) e ∙ (list_at_push_same g.requests t asks requests_in ∙ ap (λ (q : ℕ). list_at g.requests q ++ asks ∷ []) (sym e)) in
      ap F more ∙ (filter-append _ (list_at g.requests p) (asks ∷ []) ∙ (ap (λ (qs : List Asking). qs ++ F (asks ∷ [])) (carries.asked p b p_in b_in)
      ∙ (append_assoc served (F g.asked) (F (asks ∷ [])) ∙ ap (λ (qs : List Asking). served ++ qs) (sym grown)))))
      (λ (other : p ≢ t).
      let none : F (asks ∷ []) ≡ [] = ap (λ (x : Bool). cond (x && (asks.destination == b)) (asks ∷ []) []) (ne_eqb t p (λ e. other (sym e))) in
      ap F (list_at_push_other g.requests t p asks other) ∙ (carries.asked p b p_in b_in
      ∙ ap (λ (qs : List Asking). served ++ qs) (sym (append-nil (F g.asked)) ∙ (ap (λ (qs : List Asking). F g.asked ++ qs) (sym none) ∙ sym grown))))
      (cases_eq p t)

  -- a processor has sent the parcels of its requests
  pub sent_all : (notes : ℕ → Note)
      → (notes (injection_channel d.shape t Request)).sent ≡ (g.net.notes (injection_channel d.shape t Request)).sent ++ request_parcel d.shape asks ∷ []
      → ((x : ℕ) → x ≢ injection_channel d.shape t Request → notes x ≡ g.net.notes x)
      → (p : ℕ) → p < tiles_of d.shape → (notes (injection_channel d.shape p Request)).sent ≡ map (request_parcel d.shape) (list_at requests p)
  sent_all notes new old p p_in =
      let P : Asking → Parcel = request_parcel d.shape in
      ⊎_elim
      (λ (e : p ≡ t).
      ap (λ (q : ℕ). (notes (injection_channel d.shape q Request)).sent) e ∙ (new ∙ (ap (λ (ks : List Parcel). ks ++ P asks ∷ []) (carries.requests_sent t t_in)
      ∙ (sym (map-append P (list_at g.requests t) (asks ∷ []))
      ∙ (ap (map P) (sym (list_at_push_same g.requests t asks requests_in)) ∙ ap (λ (q : ℕ). map P (list_at requests q)) (sym e))))))
      (λ (other : p ≢ t).
      ap (λ (k : Note). k.sent) (old (injection_channel d.shape p Request) (λ e. other (injection_tile d.shape p t Request Request e)))
      ∙ (carries.requests_sent p p_in ∙ ap (map P) (sym (list_at_push_other g.requests t p asks other))))
      (cases_eq p t)

  -- the operations of its requests are those that it has issued
  pub issued_all : (issued : ℕ → List Operation) → issued t ≡ (tile_at s t).processor.operations.issued ++ o ∷ []
      → ((p : ℕ) → p ≢ t → issued p ≡ (tile_at s p).processor.operations.issued)
      → (p : ℕ) → map (asked_operation (tiles_of d.shape)) (list_at requests p) ≡ issued p
  issued_all issued new old p =
      let A : Asking → Operation = asked_operation (tiles_of d.shape) in
      let asked_is : A asks ≡ o = ap (λ (a : ℕ). record { address = a; op = o.op })
      (address_is (tiles_of d.shape) o.address (o.address / tiles_of d.shape) (o.address % tiles_of d.shape) refl refl) in
      ⊎_elim
      (λ (e : p ≡ t). subst (λ (v : ℕ). map A (list_at requests v) ≡ issued v) (sym e)
      (ap (map A) (list_at_push_same g.requests t asks requests_in) ∙ (map-append A (list_at g.requests t) (asks ∷ [])
      ∙ (ap₂ (λ (xs : List Operation) (x : Operation). xs ++ x ∷ []) (carries.issued t) asked_is ∙ sym new))))
      (λ (other : p ≢ t). ap (map A) (list_at_push_other g.requests t p asks other) ∙ (carries.issued p ∙ sym (old p other)))
      (cases_eq p t)
