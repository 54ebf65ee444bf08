-- What is noted of the responses, once one is taken.
use Rattle.std.proofs.Common.{◌≡◌, ◌≢◌, ⊎_elim, ℕ, ◌<◌, ◌==◌, Bool, true, false, cond, List, [], ◌∷◌, ◌++◌, length, refl, sym, ◌∙◌, ap, ap₂, subst}
use Rattle.std.proofs.Common.{append_assoc, eq-eqb}
use Rattle.std.specs.Prelude.{remove, ◌&&◌}
use Rattle.std.proofs.lemmas.Bool.{cases_eq, ne_eqb}
use Rattle.std.proofs.lemmas.List.Elements.{filter-append}
use Rattle.torus.specs.Shape.{tiles_of}
use Rattle.torus.specs.declared.shape.Class.TheVariants.{Reply}
use Rattle.packet.specs.declared.kinds.Packet.TheVariants as packet
use Rattle.packet.specs.declared.kinds.Response.{Response as Telling}
use Rattle.packet.specs.declared.assembler.Offered.TheVariants.{Whole as Complete}
use Rattle.packet.specs.Flits.{offered}
use Rattle.one_order.specs.Observed.{list_at}
use Rattle.one_order.specs.Order.{LinearizationPoint}
use Rattle.one_order.specs.Events.{push_at}
use Rattle.one_order.proofs.Lists.{list_at_push_same, list_at_push_other}
use Rattle.one_order.specs.Flight.{Takes, is_told_alike, told_place, IsFound}
use Rattle.one_order.proofs.FirstPlaces.{first_removed}
use Rattle.flit_buffer.specs.Surroundings.{ring}
use Rattle.wormhole.specs.Net.{IsNet}
use Rattle.channel_number.specs.Ports.{ejection_channel}
use Rattle.tile.specs.Tile.{Design}
use Rattle.core_laws.specs.Core.{State}
use Rattle.core_laws.proofs.Projection.{net_of}
use Rattle.core_laws.proofs.TakesFound.{takes_found, taken_first}
use Rattle.core_laws.proofs.ResponseLists.{filter_removed}
use Rattle.core_laws.proofs.Stands.{Ghost, Stands, tile_at, flight_of, told_between, responses_from}

module _ (d : Design) (net : IsNet (net_of d)) (tags : ℕ) (opening : List ℕ) (s : State) (g : Ghost) (order : List LinearizationPoint)
    (st : Stands d tags opening s g order)
    (p : ℕ) (p_in : p < tiles_of d.shape) (flit : ℕ) (more : List ℕ)
    (first : (ring s.around.rings (ejection_channel d.shape p Reply)).channel.flits ≡ flit ∷ more)
    (r : Telling) (is_whole : offered (tile_at s p).processor.so_far flit ≡ Complete (packet.Response r)) where
  abbrev taken_now : List (List Telling)
  taken_now = push_at g.taken p r

  abbrev left_told : List Telling
  left_told = remove g.told (told_place g.told r)

  found : IsFound (length opening) (flight_of d.words s g) (Takes r) × (r.destination ≡ p)
  found = takes_found d net tags opening s g order st p p_in flit more first r is_whole

  here : r.destination ≡ p
  here = found.1

  takers_in : p < length g.taken
  takers_in = subst (λ (k : ℕ). p < k) (sym st.carries.takers) p_in

  and_fails : (x y : Bool) → y ≡ false → (x && y) ≡ false
  and_fails true y h = h
  and_fails false y h = refl

  told_other : (b u : ℕ) → (r.source == b && r.destination == u) ≡ false → told_between b u left_told ≡ told_between b u g.told
  told_other b u fails = filter_removed _ g.told (told_place g.told r) r found.0 fails

  -- what a bank has told a processor is what the processor has taken, and what is left
  pub told_left : (b u : ℕ) → b < tiles_of d.shape → u < tiles_of d.shape
      → told_between b u (responses_from b 0 (tile_at s b).bank.entries) ≡ told_between b u (list_at taken_now u) ++ told_between b u left_told
  told_left b u b_in u_in = ⊎_elim
      (λ (h : u ≡ p).
      let F : List Telling → List Telling = told_between b p in
      let left : F g.told ≡ F (r ∷ []) ++ F left_told = ⊎_elim
      (λ (k : b ≡ r.source).
      let t = taken_first d net tags opening s g order st p p_in flit more first r is_whole in
      let both : F ≡ told_between r.source r.destination = ap₂ told_between k (sym here) in
      let was : told_between r.source r.destination g.told ≡ r ∷ t.0 = ap (λ (v : ℕ). told_between r.source v g.told) here ∙ t.1 in
      let own : told_between r.source r.destination (r ∷ []) ≡ r ∷ [] =
      ap₂ (λ (x y : Bool). cond (x && y) (r ∷ []) []) (eq-eqb r.source r.source refl) (eq-eqb r.destination r.destination refl) in
      let gone : told_between r.source r.destination left_told ≡ t.0 = first_removed (is_told_alike r) g.told r t.0 was in
      ap (λ (G : List Telling → List Telling). G g.told) both
      ∙ (was ∙ (ap₂ (λ (xs ys : List Telling). xs ++ ys) (sym own) (sym gone)
      ∙ ap (λ (G : List Telling → List Telling). G (r ∷ []) ++ G left_told) (sym both))))
      (λ (k : b ≢ r.source).
      let fails : (r.source == b && r.destination == p) ≡ false = ap (λ (x : Bool). x && (r.destination == p)) (ne_eqb r.source b (λ f. k (sym f))) in
      ap₂ (λ (xs ys : List Telling). xs ++ ys) (sym (ap (λ (x : Bool). cond x (r ∷ []) []) fails)) (sym (told_other b p fails)))
      (cases_eq b r.source) in
      ap (λ (v : ℕ). told_between b v (responses_from b 0 (tile_at s b).bank.entries)) h
      ∙ (st.carries.told b p b_in p_in ∙ (ap (λ (xs : List Telling). F (list_at g.taken p) ++ xs) left
      ∙ (sym (append_assoc (F (list_at g.taken p)) (F (r ∷ [])) (F left_told))
      ∙ (ap (λ (xs : List Telling). xs ++ F left_told)
      (sym (filter-append _ (list_at g.taken p) (r ∷ [])) ∙ ap F (sym (list_at_push_same g.taken p r takers_in)))
      ∙ ap (λ (v : ℕ). told_between b v (list_at taken_now v) ++ told_between b v left_told) (sym h))))))
      (λ (other : u ≢ p).
      let fails : (r.source == b && r.destination == u) ≡ false =
      and_fails (r.source == b) (r.destination == u) (ne_eqb r.destination u (λ f. other (sym f ∙ here))) in
      st.carries.told b u b_in u_in
      ∙ ap₂ (λ (xs ys : List Telling). told_between b u xs ++ ys) (sym (list_at_push_other g.taken p u r other)) (sym (told_other b u fails)))
      (cases_eq u p)
