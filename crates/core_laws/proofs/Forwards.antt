-- A router puts a flit of an input on an output, whichever flit it is: what becomes of the lines and the notes of
-- both channels, and of who owns the outputs.
use Rattle.std.proofs.Common.{◌≡◌, ◌≢◌, ◌↔◌, ⊎_elim, ℕ, ◌<◌, Bool, true, false, List, Option, Some, None, refl, sym, ◌∙◌, ap, ap₂, subst}
use Rattle.std.proofs.Common.{slice_set, get_or-set_same, get_or-set_other, if◌then◌else◌}
use Rattle.std.proofs.lemmas.Bool.{cases_eq}
use Rattle.torus.specs.Shape.{tiles_of, dims_of}
use Rattle.channel_number.specs.Ports.{port_count, input_channel, output_channel}
use Rattle.packet.specs.Flits.{is_tail}
use Rattle.one_order.specs.Order.{LinearizationPoint}
use Rattle.wormhole.specs.Net.{Net}
use Rattle.wormhole.specs.State.{NetLine as Lane, Note, update}
use Rattle.wormhole.specs.Events.{forwarded}
use Rattle.wormhole.specs.Delivery.{whole, whole_of}
use Rattle.wormhole.proofs.Changes.{update_same, update_other}
use Rattle.router.specs.Table.{RouterState, output_owned}
use Rattle.tile.specs.Tile.{Design}
use Rattle.core_laws.specs.Core.{State}
use Rattle.core_laws.proofs.Projection.{net_of}
use Rattle.core_laws.proofs.ChannelFacts.{is_tail_of}
use Rattle.core_laws.proofs.WiredUp.{IsWiredUp, owner_after, owner_same, owner_only, owner_none}
use Rattle.core_laws.proofs.Stands.{Ghost, Stands, tile_at}

-- a flit of input i of the router of tile t, and the output o on which it is put
pub record Put (d : Design) (tags : ℕ) (opening : List ℕ) (s : State) (g : Ghost) (order : List LinearizationPoint) : Type 0 where
  pub wired : IsWiredUp d
  pub st : Stands d tags opening s g order
  pub t : ℕ
  pub t_in : t < tiles_of d.shape
  pub i : ℕ
  pub i_in : i < port_count (dims_of d.shape)
  pub flit : ℕ
  pub o : ℕ
  pub o_in : o < port_count (dims_of d.shape)
  pub apart : input_channel d.shape t i ≢ output_channel d.shape t o

module _ {d : Design} {tags : ℕ} {opening : List ℕ} {s : State} {g : Ghost} {order : List LinearizationPoint} (put : Put d tags opening s g order) where
  abbrev pub n : Net
  n = net_of d

  abbrev pub x : ℕ
  x = input_channel d.shape put.t put.i

  abbrev pub y : ℕ
  y = output_channel d.shape put.t put.o

  abbrev pub r : RouterState
  r = (tile_at s put.t).router

  abbrev pub left : List (Option ℕ)
  left = slice_set r.owned put.i (if is_tail put.flit then None else Some put.o)

  abbrev pub line_x : Lane
  line_x = record (g.net.lines x) { latch = None }

  abbrev pub line_y : Lane
  line_y = forwarded n x put.flit (g.net.lines y)

  abbrev pub lines : ℕ → Lane
  lines = update (update g.net.lines x line_x) y line_y

  pub at_y : lines y ≡ line_y
  at_y = update_same (update g.net.lines x line_x) y line_y

  pub at_x : lines x ≡ line_x
  at_x = update_other (update g.net.lines x line_x) y line_y x put.apart ∙ update_same g.net.lines x line_x

  -- a part of the lines that stays at the input stays at all but the output
  pub line_but : {A : Type 0} (f : Lane → A) → f line_x ≡ f (g.net.lines x) → (z : ℕ) → z ≢ y → f (lines z) ≡ f (g.net.lines z)
  line_but f same z b = ⊎_elim
      (λ (e : z ≡ x). ap (λ (w : ℕ). f (lines w)) e ∙ (ap f at_x ∙ (same ∙ ap (λ (w : ℕ). f (g.net.lines w)) (sym e))))
      (λ (a : z ≢ x). ap f (update_other (update g.net.lines x line_x) y line_y z b ∙ update_other g.net.lines x line_x z a))
      (cases_eq z x)

  -- one that stays at the output stays at all but the input
  pub line_other : {A : Type 0} (f : Lane → A) → f line_y ≡ f (g.net.lines y) → (z : ℕ) → z ≢ x → f (lines z) ≡ f (g.net.lines z)
  line_other f same z a = ⊎_elim
      (λ (e : z ≡ y). ap (λ (w : ℕ). f (lines w)) e ∙ (ap f at_y ∙ (same ∙ ap (λ (w : ℕ). f (g.net.lines w)) (sym e))))
      (λ (b : z ≢ y). ap f (update_other (update g.net.lines x line_x) y line_y z b ∙ update_other g.net.lines x line_x z a))
      (cases_eq z y)

  -- one that stays at both stays at all
  pub line_kept : {A : Type 0} (f : Lane → A) → f line_x ≡ f (g.net.lines x) → f line_y ≡ f (g.net.lines y) → (z : ℕ) → f (lines z) ≡ f (g.net.lines z)
  line_kept f same too z = ⊎_elim
      (λ (e : z ≡ y). ap (λ (w : ℕ). f (lines w)) e ∙ (ap f at_y ∙ (too ∙ ap (λ (w : ℕ). f (g.net.lines w)) (sym e))))
      (λ (b : z ≢ y). line_but f same z b)
      (cases_eq z y)

  -- what is noted of the two channels
  module _ (note_x note_y : Note) where
    abbrev pub notes : ℕ → Note
    notes = update (update g.net.notes x note_x) y note_y

    -- a part of the notes that stays at the output stays at all but the input
    note_other : {A : Type 0} (f : Note → A) → f note_y ≡ f (g.net.notes y) → (z : ℕ) → z ≢ x → f (notes z) ≡ f (g.net.notes z)
    note_other f same z a = ⊎_elim
        (λ (e : z ≡ y). ap (λ (w : ℕ). f (notes w)) e
        ∙ (ap f (update_same (update g.net.notes x note_x) y note_y) ∙ (same ∙ ap (λ (w : ℕ). f (g.net.notes w)) (sym e))))
        (λ (b : z ≢ y). ap f (update_other (update g.net.notes x note_x) y note_y z b ∙ update_other g.net.notes x note_x z a))
        (cases_eq z y)

    pub sent_kept : note_x.sent ≡ (g.net.notes x).sent → note_y.sent ≡ (g.net.notes y).sent → (z : ℕ) → (notes z).sent ≡ (g.net.notes z).sent
    sent_kept left_x left_y z = ⊎_elim
        (λ (e : z ≡ x).
        ap (λ (w : ℕ). (notes w).sent) e
        ∙ (ap (λ (k : Note). k.sent) (update_other (update g.net.notes x note_x) y note_y x put.apart ∙ update_same g.net.notes x note_x)
        ∙ (left_x ∙ ap (λ (w : ℕ). (g.net.notes w).sent) (sym e))))
        (λ (a : z ≢ x). note_other (λ (k : Note). k.sent) left_y z a)
        (cases_eq z x)

    pub wholes_kept : n.ejects x ≡ false → note_y.awaited ≡ (g.net.notes y).awaited → note_y.begun ≡ (g.net.notes y).begun
        → (z : ℕ) → n.ejects z ≡ true → whole_of (notes z).awaited (notes z).begun ≡ whole g.net z
    wholes_kept input awaited begun z ejects =
        let other : z ≢ x = λ e. let no : ◌≡◌ {A = Bool} true false = sym ejects ∙ (ap n.ejects e ∙ input) in cc in
        ap₂ whole_of (note_other (λ (k : Note). k.awaited) awaited z other) (note_other (λ (k : Note). k.begun) begun z other)

  -- who owns the output after the put, and what the inputs own
  owner : (lines y).owner ≡ owner_after (is_tail put.flit) x
  owner = ap (λ (l : Lane). l.owner) at_y ∙ ap (λ (b : Bool). owner_after b x) (is_tail_of d put.flit)

  owner_else : (p : ℕ) → p < port_count (dims_of d.shape) → p ≢ put.o
      → (lines (output_channel d.shape put.t p)).owner ≡ (g.net.lines (output_channel d.shape put.t p)).owner
  owner_else p p_in b = line_but (λ (l : Lane). l.owner) refl (output_channel d.shape put.t p) (λ h. b (put.wired.outputs_apart put.t p put.t put.o put.t_in p_in put.t_in put.o_in h).1)

  abbrev pub new : RouterState
  new = record r { owned = left }

  owned_here : output_owned new put.i ≡ owner_after (is_tail put.flit) put.o
  owned_here = get_or-set_same r.owned put.i (owner_after (is_tail put.flit) put.o) None (subst (λ (m : ℕ). put.i < m) (sym (put.st.mirrors.ports put.t put.t_in).1) put.i_in)

  owned_else : (j : ℕ) → j ≢ put.i → output_owned new j ≡ output_owned r j
  owned_else j other = get_or-set_other r.owned put.i j (owner_after (is_tail put.flit) put.o) None other

  -- no other input owns the output, and the input no other output
  module _ (alone : (j : ℕ) → j < port_count (dims_of d.shape) → j ≢ put.i → output_owned r j ≡ Some put.o → ⊥)
      (only : (p : ℕ) → p < port_count (dims_of d.shape) → p ≢ put.o → (g.net.lines (output_channel d.shape put.t p)).owner ≡ Some x → ⊥) where
    owners_here : (j : ℕ) → j < port_count (dims_of d.shape) → ((lines y).owner ≡ Some (input_channel d.shape put.t j)) ↔ (output_owned new j ≡ Some put.o)
    owners_here j j_in = ⊎_elim
        (λ (e : j ≡ put.i).
        let iff = owner_same (is_tail put.flit) x put.o in (
          λ h. ap (output_owned new) e ∙ (owned_here ∙ iff.0 (sym owner ∙ (h ∙ ap (λ (k : ℕ). Some (input_channel d.shape put.t k)) e))),
          λ h. owner ∙ (iff.1 (sym owned_here ∙ (ap (output_owned new) (sym e) ∙ h)) ∙ ap (λ (k : ℕ). Some (input_channel d.shape put.t k)) (sym e)),
        ))
        (λ (other : j ≢ put.i). (
          λ h. absurd (other (sym (put.wired.inputs_apart put.t put.i put.t j put.t_in put.i_in put.t_in j_in (owner_only (is_tail put.flit) x (input_channel d.shape put.t j) (sym owner ∙ h))).1)),
          λ h. absurd (alone j j_in other (sym (owned_else j other) ∙ h)),
        ))
        (cases_eq j put.i)

    owners_else : (j p : ℕ) → j < port_count (dims_of d.shape) → p < port_count (dims_of d.shape) → p ≢ put.o
        → ((g.net.lines (output_channel d.shape put.t p)).owner ≡ Some (input_channel d.shape put.t j)) ↔ (output_owned new j ≡ Some p)
    owners_else j p j_in p_in other = ⊎_elim
        (λ (e : j ≡ put.i). (
          λ h. absurd (only p p_in other (h ∙ ap (λ (k : ℕ). Some (input_channel d.shape put.t k)) e)),
          λ h. absurd (other (sym (owner_only (is_tail put.flit) put.o p (sym owned_here ∙ (ap (output_owned new) (sym e) ∙ h))))),
        ))
        (λ (a : j ≢ put.i).
        let old = put.st.mirrors.owners put.t j p put.t_in j_in p_in in
        (λ h. owned_else j a ∙ old.0 h, λ h. old.1 (sym (owned_else j a) ∙ h)))
        (cases_eq j put.i)

    pub owners_new : (j p : ℕ) → j < port_count (dims_of d.shape) → p < port_count (dims_of d.shape)
        → ((lines (output_channel d.shape put.t p)).owner ≡ Some (input_channel d.shape put.t j)) ↔ (output_owned new j ≡ Some p)
    owners_new j p j_in p_in = ⊎_elim
        (λ (e : p ≡ put.o). subst (λ (q : ℕ). ((lines (output_channel d.shape put.t q)).owner ≡ Some (input_channel d.shape put.t j)) ↔ (output_owned new j ≡ Some q)) (sym e)
        (owners_here j j_in))
        (λ (b : p ≢ put.o).
        let line = owner_else p p_in b in
        let iff = owners_else j p j_in p_in b in
        (λ h. iff.0 (sym line ∙ h), λ h. line ∙ iff.1 h))
        (cases_eq p put.o)

    pub unowned_new : (p : ℕ) → p < port_count (dims_of d.shape) → ((j : ℕ) → output_owned new j ≡ Some p → ⊥) → (lines (output_channel d.shape put.t p)).owner ≡ None
    unowned_new p p_in none = ⊎_elim
        (λ (e : p ≡ put.o). ap (λ (q : ℕ). (lines (output_channel d.shape put.t q)).owner) e
        ∙ (owner ∙ owner_none (is_tail put.flit) x put.o (λ h. none put.i (owned_here ∙ (h ∙ ap Some (sym e))))))
        (λ (b : p ≢ put.o).
        owner_else p p_in b ∙ put.st.mirrors.unowned put.t p put.t_in p_in (λ j h. ⊎_elim
        (λ (k : j ≡ put.i). only p p_in b ((put.st.mirrors.owners put.t put.i p put.t_in put.i_in p_in).1 (ap (output_owned r) (sym k) ∙ h)))
        (λ (a : j ≢ put.i). none j (owned_else j a ∙ h))
        (cases_eq j put.i)))
        (cases_eq p put.o)

    pub outputs_new : (j p : ℕ) → output_owned new j ≡ Some p → p < port_count (dims_of d.shape)
    outputs_new j p h = ⊎_elim
        (λ (e : j ≡ put.i). subst (λ (q : ℕ). q < port_count (dims_of d.shape)) (owner_only (is_tail put.flit) put.o p (sym owned_here ∙ (ap (output_owned new) (sym e) ∙ h)))
        put.o_in)
        (λ (a : j ≢ put.i). put.st.mirrors.outputs put.t j p put.t_in (sym (owned_else j a) ∙ h))
        (cases_eq j put.i)
