-- A processor sends a further flit of a request: what holds of every reached state is kept.
use Rattle.std.proofs.Common.{◌≡◌, ◌≢◌, ⊎_elim, ℕ, ◌-◌, ◌<◌, List, [], ◌∷◌, ◌++◌, refl, sym, ◌∙◌, ap, ap₂, subst}
use Rattle.std.proofs.lemmas.Bool.{cases_eq}
use Rattle.torus.specs.Shape.{tiles_of}
use Rattle.torus.specs.declared.shape.Class.{Class}
use Rattle.torus.specs.declared.shape.Class.TheVariants.{Request, Reply}
use Rattle.one_order.specs.Order.{LinearizationPoint}
use Rattle.channel_number.specs.Order.{channel_count}
use Rattle.flit_buffer.specs.Places.{put_in_ring}
use Rattle.flit_buffer.specs.Surroundings.{ring}
use Rattle.flit_buffer.proofs.RingLaws.{put_ring}
use Rattle.wormhole.specs.Net.{IsNet}
use Rattle.wormhole.specs.State.{NetLine as Lane, Note, update}
use Rattle.wormhole.specs.Events.{InjectRest, put}
use Rattle.wormhole.specs.Delivery.{whole_of}
use Rattle.wormhole.proofs.Changes.{update_same, update_other}
use Rattle.channel_number.specs.Ports.{injection_channel}
use Rattle.tile.specs.Tile.{Design, TileState}
use Rattle.core_laws.specs.Core.{State}
use Rattle.core_laws.proofs.Projection.{net_of}
use Rattle.core_laws.proofs.ChannelFacts.{channels_of, injects_at, injection_in}
use Rattle.core_laws.proofs.SendFacts.{injection_tile, injection_class}
use Rattle.core_laws.proofs.Quiet.{quiet_state, quiet_ghost, quiet_new, quiet_other, quiet_part, IsQuietStep, end_mirrors, quiet_stands}
use Rattle.core_laws.proofs.Stands.{Ghost, Stands, tile_at, in_course}

module _ (d : Design) (net : IsNet (net_of d)) (tags : ℕ) (opening : List ℕ) (s : State) (g : Ghost) (order : List LinearizationPoint)
    (st : Stands d tags opening s g order)
    (t : ℕ) (t_in : t < tiles_of d.shape) (flit : ℕ) (more : List ℕ) (course : (tile_at s t).processor.to_put ≡ flit ∷ more) (some : flit ≢ 0)
    (credit : 0 < (ring s.around.rings (injection_channel d.shape t Request)).channel.held) where
  abbrev pub lane : ℕ
  lane = injection_channel d.shape t Request

  pub lane_in : lane < channel_count d.shape
  lane_in = injection_in d.shape t Request t_in

  abbrev pub new_tile : TileState
  new_tile = record (tile_at s t) { processor = record ((tile_at s t).processor) { to_put = more } }

  abbrev new_line : Lane
  new_line = record (put flit (g.net.lines lane)) { rest = more }

  abbrev new_note : Note
  new_note = record (g.net.notes lane) { owed = more }

  line_part : {A : Type 0} (h : Lane → A) → h new_line ≡ h (g.net.lines lane) → (z : ℕ) → h (update g.net.lines lane new_line z) ≡ h (g.net.lines z)
  line_part h same z = ⊎_elim
      (λ (k : z ≡ lane). ap (λ (w : ℕ). h (update g.net.lines lane new_line w)) k
      ∙ (ap h (update_same g.net.lines lane new_line) ∙ (same ∙ ap (λ (w : ℕ). h (g.net.lines w)) (sym k))))
      (λ (other : z ≢ lane). ap h (update_other g.net.lines lane new_line z other))
      (cases_eq z lane)

  note_part : {A : Type 0} (h : Note → A) → h new_note ≡ h (g.net.notes lane) → (z : ℕ) → h (update g.net.notes lane new_note z) ≡ h (g.net.notes z)
  note_part h same z = ⊎_elim
      (λ (k : z ≡ lane). ap (λ (w : ℕ). h (update g.net.notes lane new_note w)) k
      ∙ (ap h (update_same g.net.notes lane new_note) ∙ (same ∙ ap (λ (w : ℕ). h (g.net.notes w)) (sym k))))
      (λ (other : z ≢ lane). ap h (update_other g.net.notes lane new_note z other))
      (cases_eq z lane)

  pub rest_quiet : IsQuietStep d net tags opening s g order st t t_in new_tile lane lane_in (put_in_ring flit) (InjectRest lane flit more)
  rest_quiet =
      let old = st.mirrors.rings lane lane_in in
      let here : update g.net.lines lane new_line lane ≡ new_line = update_same g.net.lines lane new_line in
      record {
        can = record {
          here = subst (λ (k : ℕ). lane < k) (sym (channels_of d)) lane_in;
          injects = injects_at d t Request;
          course = st.mirrors.sends_requests t t_in ∙ course;
          credit = subst (λ (k : ℕ). 0 < k) (sym old.held) credit;
        };
        ring_is = put_ring d.depth (ring s.around.rings lane) (st.rings lane (subst (λ (k : ℕ). lane < k) (sym st.mirrors.count) lane_in)) flit some credit;
        lane = record {
          flits = ap (λ (l : Lane). l.flits) here ∙ ap (λ (fs : List ℕ). fs ++ flit ∷ []) old.flits;
          held = ap (λ (l : Lane). l.held) here ∙ ap (λ (k : ℕ). k - 1) old.held;
          returning = ap (λ (l : Lane). l.returning) here ∙ old.returning;
        };
        others = λ z other. ap (λ (l : Lane). l.flits) (update_other g.net.lines lane new_line z other);
        others_held = λ z other. let same = update_other g.net.lines lane new_line z other in
            (ap (λ (l : Lane). l.held) same, ap (λ (l : Lane). l.returning) same);
        sent = note_part (λ (k : Note). k.sent) refl;
        wholes = λ z ejects. ap₂ whole_of (note_part (λ (k : Note). k.awaited) refl z) (note_part (λ (k : Note). k.begun) refl z);
        operations = refl;
        reported = (refl, refl);
        entries = refl;
        waiting = refl;
        heads = refl;
        phase = st.phases t;
      }

  abbrev after_state : State
  after_state = quiet_state d net tags opening s g order st t t_in new_tile lane lane_in (put_in_ring flit) (InjectRest lane flit more)

  requests_rest : (u : ℕ) → u < tiles_of d.shape
      → (update g.net.lines lane new_line (injection_channel d.shape u Request)).rest ≡ (tile_at after_state u).processor.to_put
  requests_rest u u_in = ⊎_elim
      (λ (k : u ≡ t).
      ap (λ (v : ℕ). (update g.net.lines lane new_line (injection_channel d.shape v Request)).rest) k
      ∙ (ap (λ (l : Lane). l.rest) (update_same g.net.lines lane new_line)
      ∙ (ap (λ (w : TileState). w.processor.to_put)
      (sym (quiet_new d net tags opening s g order st t t_in new_tile lane lane_in (put_in_ring flit) (InjectRest lane flit more)))
      ∙ ap (λ (v : ℕ). (tile_at after_state v).processor.to_put) (sym k))))
      (λ (other : u ≢ t).
      ap (λ (l : Lane). l.rest)
      (update_other g.net.lines lane new_line (injection_channel d.shape u Request) (λ e. other (injection_tile d.shape u t Request Request e)))
      ∙ (st.mirrors.sends_requests u u_in
      ∙ ap (λ (w : TileState). w.processor.to_put)
      (sym (quiet_other d net tags opening s g order st t t_in new_tile lane lane_in (put_in_ring flit) (InjectRest lane flit more) u other))))
      (cases_eq u t)

  tile_part : {A : Type 0} (h : TileState → A) → h new_tile ≡ h (tile_at s t) → (u : ℕ) → h (tile_at after_state u) ≡ h (tile_at s u)
  tile_part h same u = quiet_part d net tags opening s g order st t t_in new_tile lane lane_in (put_in_ring flit) (InjectRest lane flit more) h same u

  -- What holds of every reached state is kept.
  pub rest_stands : Stands d tags opening after_state
      (quiet_ghost d net tags opening s g order st t t_in new_tile lane lane_in (put_in_ring flit) (InjectRest lane flit more)) order
  rest_stands = quiet_stands d net tags opening s g order st t t_in new_tile lane lane_in (put_in_ring flit) (InjectRest lane flit more) rest_quiet
      (end_mirrors d net tags opening s g order st t t_in new_tile lane lane_in (put_in_ring flit) (InjectRest lane flit more) rest_quiet (record {
        router = refl;
        latches = line_part (λ (l : Lane). l.latch) refl;
        owners = line_part (λ (l : Lane). l.owner) refl;
        requests = requests_rest;
        replies = λ u h. ap (λ (l : Lane). l.rest)
            (update_other g.net.lines lane new_line (injection_channel d.shape u Reply)
            (λ e. let no : ◌≡◌ {A = Class} Reply Request = injection_class d.shape u t Reply Request e in cc))
            ∙ (st.mirrors.sends_replies u h ∙ sym (tile_part (λ (w : TileState). in_course w.bank.to_put) refl u));
        replies_in = λ u h. line_part (λ (l : Lane). l.so_far) refl _
            ∙ (st.mirrors.takes_replies u h ∙ sym (tile_part (λ (w : TileState). w.processor.so_far) refl u));
        requests_in = λ u h. line_part (λ (l : Lane). l.so_far) refl _
            ∙ (st.mirrors.takes_requests u h ∙ sym (tile_part (λ (w : TileState). w.bank.so_far) refl u));
      }))
