-- An end takes a flit that makes no packet whole: what holds of every reached state is kept.
use Rattle.std.proofs.Common.{◌≡◌, ◌≢◌, ◌⊎◌, inl, inr, ⊎_elim, ℕ, ◌<◌, Bool, true, false, List, [], ◌∷◌, ◌++◌, Option, Some, None, refl, sym, ◌∙◌, ap, subst}
use Rattle.std.proofs.lemmas.Bool.{cases_eq}
use Rattle.torus.specs.Shape.{tiles_of}
use Rattle.torus.specs.declared.shape.Class.{Class}
use Rattle.torus.specs.declared.shape.Class.TheVariants.{Request, Reply}
use Rattle.packet.specs.declared.kinds.Request.{Request as Asking}
use Rattle.one_order.specs.Order.{LinearizationPoint}
use Rattle.channel_number.specs.Order.{channel_count}
use Rattle.flit_buffer.specs.Places.{take_from_ring}
use Rattle.flit_buffer.specs.Surroundings.{ring}
use Rattle.wormhole.specs.Net.{IsNet}
use Rattle.wormhole.specs.State.{NetLine as Lane}
use Rattle.wormhole.specs.Events.{NetEvent}
use Rattle.packet.specs.Flits.{is_tail}
use Rattle.core_laws.specs.Heads.{carries_route}
use Rattle.home_bank.specs.BankTable.{BankState}
use Rattle.channel_number.specs.Ports.{ejection_channel}
use Rattle.tile.specs.Tile.{Design, TileState}
use Rattle.core_laws.specs.Core.{State}
use Rattle.core_laws.proofs.Projection.{net_of, first_flit}
use Rattle.core_laws.proofs.ChannelFacts.{ejection_tile}
use Rattle.core_laws.proofs.Completes.{accepts, sent_kept}
use Rattle.core_laws.proofs.ResponseLists.{no_head}
use Rattle.core_laws.proofs.Accepting.{lane_in as accept_in, new_line as accept_line, ejection_class, may_happen, taken_ring, taken_lane, line_other}
use Rattle.core_laws.proofs.Accepting.{line_kept, so_far_now, none_whole}
use Rattle.core_laws.proofs.Quiet.{quiet_state, quiet_ghost, quiet_new, quiet_other, quiet_part, IsQuietStep, end_mirrors, quiet_stands}
use Rattle.core_laws.proofs.Stands.{Ghost, Stands, IsInPhase, tile_at, in_course}

-- the flits so far at the end that takes the packets of a class
abbrev pub so_far_of : Class → TileState → List ℕ
so_far_of Request w = w.bank.so_far
so_far_of Reply w = w.processor.so_far

pub same_class : (c e : Class) → (c ≡ e) ⊎ (c ≢ e)
same_class Request Request = inl refl
same_class Request Reply = inr (λ h. cc)
same_class Reply Request = inr (λ h. cc)
same_class Reply Reply = inl refl

module _ (d : Design) (net : IsNet (net_of d)) (tags : ℕ) (opening : List ℕ) (s : State) (g : Ghost) (order : List LinearizationPoint)
    (st : Stands d tags opening s g order)
    (t : ℕ) (t_in : t < tiles_of d.shape) (class : Class) (flit : ℕ) (more : List ℕ)
    (first : (ring s.around.rings (ejection_channel d.shape t class)).channel.flits ≡ flit ∷ more)
    (body : is_tail flit ≡ false) (new_tile : TileState) where
  -- the tile has the flit behind those so far, and nothing else has changed there
  pub record IsTaking : Type 0 where
    pub router : new_tile.router ≡ (tile_at s t).router
    pub operations : new_tile.processor.operations ≡ (tile_at s t).processor.operations
    pub reported : (new_tile.processor.reported ≡ (tile_at s t).processor.reported) × (new_tile.processor.seen ≡ (tile_at s t).processor.seen)
    pub requests : new_tile.processor.to_put ≡ (tile_at s t).processor.to_put
    pub entries : new_tile.bank.entries ≡ (tile_at s t).bank.entries
    pub waiting : new_tile.bank.waiting ≡ (tile_at s t).bank.waiting
    pub replies : new_tile.bank.to_put ≡ (tile_at s t).bank.to_put
    pub so_far : so_far_of class new_tile ≡ so_far_of class (tile_at s t) ++ flit ∷ []
    pub others : (e : Class) → e ≢ class → so_far_of e new_tile ≡ so_far_of e (tile_at s t)
    pub phase : IsInPhase t new_tile.bank

  abbrev lane : ℕ
  lane = ejection_channel d.shape t class

  abbrev event : NetEvent
  event = accepts lane flit more (carries_route flit)

  pub lane_in : lane < channel_count d.shape
  lane_in = accept_in d net tags opening s g order st t t_in class flit more first

  abbrev pub more_state : State
  more_state = quiet_state d net tags opening s g order st t t_in new_tile lane lane_in (take_from_ring d.depth) event

  abbrev pub more_ghost : Ghost
  more_ghost = quiet_ghost d net tags opening s g order st t t_in new_tile lane lane_in (take_from_ring d.depth) event

  mirrored : (e : Class) (u : ℕ) → u < tiles_of d.shape → (g.net.lines (ejection_channel d.shape u e)).so_far ≡ so_far_of e (tile_at s u)
  mirrored Request u h = st.mirrors.takes_requests u h
  mirrored Reply u h = st.mirrors.takes_replies u h

  kept_line : {A : Type 0} (f : Lane → A) → f (accept_line d net tags opening s g order st t t_in class flit more first) ≡ f (g.net.lines lane) → (z : ℕ)
      → f (more_ghost.net.lines z) ≡ f (g.net.lines z)
  kept_line f same z = line_kept d net tags opening s g order st t t_in class flit more first f same z

  module _ (i : IsTaking) where
    tile_part : {A : Type 0} (h : TileState → A) → h new_tile ≡ h (tile_at s t) → (u : ℕ) → h (tile_at more_state u) ≡ h (tile_at s u)
    tile_part h same u = quiet_part d net tags opening s g order st t t_in new_tile lane lane_in (take_from_ring d.depth) event h same u

    more_quiet : IsQuietStep d net tags opening s g order st t t_in new_tile lane lane_in (take_from_ring d.depth) event
    more_quiet = record {
      can = may_happen d net tags opening s g order st t t_in class flit more first;
      ring_is = taken_ring d net tags opening s g order st t t_in class flit more first;
      lane = taken_lane d net tags opening s g order st t t_in class flit more first;
      others = λ z other. ap (λ (l : Lane). l.flits) (line_other d net tags opening s g order st t t_in class flit more first z other);
      others_held = λ z other. let same = line_other d net tags opening s g order st t t_in class flit more first z other in
          (ap (λ (l : Lane). l.held) same, ap (λ (l : Lane). l.returning) same);
      sent = sent_kept (net_of d) g.net lane flit more (carries_route flit);
      wholes = none_whole d net tags opening s g order st t t_in class flit more first body;
      operations = i.operations;
      reported = i.reported;
      entries = i.entries;
      waiting = i.waiting;
      heads = ap (λ (xs : List ℕ). carries_route (first_flit xs)) i.replies;
      phase = i.phase;
    }

    so_far_end : (e : Class) (u : ℕ) → u < tiles_of d.shape → (more_ghost.net.lines (ejection_channel d.shape u e)).so_far ≡ so_far_of e (tile_at more_state u)
    so_far_end e u h = ⊎_elim
        (λ (k : e ≡ class). subst (λ (c : Class). (more_ghost.net.lines (ejection_channel d.shape u c)).so_far ≡ so_far_of c (tile_at more_state u)) (sym k)
        (⊎_elim
        (λ (l : u ≡ t). subst (λ (v : ℕ). (more_ghost.net.lines (ejection_channel d.shape v class)).so_far ≡ so_far_of class (tile_at more_state v)) (sym l)
        (so_far_now d net tags opening s g order st t t_in class flit more first false body
        ∙ (ap (λ (xs : List ℕ). xs ++ flit ∷ []) (mirrored class t t_in)
        ∙ (sym i.so_far ∙ ap (so_far_of class) (sym (quiet_new d net tags opening s g order st t t_in new_tile lane lane_in (take_from_ring d.depth) event))))))
        (λ (other : u ≢ t).
        ap (λ (l : Lane). l.so_far)
        (line_other d net tags opening s g order st t t_in class flit more first (ejection_channel d.shape u class)
        (λ f. other (ejection_tile d.shape u t class class f)))
        ∙ (mirrored class u h ∙ ap (so_far_of class)
        (sym (quiet_other d net tags opening s g order st t t_in new_tile lane lane_in (take_from_ring d.depth) event u other))))
        (cases_eq u t)))
        (λ (apart : e ≢ class).
        ap (λ (l : Lane). l.so_far)
        (line_other d net tags opening s g order st t t_in class flit more first (ejection_channel d.shape u e)
        (λ f. apart (ejection_class d.shape u t e class f)))
        ∙ (mirrored e u h ∙ sym (tile_part (so_far_of e) (i.others e apart) u)))
        (same_class e class)

    -- What holds of every reached state is kept.
    pub more_stands : Stands d tags opening more_state more_ghost order
    more_stands = quiet_stands d net tags opening s g order st t t_in new_tile lane lane_in (take_from_ring d.depth) event more_quiet
        (end_mirrors d net tags opening s g order st t t_in new_tile lane lane_in (take_from_ring d.depth) event more_quiet (record {
          router = i.router;
          latches = kept_line (λ (l : Lane). l.latch) refl;
          owners = kept_line (λ (l : Lane). l.owner) refl;
          requests = λ u h. kept_line (λ (l : Lane). l.rest) refl _
              ∙ (st.mirrors.sends_requests u h ∙ sym (tile_part (λ (w : TileState). w.processor.to_put) i.requests u));
          replies = λ u h. kept_line (λ (l : Lane). l.rest) refl _
              ∙ (st.mirrors.sends_replies u h ∙ sym (tile_part (λ (w : TileState). in_course w.bank.to_put) (ap in_course i.replies) u));
          replies_in = so_far_end Reply;
          requests_in = so_far_end Request;
        }))

-- a bank with nothing waiting and nothing to put, and some flits so far
pub taking_phase : (t : ℕ) (b : BankState) → b.waiting ≡ None → b.to_put ≡ [] → IsInPhase t b
taking_phase t b none idle = record {
  waits = λ r h. let no : ◌≡◌ {A = Option Asking} None (Some r) = sym none ∙ h in cc;
  replies = λ h. absurd (h idle);
  fresh = λ h. let no : ◌≡◌ {A = Bool} true false = sym h ∙ (ap (λ (xs : List ℕ). carries_route (first_flit xs)) idle ∙ no_head) in cc;
}

module _ (d : Design) (net : IsNet (net_of d)) (tags : ℕ) (opening : List ℕ) (s : State) (g : Ghost) (order : List LinearizationPoint)
    (st : Stands d tags opening s g order)
    (t : ℕ) (t_in : t < tiles_of d.shape) (flit : ℕ) (more : List ℕ) (body : is_tail flit ≡ false) where
  abbrev pub processor_tile : TileState
  processor_tile = record (tile_at s t) { processor = record ((tile_at s t).processor) { so_far = (tile_at s t).processor.so_far ++ flit ∷ [] } }

  abbrev pub bank_tile : TileState
  bank_tile = record (tile_at s t) { bank = record ((tile_at s t).bank) { so_far = (tile_at s t).bank.so_far ++ flit ∷ [] } }

  pub processor_more : (first : (ring s.around.rings (ejection_channel d.shape t Reply)).channel.flits ≡ flit ∷ more)
      → Stands d tags opening (more_state d net tags opening s g order st t t_in Reply flit more first body processor_tile)
      (more_ghost d net tags opening s g order st t t_in Reply flit more first body processor_tile) order
  processor_more first = more_stands d net tags opening s g order st t t_in Reply flit more first body processor_tile (record {
    router = refl;
    operations = refl;
    reported = (refl, refl);
    requests = refl;
    entries = refl;
    waiting = refl;
    replies = refl;
    so_far = refl;
    others = reply_only;
    phase = st.phases t;
  })
    where
      reply_only : (e : Class) → e ≢ Reply → so_far_of e processor_tile ≡ so_far_of e (tile_at s t)
      reply_only Request h = refl
      reply_only Reply h = absurd (h refl)

  pub bank_more : (first : (ring s.around.rings (ejection_channel d.shape t Request)).channel.flits ≡ flit ∷ more) → (tile_at s t).bank.waiting ≡ None
      → (tile_at s t).bank.to_put ≡ []
      → Stands d tags opening (more_state d net tags opening s g order st t t_in Request flit more first body bank_tile)
      (more_ghost d net tags opening s g order st t t_in Request flit more first body bank_tile) order
  bank_more first none idle = more_stands d net tags opening s g order st t t_in Request flit more first body bank_tile (record {
    router = refl;
    operations = refl;
    reported = (refl, refl);
    requests = refl;
    entries = refl;
    waiting = refl;
    replies = refl;
    so_far = refl;
    others = request_only;
    phase = taking_phase t bank_tile.bank none idle;
  })
    where
      request_only : (e : Class) → e ≢ Request → so_far_of e bank_tile ≡ so_far_of e (tile_at s t)
      request_only Request h = absurd (h refl)
      request_only Reply h = refl
