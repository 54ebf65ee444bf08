-- The state as if the scripts asked no more, all had reported, and all credits were back.
use Rattle.std.proofs.Common.{◌≡◌, ℕ, ◌+◌, zero, suc, true, List, [], ◌∷◌, map, Some, None, sym, ap, ◌∙◌, refl, arith, subst, slice_get, slice_index_or}
use Rattle.std.proofs.lemmas.Option.{same_Some}
use Rattle.std.proofs.lemmas.List.{length-map}
use Rattle.flit_buffer.specs.Places.{Ring}
use Rattle.flit_buffer.specs.Surroundings.{Surroundings, ring}
use Rattle.wormhole.specs.Net.{Net}
use Rattle.wormhole.specs.State.{NetLine as Lane, NetState}
use Rattle.wormhole.specs.Words.{Words}
use Rattle.wormhole.specs.Routes.{Routes}
use Rattle.one_order.specs.Following.{Following}
use Rattle.one_order.specs.ProcessorRecord.{ProcessorRecord}
use Rattle.home_bank.specs.BankTable.{BankState}
use Rattle.tile.specs.Tile.{Design, TileState}
use Rattle.core_laws.specs.Core.{State}
use Rattle.core_laws.proofs.Stands.{Ghost, Mirrors, Carries, IsLane, tile_at, no_tile}

-- the follower as if its script asked no more
abbrev pub calm_following : Following → Following
calm_following f = record { ahead = []; spin = None; issued = f.issued; waiting = f.waiting; last = f.last }

abbrev pub calm_record : ProcessorRecord → ProcessorRecord
calm_record b = record { following = calm_following b.following; tags = b.tags; issued = b.issued; answers = b.answers }

abbrev pub calm_tile : TileState → TileState
calm_tile t = record {
  processor = record {
    operations = calm_record t.processor.operations;
    to_put = t.processor.to_put;
    so_far = t.processor.so_far;
    reported = true;
    seen = true;
  };
  router = t.router;
  bank = t.bank;
}

-- the channel as if all credits were back
abbrev calm_ring : Ring → Ring
calm_ring r = record {
  channel = record { flits = r.channel.flits; held = r.channel.held + r.channel.returning; returning = 0 };
  front = r.front;
}

abbrev pub calm_around : Surroundings → Surroundings
calm_around a = record { rings = map calm_ring a.rings; words = a.words }

abbrev pub calm : State → State
calm s = record { tiles = map calm_tile s.tiles; around = calm_around s.around }

abbrev calm_line : Lane → Lane
calm_line l = record {
  flits = l.flits;
  held = l.held + l.returning;
  returning = 0;
  latch = l.latch;
  owner = l.owner;
  rest = l.rest;
  so_far = l.so_far;
}

abbrev pub calm_net : NetState → NetState
calm_net n = record { lines = λ x. calm_line (n.lines x); notes = n.notes }

abbrev pub calm_ghost : Ghost → Ghost
calm_ghost g = record g { net = calm_net g.net }

-- what the channels and tiles of the calm state are
pub calm_ring_at : (rings : List Ring) (x : ℕ) → ring (map calm_ring rings) x ≡ calm_ring (ring rings x)
calm_ring_at [] x = refl
calm_ring_at (r ∷ rings) zero = refl
calm_ring_at (r ∷ rings) (suc x) = calm_ring_at rings x

part_at : {A : Type 0} (h : TileState → A) → ((u : TileState) → h (calm_tile u) ≡ h u) → (tiles : List TileState) (t : ℕ)
    → h (slice_index_or (map calm_tile tiles) t no_tile) ≡ h (slice_index_or tiles t no_tile)
part_at h same [] t = refl
part_at h same (u ∷ tiles) zero = same u
part_at h same (u ∷ tiles) (suc t) = part_at h same tiles t

pub tile_there : (tiles : List TileState) (t : ℕ) (v : TileState) → slice_get (map calm_tile tiles) t ≡ Some v
    → (u : TileState) × (slice_get tiles t ≡ Some u) × (v ≡ calm_tile u)
tile_there [] t v h = absurd (cc)
tile_there (u ∷ tiles) zero v h = (u, refl, sym (same_Some (calm_tile u) v h))
tile_there (u ∷ tiles) (suc t) v h = tile_there tiles t v h

module _ (n : Net) (s : NetState) (words : Words n s) (routes : Routes n s) where
  pub calm_words : Words n (calm_net s)
  calm_words = record {
    credits = λ x. let all = words.credits x in omega (arith, all);
    contiguous = words.contiguous;
    parcels = words.parcels;
    awaited = words.awaited;
    owed = words.owed;
    held = λ x y o. let h = words.held x y o in record { input = h.input; output = h.output; same = h.same; more = h.more };
    free = words.free;
    single = words.single;
    owning = words.owning;
    inside = record { owner = words.inside.owner; owned = words.inside.owned };
    senders = words.senders;
    unlatched = words.unlatched;
    assembling = words.assembling;
  }

  pub calm_routes : Routes n (calm_net s)
  calm_routes = record { on_route = routes.on_route; rising = routes.rising; sent = routes.sent; begun = routes.begun; flow = routes.flow }

module _ (d : Design) (s : State) where
  router_is : (t : ℕ) → (tile_at (calm s) t).router ≡ (tile_at s t).router
  router_is t = part_at (λ (u : TileState). u.router) (λ u. refl) s.tiles t

  bank_is : (t : ℕ) → (tile_at (calm s) t).bank ≡ (tile_at s t).bank
  bank_is t = part_at (λ (u : TileState). u.bank) (λ u. refl) s.tiles t

  to_put_is : (t : ℕ) → (tile_at (calm s) t).processor.to_put ≡ (tile_at s t).processor.to_put
  to_put_is t = part_at (λ (u : TileState). u.processor.to_put) (λ u. refl) s.tiles t

  so_far_is : (t : ℕ) → (tile_at (calm s) t).processor.so_far ≡ (tile_at s t).processor.so_far
  so_far_is t = part_at (λ (u : TileState). u.processor.so_far) (λ u. refl) s.tiles t

  issued_is : (t : ℕ) → (tile_at (calm s) t).processor.operations.issued ≡ (tile_at s t).processor.operations.issued
  issued_is t = part_at (λ (u : TileState). u.processor.operations.issued) (λ u. refl) s.tiles t

  answers_is : (t : ℕ) → (tile_at (calm s) t).processor.operations.answers ≡ (tile_at s t).processor.operations.answers
  answers_is t = part_at (λ (u : TileState). u.processor.operations.answers) (λ u. refl) s.tiles t

  pub tags_is : (t : ℕ) → (tile_at (calm s) t).processor.operations.tags ≡ (tile_at s t).processor.operations.tags
  tags_is t = part_at (λ (u : TileState). u.processor.operations.tags) (λ u. refl) s.tiles t

  pub calm_mirrors : (lines : ℕ → Lane) → Mirrors d s lines → Mirrors d (calm s) (λ x. calm_line (lines x))
  calm_mirrors lines m = record {
    count = length-map s.around.rings calm_ring ∙ m.count;
    rings = λ x low. let old = m.rings x low in
        subst (λ (r : Ring). IsLane r.channel (calm_line (lines x))) (sym (calm_ring_at s.around.rings x))
        (record { flits = old.flits; held = let a = old.held in let b = old.returning in omega (arith, a, b); returning = refl });
    ports = λ t h. let k = router_is t in rw k (m.ports t h);
    latches = λ t i h low. let k = router_is t in rw k (m.latches t i h low);
    owners = λ t i o h low port. let k = router_is t in rw k (m.owners t i o h low port);
    unowned = λ t o h low none. let k = router_is t in m.unowned t o h low (λ i owns. none i (rw k owns));
    outputs = λ t i o h owns. let k = router_is t in m.outputs t i o h (rw (sym k) owns);
    sends_requests = λ t h. m.sends_requests t h ∙ sym (to_put_is t);
    sends_replies = λ t h. let k = bank_is t in rw k (m.sends_replies t h);
    takes_replies = λ t h. m.takes_replies t h ∙ sym (so_far_is t);
    takes_requests = λ t h. let k = bank_is t in rw k (m.takes_requests t h);
  }

  pub calm_carries : (g : Ghost) → Carries d s g → Carries d (calm s) (calm_ghost g)
  calm_carries g c = record {
    processors = c.processors;
    takers = c.takers;
    requests_sent = c.requests_sent;
    requests_proper = c.requests_proper;
    requests_whole = λ b h. let k = bank_is b in rw k (c.requests_whole b h);
    waiting_proper = λ b r waits. c.waiting_proper b r (sym (ap (λ (x : BankState). x.waiting) (bank_is b)) ∙ waits);
    asked = λ p b h low. let k = bank_is b in rw k (c.asked p b h low);
    replies_sent = λ b h. let k = bank_is b in rw k (c.replies_sent b h);
    replies_proper = λ b h. let k = bank_is b in rw k (c.replies_proper b h);
    replies_whole = c.replies_whole;
    told = λ b p h low. let k = bank_is b in rw k (c.told b p h low);
    issued = λ p. c.issued p ∙ sym (issued_is p);
    answered = λ p. let k = answers_is p in rw k (c.answered p);
  }
