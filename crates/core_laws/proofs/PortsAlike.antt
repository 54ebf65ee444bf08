-- Two states with the same channels and the same routers: the same choices of routers are asleep.
use Rattle.std.proofs.Common.{◌≡◌, ℕ, List, map, Option, Some, None, refl, sym, ◌∙◌, ap, slice_get}
use Rattle.std.specs.Prelude.{option_map, option_and_then, slice_index, nat_lt}
use Rattle.std.proofs.Common.{if◌then◌else◌}
use Rattle.std.proofs.lemmas.Option.{slice_get-map}
use Rattle.torus.specs.declared.step.Choice.{Choice}
use Rattle.torus.specs.declared.step.Choice.TheVariants as choice
use Rattle.flit_buffer.specs.Channel.{first_of}
use Rattle.flit_buffer.specs.Places.{Ring}
use Rattle.flit_buffer.specs.Surroundings.{Surroundings, Wiring, ring, granted}
use Rattle.flit_buffer.specs.declared.want.Want.{Want}
use Rattle.flit_buffer.specs.declared.want.Want.TheVariants.{Take, Put, Credit, Access, Await}
use Rattle.router.specs.Table.{RouterState, latch_of, router_wants}
use Rattle.router.specs.Beginning.{router_wiring}
use Rattle.core_laws.specs.Tile.{Design, TileState}
use Rattle.core_laws.specs.Core.{State, step}
use Rattle.core_laws.proofs.ChannelWants.{IsOfChannel, router_of_channel}
use Rattle.core_laws.specs.Routers.{of_router, PortFlags, OtherPortsSleep}
use Rattle.core_laws.proofs.RouterMoves.{router_idle}

-- what a router has there, by the list of the routers
by_routers : {X : Type 0} (f : RouterState → Option X) (tiles : List TileState) (t : ℕ)
    → option_and_then (λ (tile : TileState). f tile.router) (slice_get tiles t)
    ≡ option_and_then f (slice_get (map (λ (tile : TileState). tile.router) tiles) t)
by_routers f tiles t =
    by_option (slice_get tiles t) ∙ ap (option_and_then f) (sym (slice_get-map (λ (tile : TileState). tile.router) tiles t))
  where
    by_option : (o : Option TileState) → option_and_then (λ (tile : TileState). f tile.router) o ≡ option_and_then f (option_map (λ (tile : TileState). tile.router) o)
    by_option None = refl
    by_option (Some tile) = refl

-- an end of a channel is granted by the channels alone
granted_same : (a b : Surroundings) (v : Wiring) → a.rings ≡ b.rings → (want : Want) → IsOfChannel want → granted a v want ≡ granted b v want
granted_same a b v e (Take i) h = ap (λ (rs : List Ring). first_of (ring rs (slice_index v.inputs i)).channel.flits) e
granted_same a b v e (Put o flit) h =
    ap (λ (rs : List Ring). if nat_lt 0 (ring rs (slice_index v.outputs o)).channel.held then Some 0 else None) e
granted_same a b v e (Credit o) h =
    ap (λ (rs : List Ring). if nat_lt 0 (ring rs (slice_index v.outputs o)).channel.returning then Some 0 else None) e
granted_same a b v e (Access n op) h = absurd h
granted_same a b v e (Await n value) h = absurd h

module _ (d : Design) (s other : State) (rings : other.around.rings ≡ s.around.rings)
    (routers : map (λ (tile : TileState). tile.router) other.tiles ≡ map (λ (tile : TileState). tile.router) s.tiles) where
  had : {X : Type 0} (t : ℕ) (f : RouterState → Option X)
      → option_and_then (λ (tile : TileState). f tile.router) (slice_get other.tiles t) ≡ option_and_then (λ (tile : TileState). f tile.router) (slice_get s.tiles t)
  had t f =
      by_routers f other.tiles t ∙ (ap (λ (rs : List RouterState). option_and_then f (slice_get rs t)) routers ∙ sym (by_routers f s.tiles t))

  by_want : (t : ℕ) (c : Choice) (tile : TileState) (o : Option Want) → router_wants d.shape t tile.router c ≡ o
      → option_and_then (granted other.around (router_wiring d.shape t)) o ≡ option_and_then (granted s.around (router_wiring d.shape t)) o
  by_want t c tile None e = refl
  by_want t c tile (Some want) e =
      granted_same other.around s.around (router_wiring d.shape t) rings want (router_of_channel d.shape t tile.router c want e)

  by_tile : (t : ℕ) (c : Choice) (o : Option TileState)
      → option_and_then (granted other.around (router_wiring d.shape t)) (option_and_then (λ (tile : TileState). router_wants d.shape t tile.router c) o)
      ≡ option_and_then (granted s.around (router_wiring d.shape t)) (option_and_then (λ (tile : TileState). router_wants d.shape t tile.router c) o)
  by_tile t c None = refl
  by_tile t c (Some tile) = by_want t c tile (router_wants d.shape t tile.router c) refl

  still_idle : (t : ℕ) (c : Choice) → step d s (of_router t c) ≡ None → step d other (of_router t c) ≡ None
  still_idle t c none =
      (router_idle d t other c).1
      (ap (option_and_then (granted other.around (router_wiring d.shape t))) (had t (λ (r : RouterState). router_wants d.shape t r c))
      ∙ (by_tile t c (slice_get s.tiles t) ∙ (router_idle d t s c).0 none))

  pub alike : (f : PortFlags) → OtherPortsSleep d s f → OtherPortsSleep d other f
  alike f sleep = record {
    takes = λ t i out. still_idle t (choice.TakeFrom i) (sleep.takes t i out);
    puts = λ t i out. still_idle t (choice.Put i) (sleep.puts t i out);
    credits = λ t o out. still_idle t (choice.CreditOf o) (sleep.credits t o out);
    full = λ t i out. had t (λ (r : RouterState). latch_of r i) ∙ sleep.full t i out;
  }
