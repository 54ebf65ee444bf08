-- The agents at the ends of a place, and that there are flags for them.
use Rattle.std.proofs.Common.{◌≡◌, ℕ, ◌*◌, ◌/◌, ◌<◌, Bool, List, Option, Some, None, sym, ◌∙◌, ap, subst, arith, slice_index_or, if◌then◌else◌}
use Rattle.std.proofs.lemmas.Nat.{div_below}
use Rattle.std.proofs.lemmas.List.FromFn.{get_or-map-range_with_len}
use Rattle.torus.specs.Shape.{Shape, IsAccepted, IsNeighbour, tiles_of, dims_of, radix_of, digit_of, one_hop}
use Rattle.torus.specs.declared.shape.Class.{Class}
use Rattle.torus.specs.declared.shape.Dir.{Dir}
use Rattle.torus.proofs.Hops.{one_neighbour}
use Rattle.dateline_route.specs.Route.{with_digit}
use Rattle.dateline_route.specs.Walk.{IsInside}
use Rattle.dateline_route.specs.declared.channel.Channel.{Channel}
use Rattle.dateline_route.specs.declared.channel.Kind.{Kind}
use Rattle.dateline_route.specs.declared.channel.Kind.TheVariants.{Injection, Hop, Ejection}
use Rattle.dateline_route.proofs.Neighbours.{hop_is}
use Rattle.channel_number.specs.Order.{channel_at, channel_count}
use Rattle.channel_number.specs.Ports.{is_injection, is_ejection, tile_after, input_port}
use Rattle.channel_number.proofs.Decoding.{decoded}
use Rattle.tile.specs.declared.agent.Agent.TheVariants.{Router}
use Rattle.tile.specs.Agents.{agent_number}
use Rattle.tile.proofs.AgentNumbers.{number_low}
use Rattle.core_laws.specs.Routers.{input_end}
use Rattle.core_laws.specs.Waking.{taker, speaker, receiver_of, sender_of}
use Rattle.machine_parts.specs.Ends.{all_ends, ends_of}
use Rattle.machine_parts.specs.declared.ends.Ends.{Ends}

-- the agent at the far end of a channel of a tile, by its kind
abbrev received_at : Shape → Channel → ℕ
received_at s x = if is_ejection x.kind then agent_number x.tile (taker x.class) else agent_number (tile_after s x.tile x.kind) Router

-- that of a hop
pub received_by_hop : (s : Shape) → IsAccepted s → (index d u : ℕ) (dir : Dir) (bit : Bool) (x : Channel) → x.tile < tiles_of s → d < dims_of s
    → x ≡ channel_at s index → x.kind ≡ Hop d dir bit → IsNeighbour s x.tile d dir u → agent_number u Router ≡ receiver_of s index
received_by_hop s ok index d u dir bit x low inside at is near =
    ap (λ (v : ℕ). agent_number v Router)
    (one_neighbour s ok x.tile d u (with_digit s x.tile d (one_hop dir (radix_of s d) (digit_of s x.tile d))) dir near
    (hop_is s ok x.tile d dir low inside))
    ∙ (ap (λ (k : Kind). received_at s (record { tile = x.tile; class = x.class; kind = k })) (sym is)
    ∙ ap (received_at s) at)

-- the router's end of a hop where it is received
abbrev end_at : Shape → Channel → ℕ → Option (ℕ × ℕ)
end_at s x port = if is_ejection x.kind then None else Some (tile_after s x.tile x.kind, port)

pub end_of_hop : (s : Shape) → IsAccepted s → (index d u port : ℕ) (dir : Dir) (bit : Bool) (x : Channel) → x.tile < tiles_of s → d < dims_of s
    → x ≡ channel_at s index → x.kind ≡ Hop d dir bit → IsNeighbour s x.tile d dir u → port ≡ input_port s index → Some (u, port) ≡ input_end s index
end_of_hop s ok index d u port dir bit x low inside at is near port_is =
    ap (λ (v : ℕ). Some (v, port))
    (one_neighbour s ok x.tile d u (with_digit s x.tile d (one_hop dir (radix_of s d) (digit_of s x.tile d))) dir near
    (hop_is s ok x.tile d dir low inside))
    ∙ (ap (λ (k : Kind). end_at s (record { tile = x.tile; class = x.class; kind = k }) port) (sym is)
    ∙ (ap (λ (y : Channel). end_at s y port) at ∙ ap (end_at s (channel_at s index)) port_is))

-- an agent that is there
module _ (s : Shape) (ok : IsAccepted s) where
  sender_within : (t : ℕ) (class : Class) (kind : Kind) → t < tiles_of s
      → (if is_injection kind then agent_number t (speaker class) else agent_number t Router) < 3 * tiles_of s
  sender_within t class Injection low = number_low t (tiles_of s) (speaker class) low
  sender_within t class (Hop d dir bit) low = number_low t (tiles_of s) Router low
  sender_within t class Ejection low = number_low t (tiles_of s) Router low

  receiver_within : (t : ℕ) (class : Class) (kind : Kind) → t < tiles_of s → IsInside s kind
      → received_at s (record { tile = t; class = class; kind = kind }) < 3 * tiles_of s
  receiver_within t class Ejection low inside = number_low t (tiles_of s) (taker class) low
  receiver_within t class Injection low inside = number_low t (tiles_of s) Router low
  receiver_within t class (Hop d dir bit) low inside = number_low _ (tiles_of s) Router (hop_is s ok t d dir low inside).tile

  pub sender_below : (x : ℕ) → x < channel_count s → sender_of s x < 192
  sender_below x there =
      let c = (decoded s x there).0 in
      let few = ok.tiles in
      let h = sender_within (channel_at s x).tile (channel_at s x).class (channel_at s x).kind c.tile in omega (arith, h, few)

  pub receiver_below : (x : ℕ) → x < channel_count s → receiver_of s x < 192
  receiver_below x there =
      let c = (decoded s x there).0 in
      let few = ok.tiles in
      let h = receiver_within (channel_at s x).tile (channel_at s x).class (channel_at s x).kind c.tile c.kind in omega (arith, h, few)

-- the ends of a place are those of its channel
pub ends_at : (s : Shape) (depth word : ℕ) (ends : List Ends) (e : Ends) → ends ≡ all_ends s depth → word < channel_count s * depth
    → e ≡ slice_index_or ends word e → e ≡ ends_of s (word / depth)
ends_at s depth word ends e is low at =
    at ∙ (ap (λ (xs : List Ends). slice_index_or xs word e) is
    ∙ get_or-map-range_with_len (λ place. ends_of s (place / depth)) 0 (channel_count s * depth) word word e low (omega arith))

pub channel_below : (s : Shape) (depth word : ℕ) → 0 < depth → word < channel_count s * depth → word / depth < channel_count s
channel_below s depth word some low = div_below word depth (channel_count s) some low

-- a hop within the torus is in one of its dimensions
pub inside_of : (s : Shape) (k : Kind) (d : ℕ) (dir : Dir) (bit : Bool) → k ≡ Hop d dir bit → IsInside s k → d < dims_of s
inside_of s k d dir bit is inside = subst (IsInside s) is inside
