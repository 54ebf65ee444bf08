-- The tiles at the two ends of a channel of a router, by its port.
use Rattle.std.proofs.Common.{◌≡◌, ℕ, ◌+◌, ◌*◌, ◌/◌, ◌%◌, ◌<◌, ◌≤◌, ◌==◌, Bool, true, false, List, get_or, refl, sym, ap, ◌∙◌, subst, arith}
use Rattle.std.specs.Prelude.{if◌then◌else◌, nat_lt, slice_index}
use Rattle.std.proofs.lemmas.Bool.{lt-ltb, le-ltb}
use Rattle.std.proofs.lemmas.Nat.{div_below, div-mul-add, mod-mul-add}
use Rattle.std.proofs.lemmas.List.FromFn.{get_or-map-range_with_len}
use Rattle.torus.specs.Shape.{Shape, IsAccepted, IsNeighbour, tiles_of, dims_of, radix_of, digit_of, one_hop}
use Rattle.torus.specs.declared.shape.Dir.{Dir}
use Rattle.torus.specs.declared.shape.Class.{Class}
use Rattle.torus.specs.declared.step.Choice.TheVariants as choice
use Rattle.torus.proofs.Hops.{one_neighbour}
use Rattle.dateline_route.specs.Route.{with_digit}
use Rattle.dateline_route.specs.declared.channel.Channel.{Channel}
use Rattle.dateline_route.specs.declared.channel.Kind.{Kind}
use Rattle.dateline_route.specs.declared.channel.Kind.TheVariants.{Injection, Hop, Ejection}
use Rattle.dateline_route.proofs.Neighbours.{hop_is}
use Rattle.channel_number.specs.Order.{channel_at, channels_at_tile, dir_at, kind_of_place}
use Rattle.channel_number.specs.Ports.{port_count, input_channel, output_channel, input_router, output_router, hop_source, opposite, tile_after, is_injection, is_ejection}
use Rattle.flit_buffer.specs.Surroundings.{Wiring}
use Rattle.tile.specs.declared.agent.Agent.TheVariants.{Router}
use Rattle.tile.specs.Agents.{agent_number, agent_tile}
use Rattle.tile.proofs.AgentNumbers.{tile_of_number}
use Rattle.core_laws.specs.Waking.{receiver_of, sender_of, taker, speaker, wiring_at}
use Rattle.fabric_rule.specs.Groups.{In}
use Rattle.fabric_rule.specs.Inner.{IsInner}
use Rattle.fabric_rule.proofs.OwnEnds.{wired}

-- whoever sends on a channel, or receives from it, is at the tile that it leaves, or to which it leads
sent_at : (s : Shape) (x : ℕ) → agent_tile (sender_of s x) ≡ output_router s x
sent_at s x = by_kind (channel_at s x).kind
  where
    by_kind : (k : Kind) → agent_tile (if is_injection k then agent_number (channel_at s x).tile (speaker (channel_at s x).class)
        else agent_number (output_router s x) Router) ≡ output_router s x
    by_kind Injection = tile_of_number (output_router s x) (speaker (channel_at s x).class)
    by_kind (Hop d dir bit) = tile_of_number (output_router s x) Router
    by_kind Ejection = tile_of_number (output_router s x) Router

received_at : (s : Shape) (x : ℕ) → agent_tile (receiver_of s x) ≡ input_router s x
received_at s x = by_kind (channel_at s x).kind
  where
    by_kind : (k : Kind) → agent_tile (if is_ejection k then agent_number (channel_at s x).tile (taker (channel_at s x).class)
        else agent_number (tile_after s (channel_at s x).tile k) Router) ≡ tile_after s (channel_at s x).tile k
    by_kind Ejection = tile_of_number (channel_at s x).tile (taker (channel_at s x).class)
    by_kind Injection = tile_of_number (channel_at s x).tile Router
    by_kind (Hop d dir bit) = tile_of_number (tile_after s (channel_at s x).tile (Hop d dir bit)) Router

module _ (s : Shape) (t : ℕ) where
  input_there : (i : ℕ) → i < port_count (dims_of s) → slice_index (wiring_at s (agent_number t Router)).inputs i ≡ input_channel s t i
  input_there i low =
      ap (λ (v : Wiring). slice_index v.inputs i) (wired s t Router)
      ∙ get_or-map-range_with_len (input_channel s t) 0 (port_count (dims_of s)) i i 0 low (omega arith)

  output_there : (o : ℕ) → o < port_count (dims_of s) → slice_index (wiring_at s (agent_number t Router)).outputs o ≡ output_channel s t o
  output_there o low =
      ap (λ (v : Wiring). slice_index v.outputs o) (wired s t Router)
      ∙ get_or-map-range_with_len (output_channel s t) 0 (port_count (dims_of s)) o o 0 low (omega arith)

  module _ (gs : List (List ℕ)) where
    pub take_inside : (i : ℕ) → i < port_count (dims_of s) → In gs (output_router s (input_channel s t i)) → IsInner s gs (agent_number t Router) (choice.TakeFrom i)
    take_inside i low mine = subst (In gs) (sym (ap (λ (x : ℕ). agent_tile (sender_of s x)) (input_there i low) ∙ sent_at s (input_channel s t i))) mine

    pub credit_inside : (o : ℕ) → o < port_count (dims_of s) → In gs (input_router s (output_channel s t o)) → IsInner s gs (agent_number t Router) (choice.CreditOf o)
    credit_inside o low mine = subst (In gs) (sym (ap (λ (x : ℕ). agent_tile (receiver_of s x)) (output_there o low) ∙ received_at s (output_channel s t o))) mine

  -- of a hop it is the neighbour
  pub hop_before : (ok : IsAccepted s) (i u : ℕ) (dir : Dir) → t < tiles_of s → i < 8 * dims_of s → dir ≡ opposite (dir_at (i / 4 % 2)) → IsNeighbour s t (i / 8) dir u
      → u ≡ output_router s (input_channel s t i)
  hop_before ok i u dir low there is near =
      let d : i / 8 < dims_of s = div_below i 8 (dims_of s) (omega arith) (omega (arith, there)) in
      one_neighbour s ok t (i / 8) u (with_digit s t (i / 8) (one_hop dir (radix_of s (i / 8)) (digit_of s t (i / 8)))) dir near (hop_is s ok t (i / 8) dir low d)
      ∙ (ap (λ (z : Dir). with_digit s t (i / 8) (one_hop z (radix_of s (i / 8)) (digit_of s t (i / 8)))) is
      ∙ (sym (div-mul-add (hop_source s t (i / 8) (dir_at (i / 4 % 2))) (channels_at_tile s) i (omega (arith, there)))
      ∙ ap (λ (b : Bool). (if b then hop_source s t (i / 8) (dir_at (i / 4 % 2)) * channels_at_tile s + i else t * channels_at_tile s + i) / channels_at_tile s)
      (sym (lt-ltb i (8 * dims_of s) there))))

  pub own_before : (i : ℕ) → 8 * dims_of s ≤ i → i < port_count (dims_of s) → t ≡ output_router s (input_channel s t i)
  own_before i past low =
      sym (div-mul-add t (channels_at_tile s) i (omega (arith, low)))
      ∙ ap (λ (b : Bool). (if b then hop_source s t (i / 8) (dir_at (i / 4 % 2)) * channels_at_tile s + i else t * channels_at_tile s + i) / channels_at_tile s)
      (sym (le-ltb i (8 * dims_of s) past))

  -- the channel at place k of the tile leads there
  led : (k : ℕ) → k < channels_at_tile s → input_router s (t * channels_at_tile s + k) ≡ tile_after s t (kind_of_place (dims_of s) k)
  led k low =
      ap (λ (u : ℕ). tile_after s u (kind_of_place (dims_of s) ((t * channels_at_tile s + k) % channels_at_tile s))) (div-mul-add t (channels_at_tile s) k low)
      ∙ ap (λ (n : ℕ). tile_after s t (kind_of_place (dims_of s) n)) (mod-mul-add t (channels_at_tile s) k low)

  pub hop_behind : (ok : IsAccepted s) (o u : ℕ) (dir : Dir) → t < tiles_of s → o < 8 * dims_of s → dir ≡ dir_at (o / 4 % 2) → IsNeighbour s t (o / 8) dir u
      → u ≡ input_router s (output_channel s t o)
  hop_behind ok o u dir low there is near =
      let d : o / 8 < dims_of s = div_below o 8 (dims_of s) (omega arith) (omega (arith, there)) in
      one_neighbour s ok t (o / 8) u (with_digit s t (o / 8) (one_hop dir (radix_of s (o / 8)) (digit_of s t (o / 8)))) dir near (hop_is s ok t (o / 8) dir low d)
      ∙ (ap (λ (z : Dir). with_digit s t (o / 8) (one_hop z (radix_of s (o / 8)) (digit_of s t (o / 8)))) is
      ∙ (ap (λ (b : Bool). tile_after s t (if b then Hop (o / 8) (dir_at (o / 4 % 2)) (o % 2 == 1)
      else if nat_lt o (8 * dims_of s + 2) then Injection else Ejection)) (sym (lt-ltb o (8 * dims_of s) there))
      ∙ (sym (led o (omega (arith, there)))
      ∙ ap (λ (b : Bool). input_router s (if b then t * channels_at_tile s + o else t * channels_at_tile s + (o + 2))) (sym (lt-ltb o (8 * dims_of s) there)))))

  no_hop : (k : ℕ) → 8 * dims_of s ≤ k → tile_after s t (kind_of_place (dims_of s) k) ≡ t
  no_hop k past =
      ap (λ (b : Bool). tile_after s t (if b then Hop (k / 8) (dir_at (k / 4 % 2)) (k % 2 == 1) else if nat_lt k (8 * dims_of s + 2) then Injection else Ejection))
      (le-ltb k (8 * dims_of s) past)
      ∙ either (nat_lt k (8 * dims_of s + 2))
    where
      either : (b : Bool) → tile_after s t (if b then Injection else Ejection) ≡ t
      either true = refl
      either false = refl

  pub own_behind : (o : ℕ) → 8 * dims_of s ≤ o → o < port_count (dims_of s) → t ≡ input_router s (output_channel s t o)
  own_behind o past low =
      sym (no_hop (o + 2) (omega (arith, past)))
      ∙ (sym (led (o + 2) (omega (arith, low)))
      ∙ ap (λ (b : Bool). input_router s (if b then t * channels_at_tile s + o else t * channels_at_tile s + (o + 2))) (sym (le-ltb o (8 * dims_of s) past)))
