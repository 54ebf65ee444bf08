-- A new bank's ports are those over empty channels, and its channels are there.
use Rattle.std.proofs.Common.{◌≡◌, ℕ, ◌<◌, List}
use Rattle.std.specs.Prelude.{replicate}
use Rattle.torus.specs.Shape.{Shape, tiles_of}
use Rattle.torus.specs.declared.shape.Class.TheVariants.{Request, Reply}
use Rattle.dateline_route.specs.declared.channel.Kind.TheVariants.{Injection, Ejection}
use Rattle.channel_number.specs.Order.{channel_count}
use Rattle.channel_number.specs.Ports.{injection_channel, ejection_channel}
use Rattle.channel_number.proofs.Orders.{index_below}
use Rattle.flit_buffer.specs.Places.{empty_ring}
use Rattle.flit_buffer.specs.Surroundings.{IsWired, ports_of}
use Rattle.flit_buffer.proofs.EmptyEnds as ends
use Rattle.home_bank.specs.Beginning.{bank_wiring, bank_ports}

module _ (s : Shape) (t : ℕ) (low : t < tiles_of s) where
  ejection_below : ejection_channel s t Request < channel_count s
  ejection_below = index_below s (record { tile = t; class = Request; kind = Ejection }) (record { tile = low; kind = tt })

  injection_below : injection_channel s t Reply < channel_count s
  injection_below = index_below s (record { tile = t; class = Reply; kind = Injection }) (record { tile = low; kind = tt })

  pub is_wired : IsWired (channel_count s) (bank_wiring s t)
  is_wired = ends.is_wired (channel_count s) (ejection_channel s t Request) (injection_channel s t Reply) ejection_below injection_below

pub ports_shown : (s : Shape) (t depth : ℕ) (words : List ℕ) → t < tiles_of s → 0 < depth
    → bank_ports s t depth ≡ ports_of depth (record { rings = replicate (channel_count s) (empty_ring depth); words = words }) (bank_wiring s t)
ports_shown s t depth words low some =
    ends.ports_shown (channel_count s) (ejection_channel s t Request) (injection_channel s t Reply) (ejection_below s t low) (injection_below s t low) depth words some
