-- The machine's wires are all there, and its network is one.
use Rattle.std.proofs.Common.{◌≡◌, ◌⊎◌, ℕ, ◌<◌, inl, inr, refl, sym, ◌∙◌, ap}
use Rattle.torus.specs.Shape.{IsAccepted, tiles_of}
use Rattle.torus.specs.declared.shape.Class.{Class}
use Rattle.torus.specs.declared.shape.Class.TheVariants.{Request, Reply}
use Rattle.wormhole.specs.Net.{IsNet}
use Rattle.core_laws.specs.Ends.{IsEjection}
use Rattle.channel_number.proofs.Ports.{has_input, has_output}
use Rattle.core_laws.proofs.TorusEnds.{is_injection_at, is_ejection_at, ends_are, replies_above}
use Rattle.core_laws.proofs.Facts.{is_net}
use Rattle.wormhole.specs.Ends.{AreTiles}
use Rattle.channel_number.specs.Ports.{ejection_channel, input_router, input_port, output_router, output_port}
use Rattle.core_laws.specs.Tile.{Design}
use Rattle.core_laws.proofs.Projection.{net_of}
use Rattle.core_laws.proofs.ChannelFacts.{joined, injects_at}
use Rattle.core_laws.proofs.Wires.{AreWires, ends_of}
use Rattle.core_laws.proofs.EnabledStep.{IsMachineNet}

-- each channel of an accepted machine comes from an end or a router, and goes to an end or a router
pub wires : (d : Design) → IsAccepted d.shape → AreWires d
unfolding net_of
wires d accepted = record {
  count = refl;
  inputs = λ x within e. let at = has_input d.shape accepted x within e in
      record { tile = input_router d.shape x; port = input_port d.shape x; here = at.tile; low = at.port; is = sym at.same };
  outputs = λ x within e. let at = has_output d.shape x within e in
      record { tile = output_router d.shape x; port = output_port d.shape x; here = at.tile; low = at.port; is = sym at.same };
  injections = λ x within e. let at = is_injection_at d.shape x within e in record { tile = at.tile; class = at.class; here = at.here; is = at.same };
  ejections = λ x within e. let at = is_ejection_at d.shape x within e in record { tile = at.tile; class = at.class; here = at.here; is = at.same };
  injects = λ t class here. (ends_are d.shape d.depth t class here).injection_here;
  ejects = λ t class here. (ends_are d.shape d.depth t class here).ejection_here;
}

-- a receiver is a processor's or a bank's
receiver : (d : Design) (x : ℕ) (at : IsEjection d.shape x) (class : Class) → at.class ≡ class
    → ((p : ℕ) × (p < tiles_of d.shape) × (x ≡ ejection_channel d.shape p Reply))
    ⊎ ((b : ℕ) × (b < tiles_of d.shape) × (x ≡ ejection_channel d.shape b Request))
receiver d x at Reply is = inl (at.tile, at.here, at.same ∙ ap (ejection_channel d.shape at.tile) is)
receiver d x at Request is = inr (at.tile, at.here, at.same ∙ ap (ejection_channel d.shape at.tile) is)

pub tiles_are : (d : Design) → AreTiles (net_of d) (ends_of d)
unfolding net_of
tiles_are d = record {
  receivers = λ x within e. let at = is_ejection_at d.shape x within e in receiver d x at at.class refl;
  asks_within = λ p here. (ends_are d.shape d.depth p Request here).injection_here;
  hears_within = λ p here. (ends_are d.shape d.depth p Reply here).ejection_here;
  serves_within = λ b here. (ends_are d.shape d.depth b Request here).ejection_here;
  replies_within = λ b here. (ends_are d.shape d.depth b Reply here).injection_here;
  above = λ b here. replies_above d.shape d.depth b b here here;
}

pub net_is : (d : Design) → IsAccepted d.shape → IsNet (net_of d)
unfolding net_of
net_is d accepted = is_net d.shape d.depth accepted

deep_is : (d : Design) → 0 < d.depth → 0 < (net_of d).depth
unfolding net_of
deep_is d deep = deep

-- an accepted machine's network
pub machine_net : (d : Design) → IsAccepted d.shape → 0 < d.depth → IsMachineNet d
machine_net d accepted deep = record {
  net = net_is d accepted;
  deep = deep_is d deep;
  wires = wires d accepted;
  tiles = tiles_are d;
  joins_requests = λ p b hp hb. joined d p b Request hp hb;
  joins_replies = λ b p hb hp. joined d b p Reply hb hp;
  injects = λ t here. injects_at d t Request;
}
