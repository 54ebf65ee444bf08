-- The ends of a torus's network: the injections and ejections of its tiles.
use Rattle.std.specs.Prelude.{◌≡◌, ℕ, ◌<◌, true, false}
use Rattle.torus.specs.Shape.{Shape, tiles_of}
use Rattle.torus.specs.declared.shape.Class.{Class}
use Rattle.channel_number.specs.Ports.{injection_channel, ejection_channel}
use Rattle.wormhole.specs.Net.{Net}

-- a channel is the injection of a tile for a class
pub record IsInjection (s : Shape) (x : ℕ) : Type 0 where
  pub tile : ℕ
  pub class : Class
  pub here : tile < tiles_of s
  pub same : x ≡ injection_channel s tile class

-- a channel is the ejection of a tile for a class
pub record IsEjection (s : Shape) (x : ℕ) : Type 0 where
  pub tile : ℕ
  pub class : Class
  pub here : tile < tiles_of s
  pub same : x ≡ ejection_channel s tile class

-- what the network says of a tile's injection and ejection for a class
pub record AreTorusEnds (n : Net) (s : Shape) (t : ℕ) (class : Class) : Type 0 where
  pub injection_here : injection_channel s t class < n.channels
  pub ejection_here : ejection_channel s t class < n.channels
  pub injects : n.injects (injection_channel s t class) ≡ true
  pub ejects : n.ejects (ejection_channel s t class) ≡ true
  pub leads : n.ejects (injection_channel s t class) ≡ false
  pub leaves : n.injects (ejection_channel s t class) ≡ false
