-- A packet's way through the network, channel by channel, as each router's choice makes it.
use Rattle.std.specs.Prelude.{◌≡◌, ℕ, ◌<◌, List, [], ◌∷◌}
use Rattle.torus.specs.Shape.{Shape, IsNeighbour, dims_of, tiles_of}
use Rattle.torus.specs.declared.shape.Class.{Class}
use Rattle.dateline_route.specs.declared.channel.Channel.{Channel}
use Rattle.dateline_route.specs.declared.channel.Kind.{Kind}
use Rattle.dateline_route.specs.declared.channel.Kind.TheVariants.{Injection, Hop, Ejection}
use Rattle.dateline_route.specs.declared.channel.Input.{Input}
use Rattle.dateline_route.specs.declared.channel.Input.TheVariants.{Inject, Hop as From}
use Rattle.dateline_route.specs.declared.channel.Output.{Output}
use Rattle.dateline_route.specs.declared.channel.Output.TheVariants.{Eject, Hop as To}
use Rattle.dateline_route.specs.Next.{next_of}

-- a hop lies in a dimension of the torus; an injection or an ejection in none (Dally and Towles,
-- chapter 5)
abbrev pub IsInside : Shape → Kind → Type 0
IsInside s (Hop d dir bit) = d < dims_of s
IsInside s _ = Unit {0}

-- a channel of the torus: of one of its tiles and dimensions (Dally and Towles, chapter 5)
pub record IsChannel (s : Shape) (x : Channel) : Type 0 where
  pub tile : x.tile < tiles_of s
  pub kind : IsInside s x.kind

-- a channel that leads from tile to tile (Dally and Towles, chapter 5)
abbrev pub IsHop : Kind → Type 0
IsHop (Hop d dir bit) = Unit {0}
IsHop _ = ⊥

-- the channels out of tile t of this kind lead to the router of tile u:
-- an injection to its own, a hop to its neighbour's, an ejection to none (Dally and Towles, chapter
-- 5)
abbrev pub LeadsTo : Shape → ℕ → Kind → ℕ → Type 0
LeadsTo s t Injection u = u ≡ t
LeadsTo s t (Hop d dir bit) u = IsNeighbour s t d dir u
LeadsTo s t Ejection u = ⊥

-- the input by which a packet comes that took a channel of this kind (Dally and Towles, chapter 8)
abbrev pub input_of : Kind → Input
input_of Injection = Inject
input_of (Hop d dir bit) = From d dir bit
input_of Ejection = Inject

-- the kind of the channel on which an output puts a packet (Dally and Towles, chapter 8)
abbrev pub kind_of : Output → Kind
kind_of Eject = Ejection
kind_of (To d dir bit) = Hop d dir bit

-- a packet for tile dst that took channel x takes channel y next: the router to which x leads
-- chooses it (Dally and Towles, chapter 8)
pub record Follows (s : Shape) (dst : ℕ) (x y : Channel) : Type 0 where
  pub tile : LeadsTo s x.tile x.kind y.tile
  pub choice : kind_of (next_of s y.tile (input_of x.kind) dst) ≡ y.kind
  pub class : y.class ≡ x.class

-- a packet for tile dst that took channel x takes these channels in turn, up to an ejection (Dally
-- and Towles, chapter 8)
abbrev pub WalksOn : Shape → ℕ → Channel → List Channel → Type 0
WalksOn s dst x [] = x.kind ≡ Ejection
WalksOn s dst x (y ∷ ys) = Follows s dst x y × WalksOn s dst y ys

-- a packet that is injected at tile src for tile dst takes these channels in turn, up to an
-- ejection (Dally and Towles, chapter 8)
abbrev pub IsWalk : Shape → ℕ → ℕ → Class → List Channel → Type 0
IsWalk s src dst class [] = ⊥
IsWalk s src dst class (x ∷ xs) =
    (x ≡ record { tile = src; class = class; kind = Injection }) × WalksOn s dst x xs
