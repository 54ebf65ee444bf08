-- While a script isn't finished, the first enabled step of a round is there.
use Rattle.std.proofs.Common.{◌≡◌, ◌⊎◌, ⊎_elim, ℕ, ◌<◌, true, length, Option, Some, None, inl, inr, refl}
use Rattle.torus.specs.Shape.{tiles_of}
use Rattle.torus.specs.declared.shape.Class.TheVariants.{Request, Reply}
use Rattle.torus.specs.declared.step.Step.{Step}
use Rattle.one_order.specs.Following.{is_finished}
use Rattle.wormhole.specs.Net.{IsNet, IsOn}
use Rattle.wormhole.specs.Words.{Words}
use Rattle.wormhole.specs.Routes.{Routes}
use Rattle.wormhole.specs.Ends.{AreTiles}
use Rattle.core_laws.specs.Rounds.{moves_in}
use Rattle.core_laws.proofs.Rounds.{none_enabled, round_moves}
use Rattle.wormhole.proofs.Quiescence.{or_all}
use Rattle.channel_number.specs.Ports.{injection_channel, ejection_channel}
use Rattle.core_laws.specs.Tile.{Design}
use Rattle.core_laws.specs.Core.{State, step, round}
use Rattle.core_laws.proofs.Projection.{net_of}
use Rattle.core_laws.proofs.Stands.{tile_at, Ghost, Mirrors, Carries}
use Rattle.core_laws.specs.ProgressMoves.{enabled_step, IsLive}
use Rattle.core_laws.proofs.Steps.{IsThere}
use Rattle.core_laws.proofs.Wires.{AreWires, FlitsTell, ends_of}
use Rattle.core_laws.proofs.Lives.{TagsTell, machine_lives}

-- an enabled attempt of a round makes the state live
found : (d : Design) (s : State) (a : Step) → IsOn a (round d.shape) → IsThere (step d s a) → (o : Option Step) → enabled_step d s ≡ o → IsLive d s
found d s a on there (Some b) is = (b, is)
found d s a on there None is = absurd (none_enabled (step d) s there.0 a (round d.shape) is on there.1)

-- what is asked of the wiring
pub record IsMachineNet (d : Design) : Type 0 where
  pub net : IsNet (net_of d)
  pub deep : 0 < (net_of d).depth
  pub wires : AreWires d
  pub tiles : AreTiles (net_of d) (ends_of d)
  pub joins_requests : (p b : ℕ) → p < tiles_of d.shape → b < tiles_of d.shape
      → (net_of d).joins (injection_channel d.shape p Request) (ejection_channel d.shape b Request) ≡ true
  pub joins_replies : (b p : ℕ) → b < tiles_of d.shape → p < tiles_of d.shape
      → (net_of d).joins (injection_channel d.shape b Reply) (ejection_channel d.shape p Reply) ≡ true
  pub injects : (t : ℕ) → t < tiles_of d.shape → (net_of d).injects (injection_channel d.shape t Request) ≡ true

-- what is asked of a state
pub record StandsSo (d : Design) (s : State) (g : Ghost) : Type 0 where
  pub filled : length s.tiles ≡ tiles_of d.shape
  pub words : Words (net_of d) g.net
  pub routes : Routes (net_of d) g.net
  pub mirrors : Mirrors d s g.net.lines
  pub carries : Carries d s g
  pub tell : FlitsTell d s
  pub tags : TagsTell d s g

-- No dead state: an enabled step is found, or every script is finished.
pub live_or_finished : (d : Design) (s : State) (g : Ghost) → IsMachineNet d → StandsSo d s g
    → IsLive d s ⊎ ((p : ℕ) → p < tiles_of d.shape → is_finished (tile_at s p).processor.operations.following ≡ true)
live_or_finished d s g net at = or_all (IsLive d s) (λ p. is_finished (tile_at s p).processor.operations.following ≡ true) (tiles_of d.shape)
    (machine_lives d s g (IsLive d s) at.filled (λ a on there. found d s a on there (enabled_step d s) refl) net.net net.deep at.words at.routes at.mirrors
    at.carries
    net.wires at.tell net.tiles at.tags net.joins_requests net.joins_replies net.injects)

-- and then a round makes a move
pub round_moves_or_finished : (d : Design) (s : State) (g : Ghost) → IsMachineNet d → StandsSo d s g
    → (0 < moves_in (step d) s (round d.shape)) ⊎ ((p : ℕ) → p < tiles_of d.shape → is_finished (tile_at s p).processor.operations.following ≡ true)
round_moves_or_finished d s g net at = ⊎_elim
    (λ (live : IsLive d s). inl (round_moves (step d) s live.0 (round d.shape) live.1))
    (λ (all : (p : ℕ) → p < tiles_of d.shape → is_finished (tile_at s p).processor.operations.following ≡ true). inr all)
    (live_or_finished d s g net at)
