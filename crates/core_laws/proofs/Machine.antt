-- No dead state of an accepted machine, from what holds of every state that a run reaches.
use Rattle.std.proofs.Common.{◌≡◌, ◌⊎◌, ℕ, ◌<◌, true, List}
use Rattle.torus.specs.Shape.{IsAccepted, tiles_of}
use Rattle.script_lines.specs.declared.line.Line.{Line}
use Rattle.one_order.specs.Scripts.{IsFollowable, Invocation}
use Rattle.one_order.specs.Following.{ShowsPast, is_finished}
use Rattle.one_order.specs.Order.{LinearizationPoint}
use Rattle.core_laws.specs.Rounds.{moves_in}
use Rattle.core_laws.specs.Tile.{Design}
use Rattle.core_laws.specs.Core.{State, step, round}
use Rattle.core_laws.proofs.Stands.{Ghost, Stands, tile_at, flight_of}
use Rattle.core_laws.proofs.ProgressWired.{machine_net}
use Rattle.core_laws.proofs.Told.{flits_tell}
use Rattle.core_laws.proofs.Balance.{AreBalanced}
use Rattle.core_laws.proofs.Out.{ready_with_none_out}
use Rattle.core_laws.proofs.Tags.{tags_tell}
use Rattle.core_laws.specs.ProgressMoves.{IsLive}
use Rattle.core_laws.proofs.EnabledStep.{StandsSo, live_or_finished, round_moves_or_finished}

-- a processor follows its script
pub record IsFollowing (s : State) (p : ℕ) : Type 0 where
  pub lines : List Line
  pub past : List Invocation
  pub accepted : IsFollowable lines
  pub shows : ShowsPast lines past (tile_at s p).processor.operations.following

-- what the proof takes of a state: what stands in every reached state, and that its processors are balanced and follow their scripts
pub record StandsLive (d : Design) (tags : ℕ) (opening : List ℕ) (s : State) (g : Ghost) (order : List LinearizationPoint) : Type 0 where
  pub stands : Stands d tags opening s g order
  pub balanced : AreBalanced (flight_of d.words s g)
  pub following : (p : ℕ) → p < tiles_of d.shape → IsFollowing s p

module _ (d : Design) (tags : ℕ) (opening : List ℕ) (s : State) (g : Ghost) (order : List LinearizationPoint) (accepted : IsAccepted d.shape)
    (deep : 0 < d.depth) (some : 0 < tags) (at : StandsLive d tags opening s g order) where
  stands_so : StandsSo d s g
  stands_so = let base = at.stands in record {
    filled = base.tiles;
    words = base.lines;
    routes = base.routes;
    mirrors = base.mirrors;
    carries = base.carries;
    tell = flits_tell d s g.net accepted base.lines base.routes base.mirrors;
    tags = tags_tell d tags opening s g order some base.flight at.balanced (λ p here none busy.
        let f = at.following p here in
        ready_with_none_out f.lines f.past (tile_at s p).processor.operations.following f.accepted f.shows none busy);
  }

  -- the first enabled step of a round is there, or every script is finished
  pub machine_is_live : IsLive d s ⊎ ((p : ℕ) → p < tiles_of d.shape → is_finished (tile_at s p).processor.operations.following ≡ true)
  machine_is_live = live_or_finished d s g (machine_net d accepted deep) stands_so

  -- a round makes a move, or every script is finished
  pub machine_round_moves : (0 < moves_in (step d) s (round d.shape))
      ⊎ ((p : ℕ) → p < tiles_of d.shape → is_finished (tile_at s p).processor.operations.following ≡ true)
  machine_round_moves = round_moves_or_finished d s g (machine_net d accepted deep) stands_so
