use Rattle.std.proofs.Common.{◌≤◌, Some, None, true≢false, arith, refl, subst}
use Rattle.torus.specs.Shape.{tiles_of}
use Rattle.fabric_rule.specs.Runs.{IsAcceptedLoad}
use Rattle.fabric.specs.Ending.{Ended}
use Rattle.fabric.proofs.EndsShown.{slot_at}
use Rattle.fabric.proofs.Closing.{tile_there, tile_stands, tile_missing}
use Rattle.fabric.proofs.ending.Final.tile.Goals as goal

pub returns-then-at-len-clause-none : goal.returns-then-at-len-clause-none
returns-then-at-len-clause-none g c =
    let n = c.self.inside.slots.ok.0 in
    let r = c.self.invariant.0.tiles.room in
    ((λ _. subst (λ (e : Ended). tiles_of e.load.shape ≤ c.args.number) c.self.view_is (omega (arith, n, r))), (λ _. refl))

pub returns-in_default-clause-none : goal.returns-in_default-clause-none
returns-in_default-clause-none g c =
    absurd (tile_missing c.self.inside.slots.items _ c.args.number c.self.invariant.0.tiles
    (slot_at c.self.inside.slots c.args.number c.index.result.now None (omega arith) c.index.ensures c.in_default.is))

pub returns-clause-none : goal.returns-clause-none
returns-clause-none g c = (
  (λ e. absurd (true≢false e)),
  (λ past.
      let lt = tile_there c.self.inside.slots.items _ c.args.self.now c.args.number _ c.self.view_is c.self.invariant.0.tiles
      (slot_at c.self.inside.slots c.args.number c.index.result.now (Some c.in-Some.tile) (omega arith) c.index.ensures c.in-Some.is) in
      absurd (omega (arith, past, lt))),
)

pub returns-clause-some : goal.returns-clause-some
returns-clause-some g c =
    tile_stands c.self.inside.slots.items _ c.args.self.now c.args.number c.in-Some.tile c.self.view_is c.self.invariant.0.tiles
    (slot_at c.self.inside.slots c.args.number c.index.result.now (Some c.in-Some.tile) (omega arith) c.index.ensures c.in-Some.is)

pub returns-then-at-len-clause-accepted : goal.returns-then-at-len-clause-accepted
returns-then-at-len-clause-accepted g c = subst (λ (e : Ended). IsAcceptedLoad e.load) c.self.view_is c.self.invariant.0.accepted

pub returns-in_default-clause-accepted : goal.returns-in_default-clause-accepted
returns-in_default-clause-accepted g c = subst (λ (e : Ended). IsAcceptedLoad e.load) c.self.view_is c.self.invariant.0.accepted

pub returns-clause-accepted : goal.returns-clause-accepted
returns-clause-accepted g c = subst (λ (e : Ended). IsAcceptedLoad e.load) c.self.view_is c.self.invariant.0.accepted
