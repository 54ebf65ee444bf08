use Rattle.std.proofs.Common.{◌≡◌, ◌<◌, refl, sym, ◌∙◌, ap, subst, arith}
use Rattle.torus.specs.Shape.{Shape, tiles_of}
use Rattle.machine_parts.specs.Machine.{Core}
use Rattle.machine_core.specs.Marked.{MarksTile}
use Rattle.machine_core.proofs.Standing.{few_tiles}
use Rattle.machine_core.proofs.Agents.{tile_within}
use Rattle.machine_core.proofs.Marking.{one_more}
use Rattle.machine_core.proofs.machine.Machine.marks.Goals as goal

pub loop-tile-init : goal.loop-tile-init
loop-tile-init g c = record {
  same = refl;
  marked = record { done = λ t low. absurd (omega (arith, low)); clear = λ t low few. c.none-marks.ensures t few };
}

pub mark_at-requires-clause-tile : goal.mark_at-requires-clause-tile
mark_at-requires-clause-tile g c =
    let shape : c.self.inside.torus ≡ c.args.self.now.shape = ap (λ (v : Core). v.shape) c.self.view_is in
    subst (λ (x : Core). c.loop-tile.tile < tiles_of x.shape) (sym c.loop-tile.invariant.same)
    (subst (λ (s : Shape). c.loop-tile.tile < tiles_of s) shape (omega arith))

pub mark_at-requires-clause-clear : goal.mark_at-requires-clause-clear
mark_at-requires-clause-clear g c =
    let shape : c.self.inside.torus ≡ c.args.self.now.shape = ap (λ (v : Core). v.shape) c.self.view_is in
    let there : c.loop-tile.tile < tiles_of c.args.self.now.shape = subst (λ (s : Shape). c.loop-tile.tile < tiles_of s) shape (omega arith) in
    let few = few_tiles c.self.inside c.self.invariant in
    let long = c.self.inside.tiles.ok.0 in
    let low = tile_within c.self.inside c.self.invariant c.args.self.now c.self.view_is c.loop-tile.tile there in
    c.loop-tile.invariant.marked.clear c.loop-tile.tile (omega arith) (omega (arith, few, long, low))

pub loop-tile-preserved : goal.loop-tile-preserved
loop-tile-preserved g c =
    let is = c.loop-tile.invariant in
    record {
      same = c.mark_at.ensures.same ∙ is.same;
      marked = one_more c.args.self.now c.args.ports c.loop-tile.tile c.loop-tile.marks c.mark_at.new.marks is.marked
          (subst (λ (x : Core). MarksTile x c.args.ports c.loop-tile.tile c.mark_at.new.marks) is.same c.mark_at.ensures.marked)
          c.mark_at.ensures.others;
    }

pub returns-clause-same : goal.returns-clause-same
returns-clause-same g c = c.loop-tile.invariant.same

pub returns-clause-marked : goal.returns-clause-marked
returns-clause-marked g c = λ t low.
    let shape : c.self.inside.torus ≡ c.args.self.now.shape = ap (λ (v : Core). v.shape) c.self.view_is in
    let there : t < tiles_of c.self.inside.torus = subst (λ (s : Shape). t < tiles_of s) (sym shape) low in
    c.loop-tile.invariant.marked.done t (omega (arith, there))
