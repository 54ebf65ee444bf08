use Rattle.std.proofs.Common.{ℕ, ◌*◌, List, ◌∙◌, ap}
use Rattle.core_laws.specs.Waking.{processors}
use Rattle.machine_parts.proofs.SetFlags.{set_at, processor_more, still_tell}
use Rattle.machine_parts.proofs.flags.WakeFlags.wake_processors.Goals as goal

pub invariant_of-self : goal.invariant_of-self
invariant_of-self g c =
    let h = c.loop-tile.invariant in
    still_tell c.self.inside c.loop-tile.self-inside c.self.invariant h.torus h.depth h.words h.ends 16 (processors c.loop-tile.tile) h.awake h.all

pub loop-tile-preserved : goal.loop-tile-preserved
loop-tile-preserved g c =
    let h = c.loop-tile.invariant in
    record {
      all = h.all;
      torus = h.torus;
      depth = h.depth;
      words = h.words;
      ends = h.ends;
      awake = ap (λ (fs : List ℕ). set_at fs 16 (3 * c.loop-tile.tile)) h.awake ∙ processor_more c.self.inside.awake 16 c.loop-tile.tile;
    }
