use Rattle.std.proofs.Common.{refl}
use Rattle.machine_parts.proofs.AllSet.{all_255}
use Rattle.machine_parts.proofs.flags.WakeFlags.new.Goals as goal

pub invariant_of-result : goal.invariant_of-result
invariant_of-result g c =
    record {
      accepted = c.tiles-tiles.ensures.accepted;
      flags = refl;
      some = c.requires.some;
      few = c.requires.few;
      words = c.requires.words;
      ends = c.in_ok-ends.ensures;
      all = λ e. all_255 192;
    }
