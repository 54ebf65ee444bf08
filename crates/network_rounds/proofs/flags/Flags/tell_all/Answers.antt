use Rattle.std.proofs.Common.{◌∙◌}
use Rattle.network_rounds.proofs.Told.{tells_again}
use Rattle.network_rounds.proofs.flags.Flags.tell_all.Goals as goal

pub loop-x-preserved : goal.loop-x-preserved
loop-x-preserved g c = record {
  places = c.tell_channel.ensures.places ∙ c.loop-x.invariant.places;
  flags = λ choices h.
      tells_again c.args.machine.now choices c.loop-x.x c.loop-x.self c.tell_channel.new.self c.tell_channel.ensures.flags (c.loop-x.invariant.flags choices h);
}
