-- Both texts were read, and what they ask for was loaded.
use Rattle.std.specs.Str.Lines.{lines}
use Rattle.machine_parts.specs.Load.{load_of}
use Rattle.machine_core.proofs.BothRead.{load_read}
use Rattle.machine_core.proofs.texts.load.Goals as goal

pub returns-in-Ok-clause-loaded : goal.returns-in-Ok-clause-loaded
returns-in-Ok-clause-loaded g c = record {
  load = load_of c.in_ok-machine.machine c.in_ok-scripts.scripts;
  read = load_read (lines c.args.machine.now) (lines c.args.scripts.now) c.in_ok-machine.machine c.in_ok-scripts.scripts c.in_ok-machine.ensures
      c.in_ok-scripts.ensures.value;
  after = c.in-Ok.ensures.start;
}
