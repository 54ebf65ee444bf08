-- What the three texts ask for was read and loaded.
use Rattle.std.proofs.Common.{refl}
use Rattle.std.specs.Str.Lines.{lines}
use Rattle.one_order.specs.Load.{load_of}
use Rattle.command_schedule.proofs.Read.{all_read}
use Rattle.command_schedule.proofs.moves.open_texts.Goals as goal

pub returns-clause-ok : goal.returns-clause-ok
returns-clause-ok g c = record {
  given = record { load = load_of c.in_ok-machine.machine c.in_ok-scripts.scripts; steps = c.in_ok-steps.steps.items };
  read = all_read (lines c.args.machine.now) (lines c.args.scripts.now) (lines c.args.steps.now) c.in_ok-machine.machine c.in_ok-scripts.scripts
      c.in_ok-steps.steps.items c.in_ok-machine.ensures c.in_ok-scripts.ensures.value c.in_ok-steps.ensures;
  after = c.in_ok-machine-2.ensures.start;
  are = refl;
}
