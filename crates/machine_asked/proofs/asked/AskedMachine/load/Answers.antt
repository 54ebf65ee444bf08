-- Both texts were read, and what they ask for was loaded.
use Rattle.std.proofs.Common.{◌≡◌, [], map, Ok, sym, ◌∙◌, ap}
use Rattle.std.specs.Str.Lines.{lines}
use Rattle.machine_parts.specs.Load.{Load, load_of}
use Rattle.machine_core.specs.Loading.{load_by}
use Rattle.machine_core.proofs.BothRead.{load_read}
use Rattle.machine_asked.specs.Asked.{has_spin}
use Rattle.machine_asked.proofs.Standing.{same_load}
use Rattle.machine_asked.proofs.asked.AskedMachine.load.Goals as goal

pub returns-in-Ok-load-clause-loaded : goal.returns-in-Ok-load-clause-loaded
returns-in-Ok-load-clause-loaded g c = record {
  load = load_of c.in_ok-machine.machine c.in_ok-scripts.scripts;
  read = load_read (lines c.args.machine.now) (lines c.args.scripts.now) c.in_ok-machine.machine c.in_ok-scripts.scripts c.in_ok-machine.ensures
      c.in_ok-scripts.ensures.value;
  after = c.in-Ok-load.ensures.start;
}

pub returns-in-Ok-load-clause-spins : goal.returns-in-Ok-load-clause-spins
returns-in-Ok-load-clause-spins g c = λ l is.
    c.in-Ok-spins_of.ensures
    ∙ ap (λ (x : Load). map has_spin x.scripts)
    (same_load (load_of c.in_ok-machine.machine c.in_ok-scripts.scripts) l (load_by (lines c.args.machine.now) (lines c.args.scripts.now))
    (load_read (lines c.args.machine.now) (lines c.args.scripts.now) c.in_ok-machine.machine c.in_ok-scripts.scripts c.in_ok-machine.ensures
    c.in_ok-scripts.ensures.value) is)

pub invariant_of-result : goal.invariant_of-result
invariant_of-result g c =
    let start = c.in-Ok-load.ensures.start in
    record {
      counts = c.in-Ok.ensures ∙ sym start.allowed;
      depth = c.depth-depth.ensures.value ∙ sym start.depth;
      tags = c.tags-tags.ensures.value ∙ sym start.tags;
      asked = record {
        load = load_of c.in_ok-machine.machine c.in_ok-scripts.scripts;
        steps = [];
        after = start;
        spins = c.in-Ok-spins_of.ensures;
      };
    }
