-- What the three texts ask for was loaded and run, and the moves are those that are no longer left.
use Rattle.std.proofs.Common.{◌-◌, ℕ, List, [], ap, subst, ◌∙◌}
use Rattle.std.specs.Str.Lines.{lines}
use Rattle.torus.specs.declared.step.Step.{Step}
use Rattle.one_order.specs.Load.{Load, load_of}
use Rattle.core_laws.specs.Machine.{IsAfter}
use Rattle.command_texts.proofs.Asked.{all_read}
use Rattle.command_texts.proofs.Telling.{moved_since}
use Rattle.command_texts.proofs.steps.ran.Goals as goal

pub returns-clause-ok : goal.returns-clause-ok
returns-clause-ok g c =
    let load : Load = load_of c.in_ok-machine.machine c.in_ok-scripts.scripts in
    let steps : List Step = c.in_ok-steps.steps.items in
    let after : IsAfter load c.run.new.self steps = subst (λ (list : List Step). IsAfter load c.run.new.self list) c.deref.ensures.value
    (c.run.ensures.runs_on load [] c.in_ok-machine-2.ensures.start) in
    record {
      run = record { load = load; steps = steps };
      read = all_read (lines c.args.machine.now) (lines c.args.scripts.now) (lines c.args.steps.now) c.in_ok-machine.machine c.in_ok-scripts.scripts
          c.in_ok-steps.steps.items c.in_ok-machine.ensures c.in_ok-scripts.ensures.value c.in_ok-steps.ensures;
      after = after;
      reached = c.steps_decide_the_machine.ensures.named load c.run.new.self steps after;
    }

pub returns-clause-moved : goal.returns-clause-moved
returns-clause-moved g c =
    let load : Load = load_of c.in_ok-machine.machine c.in_ok-scripts.scripts in
    let steps : List Step = c.in_ok-steps.steps.items in
    let after : IsAfter load c.run.new.self steps = subst (λ (list : List Step). IsAfter load c.run.new.self list) c.deref.ensures.value
    (c.run.ensures.runs_on load [] c.in_ok-machine-2.ensures.start) in
    record {
      run = record { load = load; steps = steps };
      read = all_read (lines c.args.machine.now) (lines c.args.scripts.now) (lines c.args.steps.now) c.in_ok-machine.machine c.in_ok-scripts.scripts
          c.in_ok-steps.steps.items c.in_ok-machine.ensures c.in_ok-scripts.ensures.value c.in_ok-steps.ensures;
      made = c.moves_since-moves.ensures
          ∙ (ap (λ (n : ℕ). n - c.run.new.self.moves_left) c.moves_left-most.ensures.value
          ∙ moved_since load c.in_ok-machine-2.machine c.run.new.self steps c.in_ok-machine-2.ensures.start after c.moves_are_counted.ensures.all);
    }
