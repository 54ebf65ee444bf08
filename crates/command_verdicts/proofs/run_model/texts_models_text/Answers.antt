-- The machine and the scripts are those of the texts.
use Rattle.std.specs.Str.Lines.{lines}
use Rattle.program_fault.specs.Done.{output}
use Rattle.command_verdicts.proofs.RunModels.{of_texts}
use Rattle.command_verdicts.proofs.run_model.texts_models_text.Goals as goal

pub returns : goal.returns
returns g c = of_texts g.row.A.Denot (lines c.args.machine.now) (lines c.args.scripts.now) c.in_ok-machine.machine c.in_ok-scripts.scripts
    c.args.report.now c.args.asked (output (g.W.Out.taken c.args.out.now) (g.W.Out.failures c.args.out.now))
    (output (g.W.Out.taken c.run_models_text.new.out) (g.W.Out.failures c.run_models_text.new.out)) c.run_models_text.result
    c.in_ok-machine.ensures c.in_ok-scripts.ensures.value c.run_models_text.ensures
